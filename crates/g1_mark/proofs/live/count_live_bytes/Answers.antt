use Rattle.std.proofs.Common.{◌≡◌, ◌∙◌, ap, sym, subst, Contains}
use Rattle.std.specs.List.{All}
use Rattle.std.specs.Prelude.{IfSome}
use Rattle.g1_words.specs.Heap.{object_at, objects}
use Rattle.g1_words.specs.Layout.{sizes_of}
use Rattle.g1_words.specs.Survivors.{Survivors, firsts}
use Rattle.g1_words.proofs.LiveBytes.{live_bytes_unique}
use Rattle.g1_words.proofs.Lists.{all_from_in}
use Rattle.g1_frontier.specs.Found.{IsSeen}
use Rattle.g1_mark.specs.Marked.{used}
use Rattle.g1_mark.proofs.Counting.{found_objects, found_once, live_counted}
use Rattle.g1_mark.proofs.live.count_live_bytes.Goals as goal

pub bytes_of-requires-clause-objects : goal.bytes_of-requires-clause-objects
bytes_of-requires-clause-objects g c =
    let h = c.args.heap.now in
    let l = c.in_ok-live.live.survivors.items in
    subst (All (λ a. Contains (objects h) (object_at h a))) (sym c.as_slice-objects.ensures.value)
    (all_from_in (λ a. Contains (objects h) (object_at h a)) l (found_objects h c.found_live.ensures.valid l c.in_ok-live.ensures.ok.survivors))

pub bytes_of-requires-clause-once : goal.bytes_of-requires-clause-once
bytes_of-requires-clause-once g c =
    let l = c.in_ok-live.live.survivors.items in
    subst (λ l. l ≡ firsts l) (sym c.as_slice-objects.ensures.value) (found_once c.args.heap.now c.found_live.ensures.valid l c.in_ok-live.ensures.ok.survivors)

pub bytes_of-requires-clause-sizes : goal.bytes_of-requires-clause-sizes
bytes_of-requires-clause-sizes g c =
    let h = c.args.heap.now in
    let l = c.in_ok-live.live.survivors.items in
    let seen : IsSeen h (used h) l c.in-Some.seen = subst (λ o. IfSome o (IsSeen h (used h) l)) c.in-Some.is c.in_ok-live.ensures.ok.seen in
    c.as_slice.ensures.value ∙ seen.sizes ∙ ap (sizes_of h) (sym c.as_slice-objects.ensures.value)

pub bytes_at_by-requires-clause-objects : goal.bytes_at_by-requires-clause-objects
bytes_at_by-requires-clause-objects g c κs within =
    let h = c.args.heap.now in
    let l = c.in_ok-live.live.survivors.items in
    subst (All (λ a. Contains (objects h) (object_at h a))) (sym c.as_slice-objects.ensures.value)
    (all_from_in (λ a. Contains (objects h) (object_at h a)) l (found_objects h c.found_live.ensures.valid l c.in_ok-live.ensures.ok.survivors))

pub bytes_at_by-requires-clause-once : goal.bytes_at_by-requires-clause-once
bytes_at_by-requires-clause-once g c κs within =
    let l = c.in_ok-live.live.survivors.items in
    subst (λ l. l ≡ firsts l) (sym c.as_slice-objects.ensures.value) (found_once c.args.heap.now c.found_live.ensures.valid l c.in_ok-live.ensures.ok.survivors)

pub returns-in-Some-clause-ok : goal.returns-in-Some-clause-ok
returns-in-Some-clause-ok g c =
    let h = c.args.heap.now in
    let found : Survivors h (used h) c.as_slice-objects.result.now = subst (Survivors h (used h)) (sym c.as_slice-objects.ensures.value) c.in_ok-live.ensures.ok.survivors in
    live_counted h c.found_live.ensures.valid c.as_slice-objects.result.now found c.in_ok-bytes_of-in-Some.field-0.items c.in_ok-bytes_of-in-Some.ensures

pub returns-in-Some-clause-only : goal.returns-in-Some-clause-only
returns-in-Some-clause-only g c =
    let h = c.args.heap.now in
    let found : Survivors h (used h) c.as_slice-objects.result.now = subst (Survivors h (used h)) (sym c.as_slice-objects.ensures.value) c.in_ok-live.ensures.ok.survivors in
    λ l e. live_bytes_unique h l c.in_ok-bytes_of-in-Some.field-0.items e (live_counted h c.found_live.ensures.valid c.as_slice-objects.result.now found c.in_ok-bytes_of-in-Some.field-0.items c.in_ok-bytes_of-in-Some.ensures)

pub returns-clause-ok : goal.returns-clause-ok
returns-clause-ok g c =
    let h = c.args.heap.now in
    let found : Survivors h (used h) c.as_slice-objects.result.now = subst (Survivors h (used h)) (sym c.as_slice-objects.ensures.value) c.in_ok-live.ensures.ok.survivors in
    live_counted h c.found_live.ensures.valid c.as_slice-objects.result.now found c.in_ok-bytes_at_by-in-None.field-0.items c.in_ok-bytes_at_by-in-None.ensures

pub returns-clause-only : goal.returns-clause-only
returns-clause-only g c =
    let h = c.args.heap.now in
    let found : Survivors h (used h) c.as_slice-objects.result.now = subst (Survivors h (used h)) (sym c.as_slice-objects.ensures.value) c.in_ok-live.ensures.ok.survivors in
    λ l e. live_bytes_unique h l c.in_ok-bytes_at_by-in-None.field-0.items e (live_counted h c.found_live.ensures.valid c.as_slice-objects.result.now found c.in_ok-bytes_at_by-in-None.field-0.items c.in_ok-bytes_at_by-in-None.ensures)
