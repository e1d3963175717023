use Rattle.std.proofs.Common.{sym, subst}
use Rattle.g1_words.specs.Heap.{Heap}
use Rattle.g1_words.specs.Survivors.{Survivors}
use Rattle.g1_mark.specs.Marked.{used}
use Rattle.g1_explain.proofs.Reasons.{some_of, none_of, found_objects, live_search, live_found, live_none}
use Rattle.g1_explain.proofs.keeping.live_path.Goals as goal

pub returns-clause-some : goal.returns-clause-some
returns-clause-some g c =
    let h : Heap = c.args.walkable.now.heap in
    let found : Survivors h (used h) c.deref.result.now =
    subst (Survivors h (used h)) (sym c.deref.ensures.value) (subst (λ (g : Heap). Survivors g (used g) c.in_ok-live.live.items) c.heap-heap.ensures.same c.in_ok-live.ensures.ok) in
    some_of _ _ (λ v p. live_found h c.heap-heap.ensures.valid.heap c.deref.result.now found c.args.at v.items p) c.path_to.result c.path_to.ensures.some

pub returns-clause-none : goal.returns-clause-none
returns-clause-none g c =
    let h : Heap = c.args.walkable.now.heap in
    let found : Survivors h (used h) c.deref.result.now =
    subst (Survivors h (used h)) (sym c.deref.ensures.value) (subst (λ (g : Heap). Survivors g (used g) c.in_ok-live.live.items) c.heap-heap.ensures.same c.in_ok-live.ensures.ok) in
    none_of _ _ (live_none h c.heap-heap.ensures.valid.heap c.deref.result.now found c.args.at) c.path_to.result c.path_to.ensures.none

pub path_to-requires : goal.path_to-requires
path_to-requires g c =
    let h : Heap = c.args.walkable.now.heap in
    let found : Survivors h (used h) c.deref.result.now =
    subst (Survivors h (used h)) (sym c.deref.ensures.value) (subst (λ (g : Heap). Survivors g (used g) c.in_ok-live.live.items) c.heap-heap.ensures.same c.in_ok-live.ensures.ok) in
    record { objects = found_objects h (used h) c.deref.result.now c.heap-heap.ensures.valid.heap found; search = (used h, live_search h c.heap-heap.ensures.valid.heap c.deref.result.now found c.args.at) }
