use Rattle.std.proofs.Common.{◌≡◌, ◌<◌, ◌*◌, ◌∙◌, ℕ, List, length, get_or, take, drop, map, ap, sym, subst, arith, All, Contains}
use Rattle.std.specs.Prelude.{Ok}
use Rattle.std.proofs.lemmas.List.Elements.{All-take, All-drop}
use Rattle.g1_words.specs.Heap.{regions, object_at, objects}
use Rattle.g1_words.specs.Lists.{has}
use Rattle.g1_words.specs.Live.{bytes_where}
use Rattle.g1_words.specs.Survivors.{firsts}
use Rattle.g1_work.proofs.Chunks.{all_chunks}
use Rattle.g1_mark.proofs.Counting.{AreBytesOf, zeros, counted_none, counted_all}
use Rattle.g1_mark.proofs.Parts.{part_once, as_long, sums_small, counted_parts, added_part}
use Rattle.g1_mark.proofs.bytes.bytes_by_threads.Goals as goal

pub loop-part-init : goal.loop-part-init
loop-part-init g c =
    let h = c.args.heap.now in
    let none : 0 ≡ 0 * c.max-size.result = omega arith in
    subst (λ n. AreBytesOf h (take n c.args.addresses.now) c.in_ok-bytes.bytes.items) none
    (counted_none h c.geometry.ensures.valid c.in_ok-bytes.bytes.items (c.in_ok-bytes.ensures.items_if_clones_equal (λ y same. same)
    ∙ ap zeros (c.regions.ensures.value ∙ ap (λ g. g.n) c.geometry.ensures.same)))

pub returns : goal.returns
returns g c =
    let h = c.args.heap.now in
    let whole = all_chunks c.args.addresses.now c.max-size.result c.loop-part.part-index
    (omega (arith, c.max-size.ensures)) (omega (arith, ap length c.deref-part-items.ensures.value, c.loop-part-test.false, c.loop-part.auto.part-index-end, c.in_ok-parts.ensures.len)) in
    counted_all h c.geometry.ensures.valid c.args.addresses.now c.loop-part.bytes.items (subst (λ l. AreBytesOf h l c.loop-part.bytes.items) whole c.loop-part.invariant)

pub map_chunks-requires-clause-accepts : goal.map_chunks-requires-clause-accepts
map_chunks-requires-clause-accepts g c κs within = λ start p chunk.
    let h = c.args.heap.now in
    let xs : List ℕ = c.args.addresses.now in
    let size : ℕ = c.max-size.result in
    let there : ℕ → Type 0 = λ a. Contains (objects h) (object_at h a) in (
      subst (All there) (sym chunk.value) (All-take there size (drop start xs) (All-drop there start xs c.requires.objects)),
      subst (λ (l : List ℕ). l ≡ firsts l) (sym chunk.value) (part_once xs c.requires.once start size),
    )

pub add_each-requires-clause-same : goal.add_each-requires-clause-same
add_each-requires-clause-same g c =
    let h = c.args.heap.now in
    let xs : List ℕ = c.args.addresses.now in
    let i : ℕ = c.loop-part.part-index in
    let size : ℕ = c.max-size.result in
    let lt : i < length c.in_ok-parts.parts.items = omega (arith, ap length c.deref-part-items.ensures.value, c.loop-part-test.true) in
    let call = (c.in_ok-parts.ensures.each i c.part-item.result lt).1 in
    let read : get_or c.in_ok-parts.parts.items i c.part-item.result ≡ Ok c.in-Ok.more =
    ap (λ xs. get_or xs i c.part-item.result) (sym c.deref-part-items.ensures.value) ∙ sym c.part-item.is ∙ c.in-Ok.is in
    let part : c.deref.result.now ≡ map (bytes_where h (has (take size (drop (i * size) xs)))) (regions h) =
    c.deref.ensures.value ∙ added_part h (get_or c.in_ok-parts.parts.items i c.part-item.result) c.in-Ok.more call.argument.now (take size (drop (i * size) xs)) read call.call call.argument_is.value in
    as_long h xs c.requires.once i size c.loop-part.bytes.items c.deref.result.now c.loop-part.invariant part

pub add_each-requires-clause-few : goal.add_each-requires-clause-few
add_each-requires-clause-few g c =
    let h = c.args.heap.now in
    let xs : List ℕ = c.args.addresses.now in
    let i : ℕ = c.loop-part.part-index in
    let size : ℕ = c.max-size.result in
    let lt : i < length c.in_ok-parts.parts.items = omega (arith, ap length c.deref-part-items.ensures.value, c.loop-part-test.true) in
    let call = (c.in_ok-parts.ensures.each i c.part-item.result lt).1 in
    let read : get_or c.in_ok-parts.parts.items i c.part-item.result ≡ Ok c.in-Ok.more =
    ap (λ xs. get_or xs i c.part-item.result) (sym c.deref-part-items.ensures.value) ∙ sym c.part-item.is ∙ c.in-Ok.is in
    let part : c.deref.result.now ≡ map (bytes_where h (has (take size (drop (i * size) xs)))) (regions h) =
    c.deref.ensures.value ∙ added_part h (get_or c.in_ok-parts.parts.items i c.part-item.result) c.in-Ok.more call.argument.now (take size (drop (i * size) xs)) read call.call call.argument_is.value in
    sums_small h xs c.requires.once i size c.loop-part.bytes.items c.deref.result.now c.loop-part.invariant part c.geometry.ensures.valid

pub loop-part-preserved : goal.loop-part-preserved
loop-part-preserved g c =
    let h = c.args.heap.now in
    let xs : List ℕ = c.args.addresses.now in
    let i : ℕ = c.loop-part.part-index in
    let size : ℕ = c.max-size.result in
    let lt : i < length c.in_ok-parts.parts.items = omega (arith, ap length c.deref-part-items.ensures.value, c.loop-part-test.true) in
    let call = (c.in_ok-parts.ensures.each i c.part-item.result lt).1 in
    let read : get_or c.in_ok-parts.parts.items i c.part-item.result ≡ Ok c.in-Ok.more =
    ap (λ xs. get_or xs i c.part-item.result) (sym c.deref-part-items.ensures.value) ∙ sym c.part-item.is ∙ c.in-Ok.is in
    let part : c.deref.result.now ≡ map (bytes_where h (has (take size (drop (i * size) xs)))) (regions h) =
    c.deref.ensures.value ∙ added_part h (get_or c.in_ok-parts.parts.items i c.part-item.result) c.in-Ok.more call.argument.now (take size (drop (i * size) xs)) read call.call call.argument_is.value in
    counted_parts h xs c.requires.once i size c.loop-part.bytes.items c.deref.result.now c.loop-part.invariant part c.add_each.new.bytes.items c.add_each.ensures.same c.add_each.ensures.sums
