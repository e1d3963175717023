use Rattle.std.proofs.Common.{◌≡◌, ◌≤◌, ◌<◌, ◌+◌, ◌*◌, ◌∙◌, [], ℕ, length, get_or, map, replicate, arith, ap, subst, sym}
use Rattle.std.specs.List.{range_with_len}
use Rattle.std.proofs.lemmas.Grind.{div_ceil_times}
use Rattle.std.proofs.lemmas.List.{length-map, with_items_is}
use Rattle.std.proofs.lemmas.List.FromFn.{length-map-range_with_len, length-range_with_len}
use Rattle.std.proofs.lemmas.Slice.Zip.{AllZip-long}
use Rattle.g1_words.specs.Geometry.{Geometry}
use Rattle.g1_copy.specs.Links.{cards_by_region, part_cards}
use Rattle.g1_image.proofs.ShapedRanges.{zip_at}
use Rattle.g1_copy.proofs.LinkingCards.{linked_none}
use Rattle.g1_copy.proofs.LinkingParts.{parts_all, parts_more, parts_none, slots_to}
use Rattle.g1_copy.proofs.copied_cards.cards_by_threads.Goals as goal

pub loop-part-init : goal.loop-part-init
loop-part-init g c =
    let h = c.args.copied.now.heap in
    let count : c.regions.result ≡ c.args.copied.now.heap.geometry.n = c.regions.ensures.value ∙ ap (λ (g : Geometry). g.n) c.geometry.ensures.same in
    c.in_ok-lists.ensures ∙ ap (λ n. replicate n []) count ∙ parts_none h c.args.copied.now.plan c.runs-runs.ensures.made c.geometry.ensures.valid c.max-size.result (linked_none h)

pub append_each-requires : goal.append_each-requires
append_each-requires g c =
    let h = c.args.copied.now.heap in
    let p = c.args.copied.now.plan in
    let size : ℕ = c.max-size.result in
    let i : ℕ = c.loop-part.part-index in
    let lt : c.loop-part.part-index < length c.in_ok-made.made.items = omega (arith, ap length c.deref-part-items.ensures.value, c.loop-part-test.true) in
    let zero : 0 + i ≡ i = omega arith in
    let read : c.part-item.result ≡ get_or c.in_ok-made.made.items i c.part-item.result = c.part-item.is ∙ ap (λ xs. get_or xs i c.part-item.result) c.deref-part-items.ensures.value in
    let part : map (λ s. s.items) (get_or c.in_ok-made.made.items i c.part-item.result).items ≡ part_cards h p size i =
    zip_at (λ j v. map (λ s. s.items) v.items ≡ part_cards h p size j) 0 c.div_ceil-2.result c.in_ok-made.made.items i c.part-item.result c.in_ok-made.ensures.ok lt ∙ ap (part_cards h p size) zero in
    let more : map (λ s. s.items) c.deref.result.now ≡ part_cards h p size i = ap (map (λ s. s.items)) (c.deref.ensures.value ∙ ap (λ v. v.items) read) ∙ part in
    let long : length c.deref.result.now ≡ h.geometry.n = sym (length-map c.deref.result.now (λ s. s.items)) ∙ ap length more ∙ length-map-range_with_len _ 0 h.geometry.n in
    let lists : length c.deref_mut.result.now ≡ h.geometry.n =
    sym (length-map c.deref_mut.result.now (λ s. s.items)) ∙ ap length (ap (map (λ s. s.items)) c.deref_mut.ensures.value ∙ c.loop-part.invariant) ∙ length-map-range_with_len _ 0 h.geometry.n in
    record { same = long ∙ sym lists }

pub loop-part-preserved : goal.loop-part-preserved
loop-part-preserved g c =
    let h = c.args.copied.now.heap in
    let p = c.args.copied.now.plan in
    let size : ℕ = c.max-size.result in
    let i : ℕ = c.loop-part.part-index in
    let lt : c.loop-part.part-index < length c.in_ok-made.made.items = omega (arith, ap length c.deref-part-items.ensures.value, c.loop-part-test.true) in
    let zero : 0 + i ≡ i = omega arith in
    let read : c.part-item.result ≡ get_or c.in_ok-made.made.items i c.part-item.result = c.part-item.is ∙ ap (λ xs. get_or xs i c.part-item.result) c.deref-part-items.ensures.value in
    let part : map (λ s. s.items) (get_or c.in_ok-made.made.items i c.part-item.result).items ≡ part_cards h p size i =
    zip_at (λ j v. map (λ s. s.items) v.items ≡ part_cards h p size j) 0 c.div_ceil-2.result c.in_ok-made.made.items i c.part-item.result c.in_ok-made.ensures.ok lt ∙ ap (part_cards h p size) zero in
    let more : map (λ s. s.items) c.deref.result.now ≡ part_cards h p size i = ap (map (λ s. s.items)) (c.deref.ensures.value ∙ ap (λ v. v.items) read) ∙ part in
    let old : map (λ s. s.items) c.deref_mut.result.now ≡ cards_by_region h (slots_to h p size i) = ap (map (λ s. s.items)) c.deref_mut.ensures.value ∙ c.loop-part.invariant in
    let long : length c.deref.result.now ≡ h.geometry.n = sym (length-map c.deref.result.now (λ s. s.items)) ∙ ap length more ∙ length-map-range_with_len _ 0 h.geometry.n in
    let lists : length c.deref_mut.result.now ≡ h.geometry.n = sym (length-map c.deref_mut.result.now (λ s. s.items)) ∙ ap length old ∙ length-map-range_with_len _ 0 h.geometry.n in
    let count : length (map (λ s. s.items) c.append_each.new.lists) ≡ h.geometry.n = length-map c.append_each.new.lists (λ s. s.items) ∙ c.append_each.auto.lists ∙ lists in
    ap (map (λ s. s.items)) (with_items_is c.loop-part.lists c.append_each.new.lists (c.append_each.auto.lists ∙ c.deref_mut.ensures.len))
    ∙ parts_more h p c.runs-runs.ensures.made c.geometry.ensures.valid size i (map (λ s. s.items) c.deref_mut.result.now) (map (λ s. s.items) c.deref.result.now) (map (λ s. s.items) c.append_each.new.lists) old more count
    (λ r less. c.in_ok-append_each.ensures r (omega (arith, less, long)))

pub returns-clause-ok : goal.returns-clause-ok
returns-clause-ok g c =
    let h = c.args.copied.now.heap in
    let p = c.args.copied.now.plan in
    let n : ℕ = length c.runs-runs.result.now in
    let size : ℕ = c.max-size.result in
    let some : 0 < c.max-size.result = omega (arith, c.max-size.ensures) in
    let covered : length c.runs-runs.result.now ≤ c.div_ceil-2.result * c.max-size.result = subst (λ m. n ≤ m * size) (sym c.div_ceil-2.ensures) (div_ceil_times n size some).0 in
    let long : length c.in_ok-made.made.items ≡ c.div_ceil-2.result =
    AllZip-long (λ j v. map (λ s. s.items) v.items ≡ part_cards h p size j) (range_with_len 0 c.div_ceil-2.result) c.in_ok-made.made.items c.in_ok-made.ensures.ok ∙ length-range_with_len 0 c.div_ceil-2.result in
    let end : c.loop-part.part-index ≡ c.div_ceil-2.result = omega (arith, long, ap length c.deref-part-items.ensures.value, c.loop-part-test.false, c.loop-part.auto.part-index-end) in
    let reached : length c.args.copied.now.plan.runs ≤ c.loop-part.part-index * c.max-size.result =
    subst (λ m. length p.runs ≤ m * size) (sym end) (omega (arith, covered, ap length c.runs-runs.ensures.same)) in
    c.loop-part.invariant ∙ ap (cards_by_region h) (parts_all h p c.runs-runs.ensures.made c.geometry.ensures.valid size c.loop-part.part-index reached)
