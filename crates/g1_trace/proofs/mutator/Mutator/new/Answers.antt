use Rattle.std.proofs.Common.{◌≡◌, ℕ, ◌≤◌, List, [], replicate, map, sym, ◌∙◌, ap, subst, arith}
use Rattle.g1_words.specs.Geometry.{Geometry, most_roots}
use Rattle.g1_image.specs.Image.{Image, IsImage}
use Rattle.g1_image.specs.Cards.{Covered}
use Rattle.g1_trace.specs.Run.{empty_image}
use Rattle.g1_trace.proofs.StepsKept.{start_tracked}
use Rattle.g1_trace.proofs.mutator.Mutator.new.Goals as goal

pub invariant_of-image : goal.invariant_of-image
invariant_of-image c =
    let g : Geometry = c.args.geometry in
    let remembered : map (λ s. s.items) c.in_ok-no_cards.field-0.items ≡ replicate {A = List ℕ} g.n [] =
    c.in_ok-no_cards.ensures ∙ ap (λ m. replicate {A = List ℕ} m []) c.regions.ensures.value in
    let made : Image = record { heap = c.in_ok-heap.heap; remembered = map (λ s. s.items) c.in_ok-no_cards.field-0.items; log = c.new.result.keys } in
    let same : made ≡ empty_image g c.args.roots = λ t. record { heap = c.in_ok-heap.ensures.ok t; remembered = remembered t; log = c.new.ensures.empty t } in
    let few : c.args.roots ≤ most_roots = omega (arith, c.if-roots-from.false, c.from.ensures) in
    subst IsImage (sym same) (start_tracked g c.args.roots c.regions.ensures.limits few).image

pub invariant_of-result : goal.invariant_of-result
invariant_of-result c =
    let g : Geometry = c.args.geometry in
    let remembered : map (λ s. s.items) c.in_ok-no_cards.field-0.items ≡ replicate {A = List ℕ} g.n [] =
    c.in_ok-no_cards.ensures ∙ ap (λ m. replicate {A = List ℕ} m []) c.regions.ensures.value in
    let made : Image = record { heap = c.in_ok-heap.heap; remembered = map (λ s. s.items) c.in_ok-no_cards.field-0.items; log = c.new.result.keys } in
    let same : made ≡ empty_image g c.args.roots = λ t. record { heap = c.in_ok-heap.ensures.ok t; remembered = remembered t; log = c.new.ensures.empty t } in
    let few : c.args.roots ≤ most_roots = omega (arith, c.if-roots-from.false, c.from.ensures) in
    subst Covered (sym same) (start_tracked g c.args.roots c.regions.ensures.limits few).covered

pub returns-clause-ok : goal.returns-clause-ok
returns-clause-ok c =
    let g : Geometry = c.args.geometry in
    let remembered : map (λ s. s.items) c.in_ok-no_cards.field-0.items ≡ replicate {A = List ℕ} g.n [] =
    c.in_ok-no_cards.ensures ∙ ap (λ m. replicate {A = List ℕ} m []) c.regions.ensures.value in
    let made : Image = record { heap = c.in_ok-heap.heap; remembered = map (λ s. s.items) c.in_ok-no_cards.field-0.items; log = c.new.result.keys } in
    let same : made ≡ empty_image g c.args.roots = λ t. record { heap = c.in_ok-heap.ensures.ok t; remembered = remembered t; log = c.new.ensures.empty t } in
    let few : c.args.roots ≤ most_roots = omega (arith, c.if-roots-from.false, c.from.ensures) in
    (same, few)
