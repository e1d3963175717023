use Rattle.std.proofs.Common.{◌≡◌, ◌*◌, ◌++◌, replicate, None, sym, ◌∙◌, ap, subst}
use Rattle.g1_words.specs.Geometry.{Geometry}
use Rattle.g1_words.specs.Heap.{Heap, free_region}
use Rattle.g1_words.specs.Valid.{IsValid}
use Rattle.g1_trace.specs.Run.{empty_image}
use Rattle.g1_trace.proofs.StepsKept.{start_tracked}
use Rattle.g1_trace.proofs.LaidWords.{none_used}
use Rattle.g1_trace.proofs.mutator.free_heap.Goals as goal

pub invariant_of-result : goal.invariant_of-result
invariant_of-result c =
    let g : Geometry = c.args.geometry in
    let words : c.in_ok-new.field-0.items ≡ replicate (g.n * g.w) 0 = c.in_ok-new.ensures.0 ∙ (λ t. c.new.ensures.items t ++ replicate (c.words.ensures.value t) 0) in
    let regions : c.in_ok-vec.field-0.items ≡ replicate g.n free_region =
    c.in_ok-vec.ensures.items_if_clones_equal (λ y e. e) ∙ ap (λ m. replicate m free_region) c.regions-regions.ensures.value in
    let roots : c.in_ok-vec-2.field-0.items ≡ replicate c.args.roots 0 = c.in_ok-vec-2.ensures.items_if_clones_equal (λ y e. e) in
    let made : Heap = record { geometry = g; words = c.in_ok-new.field-0.items; regions = c.in_ok-vec.field-0.items; roots = c.in_ok-vec-2.field-0.items; current = None } in
    let same : made ≡ (empty_image g c.args.roots).heap = λ t. record { geometry = g; words = words t; regions = regions t; roots = roots t; current = None } in
    (subst IsValid (sym same) (start_tracked g c.args.roots c.regions-regions.ensures.limits c.requires).image.heap, λ r i lt small few. absurd (none_used _ g.n r i regions few))

pub returns-clause-ok : goal.returns-clause-ok
returns-clause-ok c =
    let g : Geometry = c.args.geometry in
    let words : c.in_ok-new.field-0.items ≡ replicate (g.n * g.w) 0 = c.in_ok-new.ensures.0 ∙ (λ t. c.new.ensures.items t ++ replicate (c.words.ensures.value t) 0) in
    let regions : c.in_ok-vec.field-0.items ≡ replicate g.n free_region =
    c.in_ok-vec.ensures.items_if_clones_equal (λ y e. e) ∙ ap (λ m. replicate m free_region) c.regions-regions.ensures.value in
    let roots : c.in_ok-vec-2.field-0.items ≡ replicate c.args.roots 0 = c.in_ok-vec-2.ensures.items_if_clones_equal (λ y e. e) in
    λ t. record { geometry = g; words = words t; regions = regions t; roots = roots t; current = None }
