use Rattle.std.proofs.Common.{◌≡◌, ◌∙◌, ℕ, List, ap, arith, flat_map, slice_index, length}
use Rattle.std.specs.List.{range_with_len}
use Rattle.g1_explain.specs.declared.finder.Finder.TheVariants.{Root}
use Rattle.g1_explain.specs.Finders.{lead}
use Rattle.g1_explain.specs.Searched.{met}
use Rattle.g1_explain.proofs.Meets.{met_number_more}
use Rattle.g1_explain.proofs.finders.meet_roots.Goals as goal

pub loop-number-preserved : goal.loop-number-preserved
loop-number-preserved c =
    met_number_more (λ k. lead (Root k) (slice_index c.roots-roots.result.now k)) c.args.found.now c.args.finders.now.items c.loop-number.finders.items c.meet.new.finders.items
    c.loop-number.number c.loop-number.invariant c.in_ok-meet.ensures

pub returns : goal.returns
returns c =
    let all : c.loop-number.number ≡ length c.roots-roots.result.now = omega (arith, c.loop-number-test.false, c.loop-number.auto.number-end) in
    c.loop-number.invariant ∙ ap (λ n. met c.args.found.now c.args.finders.now.items (flat_map (λ k. lead (Root k) (slice_index c.roots-roots.result.now k)) (range_with_len 0 n))) all
    ∙ ap (λ (rs : List ℕ). met c.args.found.now c.args.finders.now.items (flat_map (λ k. lead (Root k) (slice_index rs k)) (range_with_len 0 (length rs)))) c.roots-roots.ensures
