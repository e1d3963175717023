use Rattle.std.proofs.Common.{◌≡◌, [], refl, arith, flat_map, slice_index, length, subst, List, ℕ}
use Rattle.std.specs.List.{range_with_len}
use Rattle.g1_explain.specs.declared.finder.Finder.TheVariants.{Root}
use Rattle.g1_explain.specs.Finders.{lead}
use Rattle.g1_explain.specs.Keepers.{AreKept, leads_in}
use Rattle.g1_explain.proofs.Keepers.{kept_none, kept_number_more}
use Rattle.g1_explain.proofs.humongous.keep_by_roots.Goals as goal

pub loop-number-init : goal.loop-number-init
loop-number-init c = kept_none (leads_in c.args.heap.now []) c.args.keepers.now (λ r. refl)

pub loop-number-preserved : goal.loop-number-preserved
loop-number-preserved c =
    kept_number_more c.args.heap.now (λ k. lead (Root k) (slice_index c.roots-roots.result.now k)) c.args.keepers.now c.loop-number.keepers c.keep.new.keepers
    c.loop-number.number c.loop-number.invariant c.keep.ensures

pub returns : goal.returns
returns c =
    let all : c.loop-number.number ≡ length c.roots-roots.result.now = omega (arith, c.loop-number-test.false, c.loop-number.auto.number-end) in
    subst (λ (rs : List ℕ). AreKept (leads_in c.args.heap.now (flat_map (λ k. lead (Root k) (slice_index rs k)) (range_with_len 0 (length rs)))) c.args.keepers.now c.loop-number.keepers) c.roots-roots.ensures
    (subst (λ n. AreKept (leads_in c.args.heap.now (flat_map (λ k. lead (Root k) (slice_index c.roots-roots.result.now k)) (range_with_len 0 n))) c.args.keepers.now c.loop-number.keepers) all c.loop-number.invariant)
