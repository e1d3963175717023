use Rattle.std.proofs.Common.{◌≡◌, ◌-◌, inl, inr, arith, subst}
use Rattle.std.proofs.lemmas.Bool.{cases_lt}
use Rattle.g1_copy.specs.Prepared.{IsUnwritten}
use Rattle.g1_copy.proofs.filling.written_regions.Goals as goal

pub loop-regions-preserved : goal.loop-regions-preserved
loop-regions-preserved c = (
  omega (arith, c.loop-regions.invariant.0),
  λ r le lt. elim (cases_lt r c.loop-regions.regions) [
    | inl below ↦
        let same : c.loop-regions.regions - 1 ≡ r = omega (arith, below, le, c.loop-regions-test.true) in
        subst (IsUnwritten c.args.prepared.now) same (c.is_unwritten.ensures c.if-is_unwritten.true)
    | inr above ↦ c.loop-regions.invariant.1 r above lt
  ],
)
