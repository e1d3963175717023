use Rattle.std.proofs.Common.{get_or}
use Rattle.g1_copy.specs.Fates.{AreReplaced}
use Rattle.g1_copy.specs.declared.fates.Fate.TheVariants.{Freed}
use Rattle.g1_copy.proofs.fates.free.Given as goal

abbrev pub invariant-loop-region : goal.invariant-loop-region
invariant-loop-region l = AreReplaced l.region-index (λ t. get_or l.set t 0) (λ t. Freed) l.initial.fates l.fates
