use Rattle.std.proofs.Common.{get_or}
use Rattle.g1_copy.specs.Fates.{AreReplaced}
use Rattle.g1_copy.specs.declared.fates.Fate.TheVariants.{Filled}
use Rattle.g1_copy.proofs.fates.fill.Given as goal

abbrev pub invariant-loop-run : goal.invariant-loop-run
invariant-loop-run l = AreReplaced l.run (λ t. get_or l.to_space t 0) (λ t. Filled t) l.initial.fates l.fates
