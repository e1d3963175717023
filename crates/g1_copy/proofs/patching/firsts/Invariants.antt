use Rattle.g1_copy.proofs.PatchesBefore.{Counted}
use Rattle.g1_copy.proofs.patching.firsts.Given as goal

abbrev pub invariant-loop-region : goal.invariant-loop-region
invariant-loop-region l = Counted l.geometry.w l.region l.patches l.firsts.items
