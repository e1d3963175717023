use Rattle.std.proofs.Common.{◌≡◌, false, take}
use Rattle.g1_rem.specs.Entering.{enters}
use Rattle.g1_rem.proofs.leads.one_leads.Given as goal

abbrev pub invariant-loop-p : goal.invariant-loop-p
invariant-loop-p l = enters l.heap l.region (take l.p-index l.slots) ≡ false
