use Rattle.g1_explain.specs.Finders.{found_leads}
use Rattle.g1_explain.specs.Keepers.{AreKept, leads_in}
use Rattle.g1_explain.specs.Searched.{AreObjects}
use Rattle.g1_explain.proofs.humongous.keep_by_survivors.Given as goal

abbrev pub invariant-loop-index : goal.invariant-loop-index
invariant-loop-index l = AreObjects l.heap l.survivors → AreKept (leads_in l.heap (found_leads l.heap l.survivors l.index)) l.initial.keepers l.keepers
