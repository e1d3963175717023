use Rattle.std.proofs.Common.{◌≡◌, ◌≤◌, ◌-◌, length}
use Rattle.g1_explain.specs.Finders.{found_leads}
use Rattle.g1_explain.specs.Searched.{met, AreObjects}
use Rattle.g1_explain.proofs.finders.meet_objects.Given as goal

abbrev pub invariant-objects : goal.invariant-objects
invariant-objects l = record {
  within : l.index ≤ length l.found;
  are_met : AreObjects l.heap l.found → l.finders.items ≡ met l.found l.initial.finders.items (found_leads l.heap l.found l.index);
}

abbrev pub decreases-objects : goal.decreases-objects
decreases-objects l = length l.found - l.index
