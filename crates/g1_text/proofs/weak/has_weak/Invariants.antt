use Rattle.std.proofs.Common.{◌≡◌, false, take}
use Rattle.std.specs.List.{list_any}
use Rattle.g1_text.specs.Weak.{is_weak}
use Rattle.g1_text.specs.Marking.{slots_of}
use Rattle.g1_text.proofs.weak.has_weak.Given as goal

abbrev pub invariant-loop-target : goal.invariant-loop-target
invariant-loop-target l = list_any is_weak (slots_of (take l.target-index l.targets)) ≡ false
