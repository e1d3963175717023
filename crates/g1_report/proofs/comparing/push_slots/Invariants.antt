use Rattle.std.proofs.Common.{◌≡◌, ◌++◌, flat_map, take, string_bytes}
use Rattle.std.specs.Prelude.{codes, decimal}
use Rattle.g1_report.proofs.comparing.push_slots.Given as goal

abbrev pub invariant-loop-slot : goal.invariant-loop-slot
invariant-loop-slot l = string_bytes l.text ≡ string_bytes l.initial.text ++ flat_map (λ slot. codes " slot " ++ decimal slot) (take l.slot-index l.slots)
