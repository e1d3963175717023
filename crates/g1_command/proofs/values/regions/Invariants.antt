use Rattle.std.proofs.Common.{take}
use Rattle.std.specs.List.{AllZip}
use Rattle.g1_command.specs.Values.{IsRegion}
use Rattle.g1_command.proofs.values.regions.Given as goal

abbrev pub invariant-loop-text : goal.invariant-loop-text
invariant-loop-text l = AllZip (λ r t. IsRegion r t.now) l.regions.items (take l.text-index l.text-items)
