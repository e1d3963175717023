use Rattle.std.proofs.Common.{◌-◌}
use Rattle.std.specs.List.{range_with_len}
use Rattle.g1_command.specs.Lists.{AddsRegions}
use Rattle.g1_command.proofs.lists.push_range.Given as goal

abbrev pub invariant-loop-region : goal.invariant-loop-region
invariant-loop-region l = AddsRegions (range_with_len l.first (l.region - l.first)) l.initial.named l.named
