use Rattle.std.proofs.Common.{[], take}
use Rattle.g1_command.specs.Lists.{AddsParts, IsNamed}
use Rattle.g1_command.proofs.Listed.{parts_in}
use Rattle.g1_command.proofs.lists.regions_in.Given as goal

abbrev pub invariant-loop-list : goal.invariant-loop-list
invariant-loop-list l = AddsParts (parts_in (take l.list-index l.lists)) [] l.named.regions.items × IsNamed l.named
