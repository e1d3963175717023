use Rattle.std.proofs.Common.{length, take}
use Rattle.g1_command.specs.Lists.{AddsParts, IsNamed, parts_of}
use Rattle.g1_command.proofs.lists.push_list.Given as goal

abbrev pub invariant-loop-part : goal.invariant-loop-part
invariant-loop-part l =
    AddsParts (take (length l.yielded) (parts_of l.list)) l.initial.named.regions.items l.named.regions.items × IsNamed l.named
