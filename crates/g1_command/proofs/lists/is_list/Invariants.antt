use Rattle.std.proofs.Common.{◌≡◌, true, take}
use Rattle.std.specs.List.{list_all}
use Rattle.g1_command.specs.Tied.{is_list_byte}
use Rattle.g1_command.proofs.lists.is_list.Given as goal

abbrev pub invariant-loop-byte : goal.invariant-loop-byte
invariant-loop-byte l = list_all is_list_byte (take l.byte-index l.bytes) ≡ true
