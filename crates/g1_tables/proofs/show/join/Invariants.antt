use Rattle.std.proofs.Common.{◌≡◌, ◌++◌, flat_map, take, string_bytes}
use Rattle.g1_tables.proofs.show.join.Given as goal

abbrev pub invariant-loop-out : goal.invariant-loop-out
invariant-loop-out l = string_bytes l.text ≡ string_bytes l.initial.text ++ flat_map string_bytes (take l.out-index l.outs)
