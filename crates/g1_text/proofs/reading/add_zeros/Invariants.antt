use Rattle.std.proofs.Common.{◌≡◌, ◌++◌, replicate}
use Rattle.g1_text.proofs.reading.add_zeros.Given as goal

abbrev pub invariant-loop : goal.invariant-loop
invariant-loop l = l.content.items ≡ l.fn.content.items ++ replicate l.counter 0
