use Rattle.std.proofs.Common.{◌≡◌, ◌++◌, replicate}
use Rattle.g1_text.proofs.reading.add_lines.Given as goal

abbrev pub invariant-loop : goal.invariant-loop
invariant-loop l = l.lines.items ≡ l.fn.lines.items ++ replicate l.counter l.line
