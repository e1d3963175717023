use Rattle.std.proofs.Common.{◌≡◌}
use Rattle.std.specs.Prelude.{flat_map, string_bytes}
use Rattle.g1_report.specs.Program.{program_of, texts, AreInOrder}
use Rattle.g1_report.specs.Noted.{noted_line, SpeaksOfObjects}
use Rattle.g1_report.proofs.noting.noted.Given as goal

abbrev pub invariant-loop-line : goal.invariant-loop-line
invariant-loop-line l =
    AreInOrder (program_of l.names) → SpeaksOfObjects l.heap l.lines → string_bytes l.text ≡ flat_map (noted_line (program_of l.names) l.heap) (texts l.yielded)
