use Rattle.std.specs.Prelude.{◌≡◌, length, map}
use Rattle.g1_text.specs.Reading.{words_in}
use Rattle.g1_report.specs.Program.{program_of, texts}
use Rattle.g1_report.specs.NamesText.{IsSaid}
use Rattle.g1_report.proofs.names.Names.add_lines.Given as goal

abbrev pub invariant-loop-line : goal.invariant-loop-line
invariant-loop-line l = record {
  counted : l.number ≡ length l.yielded;
  said : IsSaid (program_of l.initial.self).labels_before (map words_in (texts l.yielded)) (program_of l.initial.self) (program_of l.self);
}
