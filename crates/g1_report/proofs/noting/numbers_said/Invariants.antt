use Rattle.std.proofs.Common.{◌≡◌, take}
use Rattle.std.specs.List.{filter_map}
use Rattle.g1_report.specs.Program.{texts}
use Rattle.g1_report.specs.Noted.{number_said}
use Rattle.g1_report.proofs.noting.numbers_said.Given as goal

abbrev pub invariant-loop-word : goal.invariant-loop-word
invariant-loop-word l = l.numbers.items ≡ filter_map number_said (texts (take l.word-index l.words))
