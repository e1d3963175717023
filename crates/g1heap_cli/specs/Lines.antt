-- What g1heap reports of lines: those of a heap, and those of names.
use Rattle.std.specs.Prelude.{◌≡◌, ℕ, List, []}
use Rattle.g1_words.specs.Fault.{status_of}
use Rattle.g1_words.specs.declared.fault.Fault.TheVariants as fault
use Rattle.g1_command.specs.declared.refusal.Refusal.{Refusal}
use Rattle.g1_command.specs.declared.refusal.Refusal.TheVariants as refusal
use Rattle.g1_text.specs.declared.expected.Wrong.{Wrong}
use Rattle.g1_text.specs.declared.expected.Wrong.TheVariants as wrong
use Rattle.g1_report.specs.declared.names.WrongNames.{WrongNames}
use Rattle.g1_report.specs.declared.names.WrongNames.TheVariants as names
use Rattle.g1heap_cli.specs.Refusals.{Tells, file_line, RefusesLine}

-- the refusal of a file of lines: of the line, or for the fault
abbrev pub RefusesLines : List ℕ → Wrong → Refusal → Type 0
RefusesLines file (wrong.Line number expected) r = RefusesLine file number r
RefusesLines file (wrong.Fault f) r = Tells (status_of f) (λ t. t ≡ file_line file f []) r

-- the refusal of a file of names
abbrev pub RefusesNames : List ℕ → WrongNames → Refusal → Type 0
RefusesNames file (names.Line number expected) r = RefusesLine file number r
RefusesNames file names.Memory r = r ≡ refusal.Fault fault.Memory
