-- Which request the words of g1heap are.
use Rattle.std.specs.Prelude.{◌≡◌, List, Some, Result, Ok, Err, is_some, true}
use Rattle.clap.specs.Words.{Row, Text, fault_of, subcommand_of}
use Rattle.clap.specs.Kinds.{IsAmong}
use Rattle.clap.specs.declared.error.kind.ErrorKind.{ErrorKind}
use Rattle.g1_command.specs.declared.refusal.Refusal.{Refusal}
use Rattle.g1_command.specs.declared.table.Program.{Program}
use Rattle.g1_command.specs.Table.{program_by, command_called}
use Rattle.g1_command.specs.Tied.{AreTied}
use Rattle.g1_command.specs.Requests.{IsMistake, IsUsageIf}
use Rattle.g1heap_request.specs.declared.options.Request.{Request}
use Rattle.g1heap_request.specs.declared.options.Request.TheVariants.{Help}
use Rattle.g1heap_request.specs.Asks.{Asks}
use Rattle.g1heap_request.specs.Options.{g1heap}
use Rattle.g1heap_request.specs.Wrong.{IsRefused}

-- clap stops at the words with an error of this kind
abbrev pub StopsBy : List Text → ErrorKind → Type 0
StopsBy words kind = IsAmong kind (fault_of g1heap words)

-- the request that words ask for in which each value of `--set` is tied to it: help, if clap stops there and that is no mistake; else that of the command among them
abbrev pub AskedOf : List Text → Request → Type 0
AskedOf words (Help text) = (kind : ErrorKind) × StopsBy words kind × (IsMistake kind → ⊥)
AskedOf words request = (name : Text) × (rows : List Row) × (subcommand_of g1heap words ≡ Some (name, rows)) × Asks name rows request

-- why such words are no request: by their mistake; without one of the program's commands; or with a command whose values are
-- refused
pub data IsWrongOf (words : List Text) : Type 0 where
  mistaken : {kind : ErrorKind} → StopsBy words kind → IsMistake kind → IsWrongOf words
  without : (program : Program) → program_by program ≡ g1heap
      → ((name : Text) (rows : List Row) → subcommand_of g1heap words ≡ Some (name, rows) → is_some (command_called name program) ≡ true → ⊥) → IsWrongOf words
  valued : {name : Text} {rows : List Row} → subcommand_of g1heap words ≡ Some (name, rows) → IsRefused name rows → IsWrongOf words

-- what such words are read as
abbrev pub IsReadOf : List Text → Result Request Refusal → Type 0
IsReadOf words (Ok request) = AskedOf words request
IsReadOf words (Err refusal) = IsUsageIf (IsWrongOf words) refusal

-- THE REQUEST THAT WORDS ASK FOR, and why words are none: each value of `--set` is tied to it first
abbrev pub Asked : List Text → Request → Type 0
Asked words request = (tied : List Text) × AreTied words tied × AskedOf tied request

abbrev pub IsWrong : List Text → Type 0
IsWrong words = (tied : List Text) × AreTied words tied × IsWrongOf tied

-- WHAT WORDS ARE READ AS
abbrev pub IsReadAs : List Text → Result Request Refusal → Type 0
IsReadAs words (Ok request) = Asked words request
IsReadAs words (Err refusal) = IsUsageIf (IsWrong words) refusal
