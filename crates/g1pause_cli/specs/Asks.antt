-- Which request the words of g1pause are.
use Rattle.std.specs.Prelude.{◌≡◌, ◌≢◌, ◌⊎◌, List, Some, Result, Ok, Err, is_some, true, codes}
use Rattle.clap.specs.Words.{Row, Text, fault_of, subcommand_of}
use Rattle.clap.specs.Kinds.{IsAmong}
use Rattle.clap.specs.declared.error.kind.ErrorKind.{ErrorKind}
use Rattle.g1_words.specs.declared.fault.Fault.TheVariants.{Memory}
use Rattle.g1_command.specs.declared.refusal.Refusal.{Refusal}
use Rattle.g1_command.specs.declared.refusal.Refusal.TheVariants as refusal
use Rattle.g1_command.specs.declared.table.Program.{Program}
use Rattle.g1_command.specs.Values.{IsCostOf, IsOn, IsOff, AreRegionsOf, AreNoRegionsOf}
use Rattle.g1_command.specs.Table.{program_by, command_called}
use Rattle.g1_command.specs.Requests.{IsMistake, IsUsageIf}
use Rattle.g1_answers.specs.declared.question.NewImage.TheVariants.{Repacked, Paused}
use Rattle.g1_answers.specs.Asked.{AsksQuestion, IsNoQuestion, IsSharingOf, AreNumbersOf, HasNoNumberOf, number_options}
use Rattle.g1pause_cli.specs.declared.options.Request.{Request}
use Rattle.g1pause_cli.specs.declared.options.Request.TheVariants.{Help, Answer, Write, Run}
use Rattle.g1pause_cli.specs.Options.{g1pause}

-- THE REQUEST of a command with its options. Only `show` has a flag to repack
abbrev pub Asks : Text → List Row → Request → Type 0
Asks name rows (Help text) = ⊥
Asks name rows (Answer question) = IsOff rows (codes "repack") × AsksQuestion name rows question
Asks name rows (Write (Repacked sharing)) = (name ≢ codes "pause") × IsOn rows (codes "repack") × IsSharingOf rows sharing
Asks name rows (Write (Paused pause)) = (name ≡ codes "pause") × AreNumbersOf rows pause × AreRegionsOf rows (codes "regions") pause.regions.items
Asks name rows (Run replay) =
    (name ≢ codes "pause") × IsOff rows (codes "repack") × IsNoQuestion name × IsSharingOf rows replay.sharing × IsCostOf rows replay.cost

-- a value is no number, or no region
abbrev pub HasWrongValue : List Row → Type 0
HasWrongValue rows = HasNoNumberOf number_options rows ⊎ AreNoRegionsOf rows (codes "regions")

-- clap stops at the words with an error of this kind
abbrev pub StopsBy : List Text → ErrorKind → Type 0
StopsBy words kind = IsAmong kind (fault_of g1pause words)

-- THE REQUEST THAT THE WORDS ASK FOR: help, if clap stops there and that is no mistake; else that of the command among them
abbrev pub Asked : List Text → Request → Type 0
Asked words (Help text) = (kind : ErrorKind) × StopsBy words kind × (IsMistake kind → ⊥)
Asked words request = (name : Text) × (rows : List Row) × (subcommand_of g1pause words ≡ Some (name, rows)) × Asks name rows request

-- why words are no request: by their mistake; without one of the program's commands; or with a value that is wrong
pub data IsWrong (words : List Text) : Type 0 where
  mistaken : {kind : ErrorKind} → StopsBy words kind → IsMistake kind → IsWrong words
  without : (program : Program) → program_by program ≡ g1pause
      → ((name : Text) (rows : List Row) → subcommand_of g1pause words ≡ Some (name, rows) → is_some (command_called name program) ≡ true → ⊥) → IsWrong words
  valued : {name : Text} {rows : List Row} → subcommand_of g1pause words ≡ Some (name, rows) → HasWrongValue rows → IsWrong words

-- a refusal with a hint behind its text, for which memory may have been wanted
abbrev pub IsHinted : Refusal → Refusal → Type 0
IsHinted (refusal.Told old text) (refusal.Told status longer) = status ≡ old
IsHinted (refusal.Told old text) (refusal.Fault fault) = fault ≡ Memory
IsHinted (refusal.Fault old) (refusal.Fault fault) = fault ≡ old
IsHinted _ _ = ⊥

-- WHAT WORDS ARE READ AS
abbrev pub IsReadAs : List Text → Result Request Refusal → Type 0
IsReadAs words (Ok request) = Asked words request
IsReadAs words (Err refusal) = IsUsageIf (IsWrong words) refusal
