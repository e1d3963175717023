-- What is read of the command among the words.
use Rattle.std.specs.Prelude.{◌≡◌, ◌≢◌, ◌⊎◌, List, Result, Ok, Err}
use Rattle.std.specs.Borrow.{Bor}
use Rattle.clap.specs.Words.{Row, Text, found_of, rows_of}
use Rattle.clap.specs.declared.error.kind.ErrorKind.{ErrorKind}
use Rattle.clap.specs.declared.error.kind.ErrorKind.TheVariants.{OutOfMemory, DisplayHelp, DisplayVersion}
use Rattle.clap.specs.declared.parser.matches.ArgMatches.{ArgMatches}
use Rattle.g1_words.specs.declared.fault.Fault.TheVariants.{Memory}
use Rattle.g1_command.specs.declared.table.Program.{Program}
use Rattle.g1_command.specs.declared.values.Misuse.{Misuse}
use Rattle.g1_command.specs.declared.refusal.Refusal.{Refusal}
use Rattle.g1_command.specs.declared.refusal.Refusal.TheVariants as refusal
use Rattle.g1_command.specs.Table.{IsCommandOf}
use Rattle.g1_command.specs.Values.{IsValue}

-- there is no command of the program's among the words
abbrev pub HasNoCommand : Program → ArgMatches → Type 0
HasNoCommand program matches = (name : Text) (rows : List Row) → IsCommandOf program matches name rows → ⊥

-- a refusal is a usage text for this reason, or memory was wanted
abbrev pub IsUsageIf : Type 0 → Refusal → Type 0
IsUsageIf Wrong (refusal.Told status text) = (status ≡ 2) × Wrong
IsUsageIf Wrong (refusal.Fault fault) = fault ≡ Memory

-- what clap says instead of matches is a mistake, and no help that was asked for
abbrev pub IsMistake : ErrorKind → Type 0
IsMistake kind = (kind ≢ DisplayHelp) × (kind ≢ DisplayVersion)

-- WHAT IS TOLD of what clap says instead of matches: help is an answer, a mistake a usage text
abbrev pub IsToldOf : {T : Type 0} → ErrorKind → Result T Refusal → Type 0
IsToldOf kind (Ok text) = (kind ≢ OutOfMemory) × (IsMistake kind → ⊥)
IsToldOf kind (Err refusal) = IsUsageIf ((kind ≢ OutOfMemory) × IsMistake kind) refusal

-- `Says` is what a function may return of a command's name and values
module _ {Q : Type 0} (Says : Bor Text → Bor ArgMatches → Result Q Misuse → Type 0) where
  -- what it may return of the command among the words
  pub record IsSaid (program : Program) (matches : ArgMatches) (said : Result Q Misuse) : Type 0 where
    pub name : Bor Text
    pub values : Bor ArgMatches
    pub command : IsCommandOf program matches name.now (rows_of (found_of values.now))
    pub says : Says name values said

  -- WHAT IS READ of the matches: what it says of the command among them; a usage text only if there is none, or if it says
  -- that a value is wrong
  abbrev pub IsRead : Program → ArgMatches → Result Q Refusal → Type 0
  IsRead program matches (Ok request) = IsSaid program matches (Ok request)
  IsRead program matches (Err refusal) =
      IsUsageIf (HasNoCommand program matches ⊎ ((misuse : Misuse) × IsValue misuse × IsSaid program matches (Err misuse))) refusal
