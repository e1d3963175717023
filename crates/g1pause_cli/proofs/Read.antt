-- From what clap finds in the words to the request that they ask for.
use Rattle.std.proofs.Common.{◌≡◌, ◌≢◌, ◌⊎◌, ◌∙◌, inl, inr, true, List, Result, Ok, Err, Some, refl, subst, sym, ap, ap₂, codes}
use Rattle.std.specs.Prelude.{IfOk, IfErr}
use Rattle.std.specs.List.{fold}
use Rattle.std.specs.Borrow.{Bor}
use Rattle.clap.specs.Words.{App, Row, Text, HasMatchesOf, fault_of, found_of, is_simple, is_simple_and_free, rows_of, subcommand_of, subcommand_rows_of}
use Rattle.clap.specs.Kinds.{IsAmong}
use Rattle.clap.specs.declared.error.kind.ErrorKind.{ErrorKind}
use Rattle.clap.specs.declared.error.kind.ErrorKind.TheVariants.{OutOfMemory}
use Rattle.clap.specs.declared.parser.matches.ArgMatches.{ArgMatches}
use Rattle.clap.proofs.OnLiterals.{clap_on_literals}
use Rattle.g1_command.specs.declared.refusal.Refusal.{Refusal}
use Rattle.g1_command.specs.declared.refusal.Refusal.TheVariants as refusal
use Rattle.g1_command.specs.declared.values.Misuse.{Misuse}
use Rattle.g1_command.specs.declared.table.Program.{Program}
use Rattle.g1_command.specs.declared.table.Usage.{Usage}
use Rattle.g1_command.specs.Values.{Because, IsValue}
use Rattle.g1_command.specs.Table.{no_command, program_by, with_command}
use Rattle.g1_command.specs.Requests.{HasNoCommand, IsMistake, IsRead, IsSaid, IsUsageIf}
use Rattle.g1pause_cli.specs.declared.options.Request.{Request}
use Rattle.g1pause_cli.specs.declared.options.Request.TheVariants.{Help, Answer, Write, Run}
use Rattle.g1pause_cli.specs.Options.{g1pause}
use Rattle.g1pause_cli.specs.Asks.{Asks, Asked, HasWrongValue, IsHinted, IsReadAs, IsWrong, StopsBy}
use Rattle.g1pause_cli.specs.Asks.IsWrong.{mistaken, without, valued}
use Rattle.g1_command.proofs.Reasons.{usage_so, value_wrong}

-- clap's definitions give the matches of the table, and the errors
pub is_simple_table : is_simple g1pause ≡ true
unfolding clap_on_literals
is_simple_table = refl

pub is_free_table : is_simple_and_free g1pause ≡ true
unfolding clap_on_literals
is_free_table = refl

pub table_is : (p : Program) (us : List Usage) → p.name.now ≡ codes "g1pause" → p.commands.now ≡ us → fold with_command (no_command (codes "g1pause")) us ≡ g1pause → program_by p ≡ g1pause
table_is p us name commands is = ap₂ (λ (n : Text) (cs : List Usage). fold with_command (no_command n) cs) name commands ∙ is

pub hinted : (P : Type 0) (old new : Refusal) → IsHinted old new → IsUsageIf P old → IsUsageIf P new
hinted P (refusal.Told status text) (refusal.Told s t) h k = (h ∙ k.0, k.1)
hinted P (refusal.Told status text) (refusal.Fault fault) h k = h
hinted P (refusal.Fault old) (refusal.Told s t) h k = absurd h
hinted P (refusal.Fault old) (refusal.Fault fault) h k = h ∙ k

asked : (words : List Text) (name : Text) (rows : List Row) (request : Request) → subcommand_of g1pause words ≡ Some (name, rows) → Asks name rows request → Asked words request
asked words name rows (Help text) e a = absurd a
asked words name rows (Answer question) e a = (name, rows, e, a)
asked words name rows (Write wanted) e a = (name, rows, e, a)
asked words name rows (Run replay) e a = (name, rows, e, a)

module _ (words : List Text) (program : Program) (is : program_by program ≡ g1pause) where
  module _ (m : ArgMatches) (matches : HasMatchesOf (program_by program) words m) where
    entered : subcommand_rows_of m ≡ subcommand_of g1pause words
    entered = (matches (ap is_simple is ∙ is_simple_table)).1 ∙ ap (λ (a : App). subcommand_of a words) is

    module _ (Says : Bor Text → Bor ArgMatches → Result Request Misuse → Type 0)
        (asks : (name : Bor Text) (values : Bor ArgMatches) (said : Result Request Misuse) → Says name values said → IfOk said (Asks name.now (rows_of (found_of values.now))))
        (refuses : (name : Bor Text) (values : Bor ArgMatches) (said : Result Request Misuse) → Says name values said → IfErr said (Because (HasWrongValue (rows_of (found_of values.now))))) where
      wrong : HasNoCommand program m ⊎ ((misuse : Misuse) × IsValue misuse × IsSaid Says program m (Err misuse)) → IsWrong words
      wrong (inl none) = without program is (λ name rows e listed. none name rows (record { found = entered ∙ e; listed = listed }))
      wrong (inr (misuse, value, said)) =
          valued (sym entered ∙ said.command.found) (value_wrong misuse value (refuses said.name said.values (Err misuse) said.says))

      pub read_as : (r : Result Request Refusal) → IsRead Says program m r → IsReadAs words r
      read_as (Ok request) said = asked words _ _ request (sym entered ∙ said.command.found) (asks said.name said.values (Ok request) said.says)
      read_as (Err refusal) h = usage_so wrong refusal h

  module _ (kind : ErrorKind) (has : (kind ≡ OutOfMemory) ⊎ IsAmong kind (fault_of (program_by program) words)) where
    stops : kind ≢ OutOfMemory → StopsBy words kind
    stops other = go has
      where
        go : (kind ≡ OutOfMemory) ⊎ IsAmong kind (fault_of (program_by program) words) → StopsBy words kind
        go (inl e) = absurd (other e)
        go (inr among) = subst (λ (a : App). IsAmong kind (fault_of a words)) is among

    pub told_help : (kind ≢ OutOfMemory) × (IsMistake kind → ⊥) → (kind : ErrorKind) × StopsBy words kind × (IsMistake kind → ⊥)
    told_help h = (kind, stops h.0, h.1)

    pub told_mistake : (r : Refusal) → IsUsageIf ((kind ≢ OutOfMemory) × IsMistake kind) r → IsUsageIf (IsWrong words) r
    told_mistake r h = usage_so (λ k. mistaken (stops k.0) k.1) r h
