-- From what clap finds in the words to the request that they ask for.
use Rattle.std.proofs.Common.{◌≡◌, ◌≢◌, ◌⊎◌, ◌∙◌, inl, inr, List, Result, Ok, Err, Some, subst, sym, ap}
use Rattle.std.specs.Prelude.{IfErr, IfOk}
use Rattle.std.specs.Borrow.{Bor}
use Rattle.clap.specs.Words.{App, Row, Text, HasMatchesOf, fault_of, found_of, is_simple, rows_of, subcommand_of, subcommand_rows_of}
use Rattle.clap.specs.Kinds.{IsAmong}
use Rattle.clap.specs.declared.error.kind.ErrorKind.{ErrorKind}
use Rattle.clap.specs.declared.error.kind.ErrorKind.TheVariants.{OutOfMemory}
use Rattle.clap.specs.declared.parser.matches.ArgMatches.{ArgMatches}
use Rattle.g1_command.specs.declared.refusal.Refusal.{Refusal}
use Rattle.g1_command.specs.declared.refusal.Refusal.TheVariants as refusal
use Rattle.g1_command.specs.declared.values.Misuse.{Misuse}
use Rattle.g1_command.specs.declared.table.Program.{Program}
use Rattle.g1_command.specs.Values.{Because, IsValue}
use Rattle.g1_command.specs.Table.{program_by}
use Rattle.g1_command.specs.Tied.{AreTied}
use Rattle.g1_command.specs.Requests.{HasNoCommand, IsMistake, IsRead, IsSaid, IsUsageIf}
use Rattle.g1heap_request.specs.declared.options.Request.{Request}
use Rattle.g1heap_request.specs.declared.options.Request.TheVariants as request
use Rattle.g1heap_request.specs.Options.{g1heap}
use Rattle.g1heap_request.specs.Asks.{Asks}
use Rattle.g1heap_request.specs.Words.{AskedOf, IsReadAs, IsReadOf, IsWrongOf, StopsBy}
use Rattle.g1heap_request.specs.Tips.{IsRetold}
use Rattle.g1heap_request.specs.Words.IsWrongOf.{mistaken, without, valued}
use Rattle.g1heap_request.specs.Wrong.{IsRefused}
use Rattle.g1heap_request.proofs.Tabled.{is_simple_table}
use Rattle.g1_command.proofs.Reasons.{usage_so, value_wrong}

pub retold : (P : Type 0) (kind : ErrorKind) (words : List Text) (old new : Refusal) → IsRetold kind words old new → IsUsageIf P old → IsUsageIf P new
retold P kind words (refusal.Told status text) (refusal.Told s t) h k = (h.0 ∙ k.0, k.1)
retold P kind words (refusal.Told status text) (refusal.Fault fault) h k = h
retold P kind words (refusal.Fault old) (refusal.Told s t) h k = absurd h
retold P kind words (refusal.Fault old) (refusal.Fault fault) h k = h ∙ k

asked : (words : List Text) (name : Text) (rows : List Row) (r : Request) → subcommand_of g1heap words ≡ Some (name, rows) → Asks name rows r → AskedOf words r
asked words name rows (request.Help text) e a = absurd a
asked words name rows (request.Same same) e a = (name, rows, e, a)
asked words name rows (request.Print image part hex output) e a = (name, rows, e, a)
asked words name rows (request.Make lines output) e a = (name, rows, e, a)
asked words name rows (request.Convert convert) e a = (name, rows, e, a)
asked words name rows (request.Explain explain) e a = (name, rows, e, a)
asked words name rows (request.Why why) e a = (name, rows, e, a)
asked words name rows (request.Trace trace) e a = (name, rows, e, a)
asked words name rows (request.Ask ask) e a = (name, rows, e, a)
asked words name rows (request.Rewrite rewrite) e a = (name, rows, e, a)

module _ (words : List Text) (program : Program) (is : program_by program ≡ g1heap) where
  module _ (m : ArgMatches) (matches : HasMatchesOf (program_by program) words m) where
    entered : subcommand_rows_of m ≡ subcommand_of g1heap words
    entered = (matches (ap is_simple is ∙ is_simple_table)).1 ∙ ap (λ (a : App). subcommand_of a words) is

    module _ (Says : Bor Text → Bor ArgMatches → Result Request Misuse → Type 0)
        (asks : (name : Bor Text) (values : Bor ArgMatches) (said : Result Request Misuse) → Says name values said → IfOk said (Asks name.now (rows_of (found_of values.now))))
        (refuses : (name : Bor Text) (values : Bor ArgMatches) (said : Result Request Misuse) → Says name values said → IfErr said (Because (IsRefused name.now (rows_of (found_of values.now))))) where
      wrong : HasNoCommand program m ⊎ ((misuse : Misuse) × IsValue misuse × IsSaid Says program m (Err misuse)) → IsWrongOf words
      wrong (inl none) = without program is (λ name rows e listed. none name rows (record { found = entered ∙ e; listed = listed }))
      wrong (inr (misuse, value, said)) =
          valued (sym entered ∙ said.command.found) (value_wrong misuse value (refuses said.name said.values (Err misuse) said.says))

      pub read_as : (r : Result Request Refusal) → IsRead Says program m r → IsReadOf words r
      read_as (Ok request) said = asked words _ _ request (sym entered ∙ said.command.found) (asks said.name said.values (Ok request) said.says)
      read_as (Err refusal) h = usage_so wrong refusal h

  module _ (kind : ErrorKind) (has : (kind ≡ OutOfMemory) ⊎ IsAmong kind (fault_of (program_by program) words)) where
    stops : kind ≢ OutOfMemory → StopsBy words kind
    stops other = go has
      where
        go : (kind ≡ OutOfMemory) ⊎ IsAmong kind (fault_of (program_by program) words) → StopsBy words kind
        go (inl e) = absurd (other e)
        go (inr among) = subst (λ (a : App). IsAmong kind (fault_of a words)) is among

    pub told_help : (kind ≢ OutOfMemory) × (IsMistake kind → ⊥) → (kind : ErrorKind) × StopsBy words kind × (IsMistake kind → ⊥)
    told_help h = (kind, stops h.0, h.1)

    pub told_mistake : (r : Refusal) → IsUsageIf ((kind ≢ OutOfMemory) × IsMistake kind) r → IsUsageIf (IsWrongOf words) r
    told_mistake r h = usage_so (λ k. mistaken (stops k.0) k.1) r h

-- words, and what they become once each value of `--set` is tied to it
pub read_tied : (words tied : List Text) → AreTied words tied → (r : Result Request Refusal) → IsReadOf tied r → IsReadAs words r
read_tied words tied are (Ok request) h = (tied, are, h)
read_tied words tied are (Err refusal) h = usage_so (λ wrong. (tied, are, wrong)) refusal h
