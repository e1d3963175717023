-- How g1pause ends.
use Rattle.std.specs.Prelude.{◌≡◌, ◌⊎◌, ℕ, List, codes, IsOk, Option, Result, Ok, Err}
use Rattle.std.specs.Io.KnownBytes.{Keeps}
use Rattle.clap.specs.Words.{Text}
use Rattle.g1_words.specs.declared.fault.Fault.{Fault}
use Rattle.g1_image.specs.Source.{HoldsOfLeft}
use Rattle.g1_command.specs.declared.refusal.Ending.{Ending}
use Rattle.g1_command.specs.declared.refusal.Refusal.{Refusal}
use Rattle.g1_command.specs.declared.refusal.Refusal.TheVariants as refusal
use Rattle.g1_command.specs.Refusals.{EndsBy}
use Rattle.g1_command.specs.Requests.{IsUsageIf}
use Rattle.g1_answers.specs.Replies.{Gives}
use Rattle.g1pause_cli.specs.declared.options.Request.{Request}
use Rattle.g1pause_cli.specs.Requests.{IsReplyTo}
use Rattle.g1pause_cli.specs.Asks.{Asked, IsWrong}

-- the program's name
abbrev pub name : List ℕ
name = codes "g1pause"

-- the end behind what was given, by what was reported before and after: status 0 and no report behind an answer, else those of
-- the fault
abbrev pub EndsWith : Result (Unit {0}) Fault → Option (List ℕ) → Option (List ℕ) → Ending → Type 0
EndsWith (Ok u) old new ending = (ending.status ≡ 0) × IsOk ending.reported × Keeps old new
EndsWith (Err fault) old new ending = EndsBy name (refusal.Fault fault) old new ending

-- before and after are the bytes on standard output and those on standard error
module _ (out_old out_new error_old error_new : Option (List ℕ)) where
  -- HOW THE PROGRAM ENDS by a request and the bytes of its input: it gives what is replied to them, and ends with that
  pub record EndsByRequest (request : Request) (bytes : List ℕ) (ending : Ending) : Type 0 where
    pub result : Result (Unit {0}) Fault
    pub given : Gives (IsReplyTo request bytes) out_old out_new result
    pub ended : EndsWith result error_old error_new ending

  -- the words are no request, or memory was wanted to read them: nothing is on standard output
  pub record EndsByWords (words : List Text) (ending : Ending) : Type 0 where
    pub why : Refusal
    pub wrong : IsUsageIf (IsWrong words) why
    pub silent : Keeps out_old out_new
    pub ended : EndsBy name why error_old error_new ending

  -- HOW IT ENDS by words, with these bytes left to read: by the request that the words ask for, or by what is wrong with them
  abbrev pub Ends : List Text → Option (List ℕ) → Ending → Type 0
  Ends words left ending = EndsByWords words ending ⊎ ((request : Request) × Asked words request × HoldsOfLeft left (λ bytes. EndsByRequest request bytes ending))
