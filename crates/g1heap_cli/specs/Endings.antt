-- How g1heap ends.
use Rattle.std.specs.Prelude.{◌≡◌, ◌⊎◌, ℕ, Bool, true, List, Option, codes, IsOk, IfErr, Result, Ok, Err}
use Rattle.std.specs.Io.KnownBytes.{Keeps}
use Rattle.g1_words.specs.declared.fault.Fault.TheVariants.{Device}
use Rattle.g1_words.specs.declared.fault.Device.TheVariants.{Output as OutputFailed}
use Rattle.g1_command.specs.declared.refusal.Ending.{Ending}
use Rattle.g1_command.specs.declared.refusal.Refusal.{Refusal}
use Rattle.g1_command.specs.declared.refusal.Refusal.TheVariants as refusal
use Rattle.g1_command.specs.Refusals.{EndsBy}
use Rattle.g1_command.specs.Requests.{IsUsageIf}
use Rattle.g1heap_request.specs.declared.options.Request.{Request}
use Rattle.g1heap_request.specs.declared.options.Request.TheVariants as request
use Rattle.g1heap_request.specs.declared.output.Output.TheVariants.{Default}
use Rattle.g1heap_request.specs.Words.{Asked, IsWrong}
use Rattle.g1heap_cli.specs.declared.terminals.Terminals.{Terminals}
use Rattle.g1heap_cli.specs.Refusals.{RefusesOutput}
use Rattle.g1heap_cli.specs.Leaving.{Reply, Announces, SendsText, SendsSame, SendsTrace, HandsText, HandsBytes, HandsPrint}
use Rattle.g1heap_cli.specs.Traced.{is_live, sent_command}
use Rattle.g1heap_cli.specs.Replies.{IsReplyTo}
use Rattle.g1heap_cli.specs.Refuses.{Refuses}

-- the program's name
abbrev pub name : List ℕ
name = codes "g1heap"

-- what a request leaves on standard output, by that before and after
abbrev pub Leaves : Request → Reply → Option (List ℕ) → Option (List ℕ) → Result ℕ Refusal → Type 0
Leaves (request.Help text) = SendsText
Leaves (request.Same same) = SendsSame same.all
Leaves (request.Print image part hex output) = HandsPrint output
Leaves (request.Make lines output) = HandsBytes output
Leaves (request.Convert asked) = HandsBytes asked.output
Leaves (request.Explain explain) = HandsText explain.output
Leaves (request.Why why) = SendsText
Leaves (request.Trace trace) = SendsTrace (is_live trace) (sent_command trace.image)
Leaves (request.Ask a) = HandsText a.output
Leaves (request.Rewrite r) = HandsBytes r.output

-- a refusal, as it is reported: if standard output failed, by that
abbrev pub IsReported : Refusal → Refusal → Type 0
IsReported (refusal.Fault (Device OutputFailed)) told = RefusesOutput told
IsReported why told = told ≡ why

-- the end behind an answer, by what was reported before and after: its status, and no report; or behind a refusal
abbrev pub EndsWith : Result ℕ Refusal → Option (List ℕ) → Option (List ℕ) → Ending → Type 0
EndsWith (Ok status) old new ending = (ending.status ≡ status) × IsOk ending.reported × Keeps old new
EndsWith (Err why) old new ending = (told : Refusal) × IsReported why told × EndsBy name told old new ending

-- a request makes an image that goes to standard output only since nothing else is said
abbrev pub IsImageByDefault : Request → Type 0
IsImageByDefault (request.Make lines output) = output ≡ Default
IsImageByDefault (request.Convert asked) = asked.output ≡ Default
IsImageByDefault (request.Rewrite r) = r.output ≡ Default
IsImageByDefault _ = ⊥

-- THE REQUEST OF A CALL: the one that its words ask for. To a terminal an image goes only if standard output is asked for
abbrev pub IsCalled : List (List ℕ) → Bool → Request → Type 0
IsCalled words at_terminal request = Asked words request × (at_terminal ≡ true → IsImageByDefault request → ⊥)

-- why a call is none
abbrev pub IsWrongCall : List (List ℕ) → Bool → Type 0
IsWrongCall words at_terminal = IsWrong words ⊎ ((request : Request) × Asked words request × (at_terminal ≡ true) × IsImageByDefault request)

-- left is what standard input has left; before and after are the bytes on standard output and those on standard error
module _ (left out_old out_new error_old error_new : Option (List ℕ)) where
  -- HOW THE PROGRAM ENDS by a request: what it leaves of the reply, and with what it ends
  pub record EndsByRequest (request : Request) (ending : Ending) : Type 0 where
    pub result : Result ℕ Refusal
    pub leaves : Leaves request (IsReplyTo request left) out_old out_new result
    pub refused : IfErr result (Refuses request left)
    pub ended : EndsWith result error_old error_new ending

  -- the words are no request, or memory was wanted to read them: nothing is on standard output
  pub record EndsByWords (words : List (List ℕ)) (at_terminal : Bool) (ending : Ending) : Type 0 where
    pub why : Refusal
    pub wrong : IsUsageIf (IsWrongCall words at_terminal) why
    pub silent : Keeps out_old out_new
    pub ended : EndsBy name why error_old error_new ending

-- HOW IT ENDS by words: by what is wrong with them; or by the request that they ask for, behind what is announced at a terminal
abbrev pub Ends : List (List ℕ) → Terminals → Option (List ℕ) → (out_old out_new error_old error_new : Option (List ℕ)) → Ending → Type 0
Ends words terminals left out_old out_new error_old error_new ending =
    EndsByWords left out_old out_new error_old error_new words terminals.output ending
    ⊎ ((request : Request) × (error : Option (List ℕ)) × IsCalled words terminals.output request × Announces terminals.input error_old error
    × EndsByRequest left out_old out_new error error_new request ending)
