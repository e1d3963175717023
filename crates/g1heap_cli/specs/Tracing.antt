-- The state of a trace that is read line by line.
use Rattle.std.specs.Prelude.{◌≡◌, ◌≢◌, ◌⊎◌, ◌≤◌, ◌<◌, ℕ, zero, suc, Bool, true, false, List, [], ◌∷◌, ◌++◌, Option, Some, None, IsSome}
use Rattle.std.specs.Option.{option_map}
use Rattle.g1_words.specs.declared.fault.Fault.{Fault}
use Rattle.g1_image.specs.Image.{Image, IsTextIn}
use Rattle.g1_image.specs.declared.cursor.Version.TheVariants.{Two}
use Rattle.g1_choose.specs.declared.parameters.Cost.{Cost}
use Rattle.g1_pause.specs.declared.settings.Choice.{Choice}
use Rattle.g1_pause.specs.declared.settings.Choice.TheVariants.{Budget}
use Rattle.g1_pause.specs.declared.steps.Steps.{Steps}
use Rattle.g1_explain.specs.declared.form.Form.TheVariants as form
use Rattle.g1_explain.specs.Explained.{IsExplained}
use Rattle.g1_explain.specs.Steps.{IsTextOfSteps}
use Rattle.g1_trace.specs.declared.command.Reply.{Reply as ReplyOf}
use Rattle.g1_trace.specs.declared.session.Session.{Session}
use Rattle.g1_trace.specs.declared.session.Session.TheVariants.{Begun}
use Rattle.g1_trace.specs.declared.session.Taken.{Taken}
use Rattle.g1_trace.specs.declared.session.Taken.TheVariants as taken
use Rattle.g1_trace.specs.Session.{AsksPause, IsDone, commands_of, image_of}
use Rattle.g1_trace.specs.Telling.{reply_line}
use Rattle.g1heap_request.specs.declared.options.Trace.{Trace}
use Rattle.g1heap_request.specs.declared.options.ImageAfter.{ImageAfter}
use Rattle.g1heap_cli.specs.Leaving.{Reply}
use Rattle.g1heap_cli.specs.Traced.{asked_command, number_text, sent_command}
use Rattle.g1heap_cli.specs.declared.tracing.State.{State}

-- the text of the image that is kept
abbrev pub kept : State → Option (List ℕ)
kept s = option_map (λ v. v.items) s.image

-- the image that goes to standard output is kept, if its command is done
abbrev pub KeepsSent : Trace → State → Type 0
KeepsSent trace s = 0 < sent_command trace.image → sent_command trace.image ≤ commands_of s.session → IsSome (kept s)

-- no line was taken
pub record IsAtStart (s : State) : Type 0 where
  pub session : s.session ≡ Begun
  pub replies : s.replies.items ≡ []
  pub image : s.image ≡ None

-- the image is kept behind the command that is asked for, and else stays
abbrev pub KeepsImage : Option ImageAfter → Session → Option (List ℕ) → Option (List ℕ) → Type 0
KeepsImage None session old new = new ≡ old
KeepsImage (Some after) session old new =
    (commands_of session ≢ after.command → new ≡ old)
    × ((i : Image) → image_of session ≡ Some i → commands_of session ≡ after.command → (text : List ℕ) × (new ≡ Some text) × IsTextIn Two text i)

-- a reply is added to what is not written yet
pub record AddsReply (trace : Trace) (r : ReplyOf) (old new : State) : Type 0 where
  pub session : new.session ≡ old.session
  pub replies : new.replies.items ≡ old.replies.items ++ (number_text trace.numbered (commands_of old.session) ++ reply_line r)
  pub image : KeepsImage trace.image old.session (kept old) (kept new)

-- the lines of the steps of a pause are added to what is not written yet, and those of a pause of an image
abbrev pub AddsSteps : Cost → Image → Steps → List ℕ → List ℕ → Type 0
AddsSteps cost i steps old new = (lines : List ℕ) × IsTextOfSteps cost i steps lines × (new ≡ old ++ lines)

abbrev pub AddsPause : Cost → Choice → Image → List ℕ → List ℕ → Type 0
AddsPause cost choice i old new = (lines : List ℕ) × (refused : Option Fault) × IsExplained cost choice form.Steps i lines refused × (new ≡ old ++ lines)

-- the lines that explain a line: those of the pause that it asks a session for; none, if it asks for none
abbrev pub ExplainsLine : Bool → Cost → Session → List ℕ → List ℕ → Type 0
ExplainsLine false cost s line lines = lines ≡ []
ExplainsLine true cost s line lines =
    (((b : ℕ) → AsksPause s line b → ⊥) × (lines ≡ []))
    ⊎ ((b : ℕ) × (i : Image) × (refused : Option Fault) × AsksPause s line b × (image_of s ≡ Some i) × IsExplained cost (Budget b) form.Steps i lines refused)

-- they are added to what is not written yet
abbrev pub AddsExplanation : Bool → Cost → Session → List ℕ → List ℕ → List ℕ → Type 0
AddsExplanation explain cost s line old new = (lines : List ℕ) × ExplainsLine explain cost s line lines × (new ≡ old ++ lines)

-- what a line that was done adds, by the sessions before and after, what is not written yet before and after, and the images: a reply
-- stands behind the lines that explain it
abbrev pub Adds : Trace → Session → List ℕ → Taken → Session → List ℕ → List ℕ → Option (List ℕ) → Option (List ℕ) → Type 0
Adds trace s line taken.Nothing t old new before after = (new ≡ old) × (after ≡ before)
Adds trace s line (taken.Reply r) t old new before after =
    ((lines : List ℕ) × ExplainsLine trace.explain trace.cost s line lines × (new ≡ old ++ (lines ++ (number_text trace.numbered (commands_of t) ++ reply_line r))))
    × KeepsImage trace.image t before after

-- what a line that was done does to what is not written yet, before its reply is added
abbrev pub KeepsReplies : Bool → Cost → Session → List ℕ → Taken → List ℕ → List ℕ → Type 0
KeepsReplies explain cost s line taken.Nothing old new = new ≡ old
KeepsReplies explain cost s line (taken.Reply r) old new = AddsExplanation explain cost s line old new

-- A LINE IS TAKEN, with its end: the session does it, and what it is answered is added
pub record TakesLine (trace : Trace) (line : List ℕ) (old new : State) : Type 0 where
  pub content : List ℕ
  pub is_ended : line ≡ content ++ 10 ∷ []
  pub got : Taken
  pub done : IsDone trace.cost old.session content got new.session
  pub adds : Adds trace old.session content got new.session old.replies.items new.replies.items (kept old) (kept new)

-- what is made of all lines: the image that goes to standard output, or the replies
abbrev pub IsMadeText : ℕ → State → List ℕ → Type 0
IsMadeText zero s text = text ≡ s.replies.items
IsMadeText (suc n) s text = kept s ≡ Some text

abbrev pub IsMade : Trace → State → Reply
IsMade trace s status text =
    (status ≡ 0) × ((i : Image) × (image_of s.session ≡ Some i)) × (asked_command trace.image ≤ commands_of s.session) × IsMadeText (sent_command trace.image) s text
