-- Why g1heap refuses a trace, by its lines.
use Rattle.std.specs.Prelude.{◌≡◌, ◌≢◌, ◌⊎◌, ◌<◌, ◌+◌, ℕ, List, [], ◌∷◌, ◌++◌, length, codes, decimal, None}
use Rattle.std.specs.Io.{StartsWith}
use Rattle.g1_words.specs.Fault.{status_of}
use Rattle.g1_words.specs.declared.fault.Fault.{Fault}
use Rattle.g1_words.specs.declared.fault.Fault.TheVariants as fault
use Rattle.g1_words.specs.declared.fault.Device.TheVariants as device
use Rattle.g1_words.specs.Heap.{Heap}
use Rattle.g1_choose.specs.declared.parameters.Cost.{Cost}
use Rattle.g1_pause.specs.declared.settings.Choice.{Choice}
use Rattle.g1_pause.specs.Answer.{FaultOfChoice}
use Rattle.g1_command.specs.declared.refusal.Refusal.{Refusal}
use Rattle.g1_command.specs.declared.refusal.Refusal.TheVariants as refusal
use Rattle.g1_command.specs.Lines.{HasNoEnd}
use Rattle.g1_trace.specs.declared.session.Session.{Session}
use Rattle.g1_trace.specs.declared.session.Session.TheVariants.{Begun}
use Rattle.g1_trace.specs.declared.session.Taken.{Taken}
use Rattle.g1_trace.specs.declared.session.Wrong.{Wrong}
use Rattle.g1_trace.specs.declared.session.Wrong.TheVariants as wrong
use Rattle.g1_trace.specs.Session.{IsDone, IsWrong, commands_of, image_of}
use Rattle.g1heap_request.specs.declared.options.Trace.{Trace}
use Rattle.g1heap_cli.specs.Reasons.{RefusesCost}
use Rattle.g1heap_cli.specs.Refusals.{Tells, RefusesFile, RefusesLine, file_line, told_line, ended}
use Rattle.g1heap_cli.specs.Traced.{BeginsWithLines, asked_command}

-- a session does these lines, one after the other, and is this one then
abbrev pub AreDone : Cost → Session → List (List ℕ) → Session → Type 0
AreDone cost s [] t = s ≡ t
AreDone cost s (line ∷ lines) t = (u : Session) × (got : Taken) × IsDone cost s line got u × AreDone cost u lines t

-- the first line begins as an image does, of any version
abbrev pub IsOfImage : ℕ → List ℕ → Type 0
IsOfImage number text = (number ≡ 1) × StartsWith text (codes "G1IMAGE")

-- the refusal of a line, by its number, for what is wrong with it
abbrev pub RefusesWrong : List ℕ → ℕ → Wrong → Refusal → Type 0
RefusesWrong file number (wrong.Line expected) r = RefusesLine file number r
RefusesWrong file number (wrong.Fault f) r = Tells (status_of f) (λ t. t ≡ file_line file f []) r

-- a session doesn't do this line
abbrev pub RefusesContent : List ℕ → ℕ → Session → List ℕ → Refusal → Type 0
RefusesContent file number s line r = (why : Wrong) × IsWrong s line why × RefusesWrong file number why r

-- the trace has no such command, but so many
abbrev pub LacksCommand : List ℕ → ℕ → ℕ → Refusal → Type 0
LacksCommand file command commands r =
    (commands < command) × Tells 2 (λ t. t ≡ told_line file (codes "no command " ++ (decimal command ++ (codes ": the trace has " ++ ended (decimal commands))))) r

-- behind the last line, by the number of the next one: no line had the sizes, or the command whose image is asked for did not come
abbrev pub RefusesEnd : Trace → ℕ → Session → Refusal → Type 0
RefusesEnd trace number s r =
    ((image_of s ≡ None) × RefusesLine trace.name.bytes.items number r) ⊎ LacksCommand trace.name.bytes.items (asked_command trace.image) (commands_of s) r

-- the rest of a trace is refused, by the number of its first line, and by the session before it: this line begins as an image, no byte
-- ends it, or the session doesn't do it; or no line is left
abbrev pub RefusesRest : Trace → ℕ → Session → List ℕ → Refusal → Type 0
RefusesRest trace number s rest r =
    ((IsOfImage number rest ⊎ (HasNoEnd rest × (rest ≢ []))) × RefusesLine trace.name.bytes.items number r)
    ⊎ ((line : List ℕ) × (more : List ℕ) × HasNoEnd line × (rest ≡ line ++ 10 ∷ more) × RefusesContent trace.name.bytes.items number s line r)
    ⊎ ((rest ≡ []) × RefusesEnd trace number s r)

-- THE REFUSAL OF A TRACE for its bytes: a session does the first lines, and the rest is refused
pub record RefusesTraceText (trace : Trace) (bytes : List ℕ) (r : Refusal) : Type 0 where
  pub lines : List (List ℕ)
  pub rest : List ℕ
  pub session : Session
  pub begins : BeginsWithLines lines rest bytes
  pub done : AreDone trace.cost Begun lines session
  pub refused : RefusesRest trace (length lines + 1) session rest r

-- the refusal of a trace has its name, if the trace was not read
abbrev pub IsNamed : List ℕ → Refusal → Refusal → Type 0
IsNamed file (refusal.Fault (fault.Device device.Input)) told = RefusesFile file (fault.Device device.Input) told
IsNamed file why told = told ≡ why

-- ---- a line that is read
-- it is none, with its end if it has one
abbrev pub IsNoLine : ℕ → List ℕ → Type 0
IsNoLine number line = IsOfImage number line ⊎ ((content : List ℕ) → line ≡ content ++ 10 ∷ [] → ⊥)

-- the settings are refused, or memory is wanted
abbrev pub IsStopped : Trace → Refusal → Type 0
IsStopped trace r = RefusesCost trace.cost r ⊎ RefusesFile trace.name.bytes.items fault.Memory r

-- the steps of a pause are refused: memory is wanted, or the choice has a fault
abbrev pub RefusesSteps : List ℕ → Heap → Choice → Refusal → Type 0
RefusesSteps file h choice r = (f : Fault) × ((f ≡ fault.Memory) ⊎ FaultOfChoice h choice f) × RefusesFile file f r

-- a session that is asked for a line is stopped, or doesn't do it
abbrev pub RefusesTaking : Trace → ℕ → Session → List ℕ → Refusal → Type 0
RefusesTaking trace number s line r = IsStopped trace r ⊎ RefusesContent trace.name.bytes.items number s line r

-- THE REFUSAL OF A LINE that is read: it is none, or a session that is asked for it is stopped, or doesn't do it
abbrev pub RefusesRead : Trace → ℕ → Session → List ℕ → Refusal → Type 0
RefusesRead trace number s line r =
    (IsNoLine number line × RefusesLine trace.name.bytes.items number r)
    ⊎ ((content : List ℕ) × (line ≡ content ++ 10 ∷ []) × RefusesTaking trace number s content r)
