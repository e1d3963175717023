-- What a request leaves on standard output.
use Rattle.std.specs.Prelude.{◌≡◌, ◌⊎◌, ℕ, zero, suc, Bool, true, false, List, take, Option, Some, None, Result, Ok, Err}
use Rattle.std.specs.Io.KnownBytes.{Appends, Keeps}
use Rattle.g1_words.specs.declared.fault.Fault.TheVariants as fault
use Rattle.g1_words.specs.declared.fault.Device.TheVariants as device
use Rattle.g1_command.specs.declared.refusal.Refusal.{Refusal}
use Rattle.g1_command.specs.declared.refusal.Refusal.TheVariants as refusal
use Rattle.g1_command.specs.Deliveries.{broken_pipe}
use Rattle.g1heap_cli.specs.Written.{EndsLines}
use Rattle.g1heap_request.specs.declared.output.Output.{Output}
use Rattle.g1heap_request.specs.declared.output.Output.TheVariants as output

-- a reply, as a status and a text
abbrev pub Reply : Type 1
Reply = ℕ → List ℕ → Type 0

-- this reply alone
abbrev pub Just : ℕ → List ℕ → Reply
Just status text s t = (s ≡ status) × (t ≡ text)

-- a beginning of a reply stands behind what stood there
abbrev pub Begins : Reply → Option (List ℕ) → Option (List ℕ) → Type 0
Begins Is old new = (s : ℕ) × (text : List ℕ) × (k : ℕ) × Is s text × Appends old new (take k text)

-- some text stands there
abbrev pub Grows : Option (List ℕ) → Option (List ℕ) → Type 0
Grows old new = (text : List ℕ) × Appends old new text

-- what is waited for is said on standard error, if it comes from a terminal
abbrev pub Announces : Bool → Option (List ℕ) → Option (List ℕ) → Type 0
Announces true old new = Grows old new
Announces false old new = Keeps old new

-- behind a refusal: nothing is written; or standard output failed, and a beginning of the reply stands there
abbrev pub Withholds : Reply → Option (List ℕ) → Option (List ℕ) → Refusal → Type 0
Withholds Is old new why = Keeps old new ⊎ ((why ≡ refusal.Fault (fault.Device device.Output)) × Begins Is old new)

-- an image is made in a sink, by what it has before and after
abbrev pub MakesImage : Reply → Option (List ℕ) → Option (List ℕ) → Result (Unit {0}) Refusal → Type 0
MakesImage Is old new (Ok u) = (text : List ℕ) × Is 0 text × Appends old new text
MakesImage Is old new (Err why) = Withholds Is old new why

-- an image is sent: all of it
abbrev pub SendsBytes : Reply → Option (List ℕ) → Option (List ℕ) → Result ℕ Refusal → Type 0
SendsBytes Is old new (Ok status) = (text : List ℕ) × Is status text × Appends old new text
SendsBytes Is old new (Err why) = Withholds Is old new why

-- a text is sent: all of it; or its reader went away, who has a beginning
abbrev pub SendsText : Reply → Option (List ℕ) → Option (List ℕ) → Result ℕ Refusal → Type 0
SendsText Is old new (Ok status) = ((text : List ℕ) × Is status text × Appends old new text) ⊎ ((status ≡ broken_pipe) × Begins Is old new)
SendsText Is old new (Err why) = Withholds Is old new why

-- lines are sent as they are made: behind a refusal some text stands there, which may be empty
abbrev pub SendsLines : Reply → Option (List ℕ) → Option (List ℕ) → Result ℕ Refusal → Type 0
SendsLines Is old new (Ok status) = SendsText Is old new (Ok status)
SendsLines Is old new (Err why) = Grows old new

-- a reply was taken, and its lines are written, as far as they are
pub record WritesReply (Is : Reply) (old new taken now : Option (List ℕ)) (s : ℕ) : Type 0 where
  pub status : ℕ
  pub text : List ℕ
  pub is : Is status text
  pub takes : Appends old new text
  pub ends : EndsLines status taken now s

-- how `same` sends: a text, or the lines of all differences
abbrev pub SendsSame : Option ℕ → Reply → Option (List ℕ) → Option (List ℕ) → Result ℕ Refusal → Type 0
SendsSame None = SendsText
SendsSame (Some most) = SendsLines

-- a file gets it: nothing is on standard output
abbrev pub Files : Reply → Option (List ℕ) → Option (List ℕ) → Result ℕ Refusal → Type 0
Files Is old new (Ok status) = Keeps old new × ((text : List ℕ) × Is status text)
Files Is old new (Err why) = Keeps old new

-- where an image goes, and where a text does
abbrev pub HandsBytes : Output → Reply → Option (List ℕ) → Option (List ℕ) → Result ℕ Refusal → Type 0
HandsBytes (output.File name) = Files
HandsBytes output.Standard = SendsBytes
HandsBytes output.Default = SendsBytes

abbrev pub HandsText : Output → Reply → Option (List ℕ) → Option (List ℕ) → Result ℕ Refusal → Type 0
HandsText (output.File name) = Files
HandsText output.Standard = SendsText
HandsText output.Default = SendsText

-- lines go there before a refusal, as far as they come
abbrev pub GoesBefore : Output → Option (List ℕ) → Option (List ℕ) → Type 0
GoesBefore (output.File name) = Keeps
GoesBefore output.Standard = Grows
GoesBefore output.Default = Grows

-- the lines of an image; or those that can be read of bytes that are none, which stand before the refusal
abbrev pub HandsPrint : Output → Reply → Option (List ℕ) → Option (List ℕ) → Result ℕ Refusal → Type 0
HandsPrint out Is old new (Ok status) = HandsText out Is old new (Ok status)
HandsPrint out Is old new (Err why) = GoesBefore out old new

-- a reply that is sent as it is made: behind a refusal a beginning of it stands there
abbrev pub SendsAsMade : Reply → Option (List ℕ) → Option (List ℕ) → Result ℕ Refusal → Type 0
SendsAsMade Is old new (Ok status) = SendsText Is old new (Ok status)
SendsAsMade Is old new (Err why) = Begins Is old new

-- the reply to a trace is sent, as it is made or at the end: a text, or an image, if the number of its command isn't 0
abbrev pub SendsTrace : Bool → ℕ → Reply → Option (List ℕ) → Option (List ℕ) → Result ℕ Refusal → Type 0
SendsTrace true n = SendsAsMade
SendsTrace false zero = SendsText
SendsTrace false (suc n) = SendsBytes
