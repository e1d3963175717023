-- What a command replies to the bytes of its input, and what it has written then. A reply is a text or a fault.
use Rattle.std.specs.Prelude.{ℕ, List, take, Option, Result, Ok, Err, ⊤}
use Rattle.std.specs.Io.KnownBytes.{Appends, Keeps}
use Rattle.g1_words.specs.declared.fault.Fault.{Fault}
use Rattle.g1_words.specs.declared.fault.Fault.TheVariants.{Settings, Memory, Device}
use Rattle.g1_words.specs.declared.fault.Device.TheVariants.{Input, Output}

-- the reply to numbers and bytes: the setting that is refused, if one is; else what the bytes get
pub data Settled (Refuses : ℕ → Type 0) (IsReply : Result (List ℕ) Fault → Type 0) : Result (List ℕ) Fault → Type 0 where
  refused : {which : ℕ} → Refuses which → Settled Refuses IsReply (Err (Settings which))
  settled : {r : Result (List ℕ) Fault} → ((which : ℕ) → Refuses which → ⊥) → IsReply r → Settled Refuses IsReply r

-- the fault of a command: that of the reply, or memory was wanted, or the input failed
abbrev pub MayRefuse : (Result (List ℕ) Fault → Type 0) → Fault → Type 0
MayRefuse IsReply Memory = ⊤
MayRefuse IsReply (Device Input) = ⊤
MayRefuse IsReply (Device Output) = ⊥
MayRefuse IsReply e = IsReply (Err e)

-- WHAT A COMMAND GIVES, by the bytes written before and after: all of the reply's text; or the output failed, and a
-- beginning of that text stands; or nothing is written, and the fault says why
abbrev pub Gives : (Result (List ℕ) Fault → Type 0) → Option (List ℕ) → Option (List ℕ) → Result (Unit {0}) Fault → Type 0
Gives IsReply old new (Ok u) = (text : List ℕ) × IsReply (Ok text) × Appends old new text
Gives IsReply old new (Err (Device Output)) = (text : List ℕ) × (k : ℕ) × IsReply (Ok text) × Appends old new (take k text)
Gives IsReply old new (Err e) = Keeps old new × MayRefuse IsReply e
