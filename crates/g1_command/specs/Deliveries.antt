-- How the bytes of a text reach a writer.
use Rattle.std.specs.Prelude.{◌≡◌, ◌⊎◌, ℕ, List, take, Option, Result, Ok, Err}
use Rattle.std.specs.Io.KnownBytes.{Appends}
use Rattle.g1_words.specs.declared.fault.Fault.{Fault}
use Rattle.g1_words.specs.declared.fault.Fault.TheVariants.{Device}
use Rattle.g1_words.specs.declared.fault.Device.TheVariants.{Output}

-- the text stands behind what was written before; or a write failed, and a beginning of it stands there
abbrev pub Delivers : {E : Type 0} → List ℕ → Option (List ℕ) → Option (List ℕ) → Result (Unit {0}) E → Type 0
Delivers text old new (Ok u) = Appends old new text
Delivers text old new (Err e) = (k : ℕ) × Appends old new (take k text)

-- the status of a program whose reader went away
abbrev pub broken_pipe : ℕ
broken_pipe = 141

-- a text that a person reads, and the status behind it: the given one if all of the text is delivered, that of a broken pipe
-- if its reader went away, who has a beginning; else an output that failed, with a beginning
abbrev pub DeliversText : ℕ → List ℕ → Option (List ℕ) → Option (List ℕ) → Result ℕ Fault → Type 0
DeliversText status text old new (Ok s) = ((s ≡ status) × Appends old new text) ⊎ ((s ≡ broken_pipe) × ((k : ℕ) × Appends old new (take k text)))
DeliversText status text old new (Err e) = (e ≡ Device Output) × ((k : ℕ) × Appends old new (take k text))
