-- What a sink of bytes says of its mark, and how the bytes of a text go to it.
use Rattle.std.specs.Prelude.{◌≡◌, ◌<◌, ℕ, Bool, true, List, ◌++◌, length, take, Option, Result, Ok, Err}
use Rattle.std.specs.Io.KnownBytes.{Appends, Keeps}
use Rattle.g1_words.specs.declared.fault.Fault.{Fault}
use Rattle.g1_words.specs.declared.fault.Fault.TheVariants.{Memory, Device}
use Rattle.g1_words.specs.declared.fault.Device.TheVariants.{Output}
use Rattle.g1_image.specs.declared.behind.Behind.{Behind}

-- the sink's mark after a run: a run that tells of the output has marked it, any other leaves it as it was
abbrev pub output_mark : {X : Type 0} → Bool → Result X Fault → Bool
output_mark mark (Err (Device Output)) = true
output_mark mark _ = mark

-- the text is written; or the output failed, and a beginning of it stands that isn't all of it; or memory was wanted, and
-- nothing was written. The bytes written are those before and after
abbrev pub Writes : List ℕ → Option (List ℕ) → Option (List ℕ) → Result (Unit {0}) Fault → Type 0
Writes text old new (Ok u) = Appends old new text
Writes text old new (Err (Device Output)) = (k : ℕ) × (k < length text) × Appends old new (take k text)
Writes text old new (Err Memory) = Keeps old new
Writes text old new (Err e) = ⊥

-- the bytes that wait
abbrev pub unsent : Behind → List ℕ
unsent b = take b.end b.room.items

-- of the bytes that waited, and of those that come, a front was written, and the rest is left
pub record Sent (old new : Option (List ℕ)) (waited come left : List ℕ) : Type 0 where
  pub front : List ℕ
  pub bytes : Appends old new front
  pub same : waited ++ come ≡ front ++ left

-- the output failed, with some of the bytes left
abbrev pub SendFails : Option (List ℕ) → Option (List ℕ) → List ℕ → List ℕ → Fault → Type 0
SendFails old new waited come e = (e ≡ Device Output) × ((left : List ℕ) × (0 < length left) × Sent old new waited come left)
