-- What a source of bytes says of its mark, and what a read to its end says of the bytes, the mark and the end.
use Rattle.std.specs.Prelude.{◌≡◌, ℕ, Bool, true, List, Option, Result, Ok, Err, IfSome, ⊤}
use Rattle.std.specs.Io.KnownBytes.{IsAtEnd}
use Rattle.g1_words.specs.declared.fault.Fault.{Fault}
use Rattle.g1_words.specs.declared.fault.Fault.TheVariants.{Memory, Device}
use Rattle.g1_words.specs.declared.fault.Device.TheVariants.{Input}

-- the mark after a call: an error makes it true, any other answer leaves it as it was
abbrev pub marked : {X : Type 0} → Bool → Result X Fault → Bool
marked mark (Ok x) = mark
marked mark (Err e) = true

-- P holds of the bytes that are left, or of some bytes if the source doesn't report its own
abbrev pub HoldsOfLeft : Option (List ℕ) → (List ℕ → Type 0) → Type 0
HoldsOfLeft left P = (bytes : List ℕ) × P bytes × IfSome left (λ xs. xs ≡ bytes)

-- a read to the end fails for want of memory, the mark as before, or by a call that failed; the marks are those before and after
abbrev pub ReadFails : Bool → Bool → Fault → Type 0
ReadFails old new Memory = new ≡ old
ReadFails old new (Device Input) = new ≡ true
ReadFails _ _ _ = ⊥

-- the source's mark after a run: a run that tells of the input has marked it, any other leaves it as it was
abbrev pub input_mark : {X : Type 0} → Bool → Result X Fault → Bool
input_mark mark (Err (Device Input)) = true
input_mark mark _ = mark

-- no byte is left, but where memory was wanted or a read failed
abbrev pub IsReadOut : {X : Type 0} → Option (List ℕ) → Result X Fault → Type 0
IsReadOut left (Err Memory) = ⊤
IsReadOut left (Err (Device Input)) = ⊤
IsReadOut left _ = IsAtEnd left
