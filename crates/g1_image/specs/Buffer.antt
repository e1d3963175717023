-- The bytes that were read from a source and wait, and what reading on says.
use Rattle.std.specs.Prelude.{◌≡◌, ◌<◌, ◌≤◌, ℕ, Bool, IsTrue, IsFalse, List, length, slice_range, Option}
use Rattle.std.specs.Io.KnownBytes.{Keeps, IsAtEnd, prepend_known}
use Rattle.g1_image.specs.declared.buffer.Buffer.{Buffer}

-- the bytes that wait in the room
abbrev pub buffered : Buffer → List ℕ
buffered b = slice_range b.room.items b.start b.end

-- what is still to be taken: the bytes that wait, and behind them those that are left in the source
abbrev pub to_read : Buffer → Option (List ℕ) → Option (List ℕ)
to_read b left = prepend_known (buffered b) left

-- where the source was seen to end, none is left in it
abbrev pub SeesEnd : Buffer → Option (List ℕ) → Type 0
SeesEnd b left = IsTrue b.ended → IsAtEnd left

-- so many bytes wait, or the source has ended before; the mark and what is still to be taken are as before
pub record IsReadAhead (old_mark new_mark : Bool) (old new left : Option (List ℕ)) (waits : List ℕ) (wanted : ℕ) (found : Bool) : Type 0 where
  pub mark : new_mark ≡ old_mark
  pub kept : Keeps old new
  pub there : IsTrue found → wanted ≤ length waits
  pub ended : IsFalse found → IsAtEnd left × (length waits < wanted)
