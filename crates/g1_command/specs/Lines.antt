-- The lines of a reader.
use Rattle.std.specs.Prelude.{◌≡◌, ◌≢◌, ◌⊎◌, ℕ, Bool, List, [], ◌∷◌, ◌++◌, length, nat_lt, All, Option, IfSome}
use Rattle.std.specs.Io.KnownBytes.{Consumes}
use Rattle.std.specs.Io.Buffered.{reader_remaining}
use Rattle.g1_command.specs.declared.streams.LineReader.{LineReader}

-- the bytes that a reader of lines has left, if those of its reader are known
abbrev pub left_of : {R : Type 0} → (R → Option (List ℕ)) → LineReader R → Option (List ℕ)
left_of known r = reader_remaining (λ w. known w.inner.now) r.inner

-- no byte ends a line
abbrev pub HasNoEnd : List ℕ → Type 0
HasNoEnd xs = All (λ b. b ≢ 10) xs

-- one line, with the byte 10 that ends it
abbrev pub IsEndedLine : List ℕ → Type 0
IsEndedLine line = (content : List ℕ) × HasNoEnd content × (line ≡ content ++ 10 ∷ [])

-- A LINE IS READ behind what was there, by what is left before and after: a line with its end; or bytes without one, and then
-- they were all that was left. There is a line if there was a byte.
pub record ReadsLine (before after : Option (List ℕ)) (old new : List ℕ) (is_there : Bool) : Type 0 where
  pub line : List ℕ
  pub added : new ≡ old ++ line
  pub taken : Consumes before after line
  pub whole : IsEndedLine line ⊎ (HasNoEnd line × IfSome before (λ xs. xs ≡ line))
  pub there : is_there ≡ nat_lt 0 (length line)
