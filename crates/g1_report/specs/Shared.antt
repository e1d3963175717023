-- Words that stand for two texts.
use Rattle.std.specs.Prelude.{◌≡◌, ◌≢◌, ◌≤◌, ℕ, List, Option, Some, None, Contains}
use Rattle.std.specs.Borrow.{Bor}
use Rattle.g1_report.specs.declared.sides.Side.{Side}
use Rattle.g1_report.specs.declared.sides.Shared.{Shared}
use Rattle.g1_report.specs.Wording.{Called, name_of}

-- the word stands for this text among some, and for another one elsewhere
abbrev pub IsAnother : Called → ℕ → List ℕ → List ℕ → Type 0
IsAnother texts word text other = (name_of texts word ≡ Some text) × (text ≢ other)

-- the word stands for this text before, and for another one after
abbrev pub AreTwoTexts : Side → Side → ℕ → List ℕ → List ℕ → Type 0
AreTwoTexts before after word text other = IsAnother before.texts.entries word text other × (name_of after.texts.entries word ≡ Some other)

-- some word stands for two texts
abbrev pub SharesTexts : Side → Side → Type 0
SharesTexts before after = (word : ℕ) × (text : List ℕ) × (other : List ℕ) × AreTwoTexts before after word text other

-- THE LEAST WORD THAT STANDS FOR TWO TEXTS, and the two
pub record HasTwoTexts (before after : Side) (word : ℕ) (text other : List ℕ) : Type 0 where
  pub two : AreTwoTexts before after word text other
  pub least : (lower : ℕ) (one more : List ℕ) → AreTwoTexts before after lower one more → word ≤ lower

-- before, the word of this entry stands for another text
abbrev pub StandsTwice : Called → ℕ × Bor (List ℕ) → Type 0
StandsTwice before e = (text : List ℕ) × IsAnother before e.0 text e.1.now

-- of the entries here whose words stand for other texts before, this is that of the least word; or there is none
abbrev pub IsLeastOf : Called → Called → Option Shared → Type 0
IsLeastOf before here None = (e : ℕ × Bor (List ℕ)) → Contains here e → StandsTwice before e → ⊥
IsLeastOf before here (Some s) =
    Contains here (s.word, s.other) × IsAnother before s.word s.text.now s.other.now
    × ((e : ℕ × Bor (List ℕ)) → Contains here e → StandsTwice before e → s.word ≤ e.0)
