-- Lines of objects by name in plain words.
use Rattle.std.specs.Prelude.{ℕ, List}
use Rattle.g1_text.specs.Boxes.{boxed_text}
use Rattle.g1_text.specs.Weak.{IsWithoutWeak}

-- A TEXT IN PLAIN WORDS: values and places inside objects have lines of their own, and then each weak reference is an ordinary one or null
abbrev pub IsPlainText : List ℕ → List ℕ → Type 0
IsPlainText text plain = IsWithoutWeak (boxed_text text) plain
