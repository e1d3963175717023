-- What a walk over headers meets: the objects between two addresses, end to end.
use Rattle.std.specs.Prelude.{ℕ, List, ◌+◌}
use Rattle.g1_words.specs.declared.object.Object.{Object}
use Rattle.g1_words.specs.Valid.{IsObject, Tiles}

-- objects fill the words from one address up to another
abbrev pub Reaches : List ℕ → ℕ → ℕ → Type 0
Reaches words from to = (os : List Object) × Tiles words from os to

-- the object is one of those that fill the words from one address up to another
pub record StandsBetween (words : List ℕ) (from to : ℕ) (o : Object) : Type 0 where
  pub before : Reaches words from o.at
  pub object : IsObject words o
  pub after : Reaches words (o.at + o.size) to
