-- The values of `--set` among words.
use Rattle.std.specs.Prelude.{◌≡◌, ◌≢◌, ℕ, Bool, true, false, List, [], ◌∷◌, ◌++◌, ◌==◌, ◌&&◌, ◌||◌, map, codes, unwrap_or, slice_get}
use Rattle.std.specs.List.{All, list_all}
use Rattle.std.specs.Char.{is_ascii_digit}
use Rattle.clap.specs.Words.{Text}
use Rattle.g1_command.specs.declared.lists.Follows.{Follows}
use Rattle.g1_command.specs.declared.lists.Follows.TheVariants.{Word, Region, File}

-- whether a word is a value of `--set` behind it: digits, commas and dashes, a digit first
abbrev pub is_list_byte : ℕ → Bool
is_list_byte byte = is_ascii_digit byte || (byte == 44 || byte == 45)

abbrev pub is_list : Text → Bool
is_list [] = false
is_list (first ∷ rest) = is_ascii_digit first && list_all is_list_byte rest

abbrev pub set : Text
set = codes "--set"

-- a value with the option before it
abbrev pub tied_to_set : Text → Text
tied_to_set list = codes "--set=" ++ list

-- the first of some words, or an empty word
abbrev pub first_word : List Text → Text
first_word words = unwrap_or (slice_get words 0) []

-- EACH VALUE OF `--set` IS TIED TO IT: behind it come all words that are lists, up to the first one that is none. Other words stay;
-- so do all behind `--`
pub data AreTied : List Text → List Text → Type 0 where
  none : AreTied [] []
  values : (first : Text) (lists words tied : List Text) → All (λ word. is_list word ≡ true) (first ∷ lists) → is_list (first_word words) ≡ false → AreTied words tied
      → AreTied (set ∷ first ∷ lists ++ words) (map tied_to_set (first ∷ lists) ++ tied)
  other : {word : Text} {words tied : List Text} → word ≢ codes "--" → (word ≡ set → is_list (first_word words) ≡ false) → AreTied words tied
      → AreTied (word ∷ words) (word ∷ tied)
  files : {words : List Text} → AreTied (codes "--" ∷ words) (codes "--" ∷ words)

-- the words that are left become these, by what the word before them says of the next one
abbrev pub GoOn : Follows → List Text → List Text → Type 0
GoOn Word words tied = AreTied words tied
GoOn File words tied = tied ≡ words
GoOn Region words tied =
    (lists : List Text) × (others : List Text) × (rest : List Text) × (words ≡ lists ++ others) × (tied ≡ map tied_to_set lists ++ rest)
    × All (λ word. is_list word ≡ true) lists × (is_list (first_word others) ≡ false) × AreTied others rest

-- a word becomes these, and then says what the next one may be
abbrev pub TiesWord : Follows → Text → Text → Follows → List Text → Type 0
TiesWord follows word next then added =
    (words tied : List Text) → first_word words ≡ next → GoOn then words tied → GoOn follows (word ∷ words) (added ++ tied)

-- a word adds these to those that are tied
abbrev pub AddsTied : Follows → Text → Text → Follows → List Text → List Text → Type 0
AddsTied follows word next then old new = (added : List Text) × (new ≡ old ++ added) × TiesWord follows word next then added
