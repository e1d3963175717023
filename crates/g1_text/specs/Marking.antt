-- How the strong names are found: what is known of the lines that were read, and of the names that were found so far.
use Rattle.std.specs.Prelude.{◌≡◌, ◌⊎◌, ◌↔◌, ℕ, Bool, true, Option, None, Some, cond, List, ◌∷◌, ◌++◌, map, flat_map, Contains}
use Rattle.std.specs.Option.{option_map}
use Rattle.std.specs.Str.{bytes_eq}
use Rattle.std.specs.Borrow.{Bor}
use Rattle.std.specs.HashMap.{HashMap, get_by}
use Rattle.std.specs.HashSet.{HashSet, contains_by}
use Rattle.g1_text.specs.declared.weak.Known.{Known}
use Rattle.g1_text.specs.declared.weak.Marking.{Marking}
use Rattle.g1_text.specs.declared.weak.Target.{Target}
use Rattle.g1_text.specs.Reading.{words_in}
use Rattle.g1_text.specs.Weak.{Slot, HasSlots, slots_in, behind_slots, content_of, AreSlotsOf, plain_slot, root_name, line_of, IsStrong}

-- a slot as it was cut
abbrev pub slot_of : Target → Slot
slot_of t = record { weak = t.weak; target = t.word.now }

abbrev pub slots_of : List Target → List Slot
slots_of targets = map slot_of targets

-- words as they were cut
abbrev pub texts : List (Bor (List ℕ)) → List (List ℕ)
texts words = map (λ t. t.now) words

-- a line's words were cut into its slots and the words behind them
abbrev pub AreCut : List (List ℕ) → List Slot → List (List ℕ) → Type 0
AreCut words slots behind = (n : ℕ) × HasSlots words n × (slots ≡ slots_in n (content_of words)) × (behind ≡ behind_slots n (content_of words))

-- the words of a line that is kept
abbrev pub line_words : Bor (List ℕ) → List (List ℕ)
line_words line = words_in line.now

-- the words of the line that is kept for a name
abbrev pub kept_line : {S : Type 0} → HashMap (Bor (List ℕ)) (Bor (List ℕ)) S → List ℕ → Option (List (List ℕ))
kept_line objects name = option_map line_words (get_by (λ k. bytes_eq name k.now) objects)

-- whether a name is in a set
abbrev pub has_name : {S : Type 0} → HashSet (Bor (List ℕ)) S → List ℕ → Bool
has_name names name = contains_by (λ k. bytes_eq name k.now) names

-- THESE LINES WERE READ: what roots name, and the first line of each object
pub record IsKnown (lines : List (List (List ℕ))) (k : Known) : Type 0 where
  pub roots : texts k.roots.items ≡ flat_map root_name lines
  pub objects : (name : List ℕ) → kept_line k.objects name ≡ line_of name lines

-- the names of a line's slots are marked, those of weak ones aside
abbrev pub AreMarked : (List ℕ → Bool) → List (List ℕ) → Type 0
AreMarked marked words = (slots : List Slot) (name : List ℕ) → AreSlotsOf words slots → Contains slots (plain_slot name) → marked name ≡ true

-- SOME STRONG NAMES ARE MARKED: the lines of their objects are unread, or the names of their slots are marked too
pub record AreFound (lines : List (List (List ℕ))) (marked : List ℕ → Bool) (found : List ℕ → Option (List (List ℕ))) (rest : List (List (List ℕ))) : Type 0 where
  pub strong : (name : List ℕ) → marked name ≡ true → IsStrong lines name
  pub kept : (name : List ℕ) → found name ≡ cond (marked name) None (line_of name lines)
  pub unread : (words : List (List ℕ)) → Contains rest words → (name : List ℕ) × (marked name ≡ true) × (line_of name lines ≡ Some words)
  pub closed : (name : List ℕ) (words : List (List ℕ)) → marked name ≡ true → line_of name lines ≡ Some words → Contains rest words ⊎ AreMarked marked words

-- the same of what is kept, with a line in hand beside the unread ones, if there is one
abbrev pub IsFound : List (List (List ℕ)) → List (List (List ℕ)) → Marking → Type 0
IsFound lines hand m = AreFound lines (has_name m.strong) (kept_line m.objects) (hand ++ map line_words m.unread.items)

-- a name that was marked stays marked
abbrev pub StayMarked : Marking → Marking → Type 0
StayMarked m n = (name : List ℕ) → has_name m.strong name ≡ true → has_name n.strong name ≡ true

-- ALL STRONG NAMES, and no others
abbrev pub HasStrong : {S : Type 0} → List (List (List ℕ)) → HashSet (Bor (List ℕ)) S → Type 0
HasStrong lines names = (name : List ℕ) → (has_name names name ≡ true) ↔ IsStrong lines name

-- words behind one space each
abbrev pub spaced : List (List ℕ) → List ℕ
spaced words = flat_map (λ word. 32 ∷ word) words
