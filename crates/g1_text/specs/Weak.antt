-- Weak references: how lines of objects by name are read that have some.
use Rattle.std.specs.Prelude.{◌≡◌, ◌⊎◌, ℕ, zero, suc, Bool, true, false, cond, ◌&&◌, not, Option, Some, List, [], ◌∷◌, ◌++◌, map, take, drop, flat_map, find, codes, slice_index_or, All, Contains, IsUtf8, MatchBool}
use Rattle.std.specs.List.{AllZip, list_any, join_with_byte}
use Rattle.std.specs.Str.{bytes_eq}
use Rattle.g1_text.specs.Reading.{words_in, parts_of}
use Rattle.g1_text.specs.Forms.{HasSize}

-- SLOTS

-- a slot: the word of its target, and whether `weak` stands in front of it
pub record Slot : Type 0 where
  pub weak : Bool
  pub target : List ℕ

abbrev pub weak_slot : List ℕ → Slot
weak_slot target = record { weak = true; target = target }

abbrev pub plain_slot : List ℕ → Slot
plain_slot target = record { weak = false; target = target }

-- whether a word and those behind it begin with a weak reference: `weak`, and a word that is not `..`
abbrev pub begins_weak : List ℕ → List (List ℕ) → Bool
begins_weak word [] = false
begins_weak word (next ∷ words) = bytes_eq word (codes "weak") && not (bytes_eq next (codes ".."))

-- SO MANY SLOTS, each one word, or `weak` and a word; fewer if the words end before
abbrev pub slots_in : ℕ → List (List ℕ) → List Slot
slots_in zero words = []
slots_in (suc n) [] = []
slots_in (suc n) (word ∷ words) = cond (begins_weak word words) (weak_slot (slice_index_or words 0 []) ∷ slots_in n (drop 1 words)) (plain_slot word ∷ slots_in n words)

-- the words behind them
abbrev pub behind_slots : ℕ → List (List ℕ) → List (List ℕ)
behind_slots zero words = words
behind_slots (suc n) [] = []
behind_slots (suc n) (word ∷ words) = cond (begins_weak word words) (behind_slots n (drop 1 words)) (behind_slots n words)

-- a line `object NAME SIZE/SLOTS ..` says how many slots it has
abbrev pub SaysSlots : List (List ℕ) → ℕ → Type 0
SaysSlots words n = (name word : List ℕ) × (content : List (List ℕ)) × (size : ℕ) × (words ≡ codes "object" ∷ name ∷ word ∷ content) × HasSize size n word

-- how many slots a line has: none if it says nothing of them
abbrev pub HasSlots : List (List ℕ) → ℕ → Type 0
HasSlots words n = SaysSlots words n ⊎ ((n ≡ 0) × ((m : ℕ) → SaysSlots words m → ⊥))

-- what stands behind `object NAME SIZE/SLOTS`
abbrev pub content_of : List (List ℕ) → List (List ℕ)
content_of words = drop 3 words

-- THE SLOTS OF A LINE
abbrev pub AreSlotsOf : List (List ℕ) → List Slot → Type 0
AreSlotsOf words slots = (n : ℕ) × HasSlots words n × (slots ≡ slots_in n (content_of words))

-- whether a slot is weak
abbrev pub is_weak : Slot → Bool
is_weak slot = slot.weak

-- STRONG NAMES

-- what a line `root NAME ..` names
abbrev pub root_name : List (List ℕ) → List (List ℕ)
root_name (kind ∷ name ∷ words) = cond (bytes_eq kind (codes "root")) (name ∷ []) []
root_name _ = []

-- whether a line is `object NAME ..`
abbrev pub is_line_of : List ℕ → List (List ℕ) → Bool
is_line_of name (kind ∷ other ∷ words) = bytes_eq kind (codes "object") && bytes_eq name other
is_line_of name _ = false

-- the line of the object with a name: the first one
abbrev pub line_of : List ℕ → List (List (List ℕ)) → Option (List (List ℕ))
line_of name lines = find (is_line_of name) lines

-- THE STRONG NAMES: those that roots name, and those of the slots that are not weak in lines of objects with strong names
pub data IsStrong (lines : List (List (List ℕ))) : List ℕ → Type 0 where
  by_root : {name : List ℕ} → Contains (flat_map root_name lines) name → IsStrong lines name
  by_slot : {holder name : List ℕ} (words : List (List ℕ)) (slots : List Slot)
      → IsStrong lines holder → line_of holder lines ≡ Some words → AreSlotsOf words slots → Contains slots (plain_slot name) → IsStrong lines name

-- THE TEXT WITHOUT WEAK REFERENCES

-- the word for a slot: its target; or `-`, if it is weak and the target is not strong
abbrev pub IsWordFor : (List ℕ → Type 0) → Slot → List ℕ → Type 0
IsWordFor Strong slot word = MatchBool slot.weak ((Strong slot.target × (word ≡ slot.target)) ⊎ ((Strong slot.target → ⊥) × (word ≡ codes "-"))) (word ≡ slot.target)

-- a line as it is read: the same bytes if no slot is weak, and else its words with one for each slot
abbrev pub IsReadAs : (List ℕ → Type 0) → List ℕ → List ℕ → Type 0
IsReadAs Strong line other =
    let words = words_in line in
    (((slots : List Slot) → AreSlotsOf words slots → list_any is_weak slots ≡ false) × (other ≡ line))
    ⊎ ((n : ℕ) × (targets : List (List ℕ)) × HasSlots words n × (list_any is_weak (slots_in n (content_of words)) ≡ true)
    × AllZip (IsWordFor Strong) (slots_in n (content_of words)) targets
    × (other ≡ join_with_byte 32 (take 3 words ++ (targets ++ behind_slots n (content_of words)))))

-- A TEXT AS IT IS READ, line by line. One that is not UTF-8 stays as it is
pub record IsWithoutWeak (text other : List ℕ) : Type 0 where
  pub lines : All IsUtf8 (parts_of text) → (parts : List (List ℕ)) × AllZip (IsReadAs (IsStrong (map words_in (parts_of text)))) (parts_of text) parts × (other ≡ join_with_byte 10 parts)
  pub bytes : (All IsUtf8 (parts_of text) → ⊥) → other ≡ text
