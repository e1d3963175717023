-- Words of short lines that are read one after the other.
use Rattle.std.proofs.Common.{◌≡◌, ◌≢◌, ℕ, zero, suc, ◌+◌, ◌-◌, ◌<◌, ◌≤◌, ◌^◌, List, [], ◌∷◌, ◌++◌, length, get_or, map, drop, append_assoc, append-nil, refl, sym, ◌∙◌, ap, subst, arith}
use Rattle.std.specs.Prelude.{Option, Some, None, Result, Ok, Err, MatchOption, MatchResult, All, codes, decimal}
use Rattle.std.specs.List.{AllZip}
use Rattle.std.proofs.lemmas.Fmt.{decimal_is_IsNumeral}
use Rattle.g1_text.specs.Lines.{reference_word}
use Rattle.g1_text.specs.Forms.{Form, Spells, Denotes, Word, Single, ◌▸◌, HasFront, HasFirst, HasNoFirst}
use Rattle.g1_text.proofs.OneValue.{spells_one}
use Rattle.g1_text.specs.Short.{TellsNumber, TellsLabelled}

-- A FORM AND ANOTHER BEHIND IT
pub two_fronts : (a b : Form) {before rest : List (List ℕ)} → HasFront (a ▸ b) before rest → (middle : List (List ℕ)) × HasFront a before middle × HasFront b middle rest
two_fronts a b {rest = rest} h =
    let x = h.2.0 in
    let y = h.2.1 in
    (y ++ rest, (x, h.1 ∙ ap (λ ws. ws ++ rest) h.2.2 ∙ append_assoc x y rest, h.2.3), (y, refl, h.2.4))

pub front_and_rest : (a b : Form) {words : List (List ℕ)} → (a ▸ b) words → (middle : List (List ℕ)) × HasFront a words middle × b middle
front_and_rest a b h = (h.1, (h.0, h.2, h.3), h.4)

pub whole_front : (a : Form) {words : List (List ℕ)} → a words → HasFront a words []
whole_front a {words} h = (words, sym (append-nil words), h)

pub moved : {form : Form} {before other rest : List (List ℕ)} → before ≡ other → HasFront form other rest → HasFront form before rest
moved e h = (h.0, e ∙ h.1, h.2)

-- one word of a sort in front
pub one_front : (Sort : List ℕ → Type 0) {before rest : List (List ℕ)} → HasFront (Single Sort) before rest → HasFirst Sort before rest
one_front Sort {rest = rest} h = (h.2.0, h.1 ∙ ap (λ ws. ws ++ rest) h.2.1, h.2.2)

-- this word in front
pub word_front : (word : List ℕ) {before rest : List (List ℕ)} → HasFront (Word word) before rest → before ≡ word ∷ rest
word_front word {rest = rest} h = h.1 ∙ ap (λ ws. ws ++ rest) h.2

-- what stands behind the first word of a line
pub behind_word : (word first : List ℕ) (a : Form) {words : List (List ℕ)} → (Word word ▸ a) (first ∷ words) → a words
behind_word word first a h = subst a (sym (ap (drop 1) (h.2 ∙ ap (λ ws. ws ++ h.1) h.3))) h.4

pub first_word : (word : List ℕ) (a : Form) {words : List (List ℕ)} → (Word word ▸ a) words → get_or words 0 [] ≡ word
first_word word a h = ap (λ ws. get_or ws 0 []) (h.2 ∙ ap (λ ws. ws ++ h.1) h.3)

-- ONE WORD that was read, of those that stand for one number
module _ (Says : ℕ → List ℕ → Type 0) (one : (m n : ℕ) (word : List ℕ) → Says m word → Says n word → m ≡ n) (n : ℕ) (word : List ℕ) (before new rest : List (List ℕ)) (says : Says n word) (e : before ≡ word ∷ rest) where
  same_first : (m : ℕ) → HasFirst (Says m) before new → (m ≡ n) × (new ≡ rest)
  same_first m h =
      let words : h.0 ∷ new ≡ word ∷ rest = sym h.1 ∙ e in
      (one m n word (subst (Says m) (ap (λ ws. get_or ws 0 []) words) h.2) says, ap (drop 1) words)

  pub first_some : (X : Type 0) (r : Option ℕ) → MatchOption r (X × HasNoFirst (λ w. (k : ℕ) × Says k w) before) (λ m. HasFirst (Says m) before new) → (r ≡ Some n) × (new ≡ rest)
  first_some X None none = absurd (none.1 word rest e (n, says))
  first_some X (Some m) h = let s = same_first m h in (ap Some s.0, s.1)

  pub first_ok : {E : Type 0} (r : Result ℕ E) → MatchResult r (λ m. HasFirst (Says m) before new) (λ _. HasNoFirst (λ w. (k : ℕ) × Says k w) before) → (r ≡ Ok n) × (new ≡ rest)
  first_ok (Ok m) h = let s = same_first m h in (ap Ok s.0, s.1)
  first_ok (Err x) none = absurd (none word rest e (n, says))

-- a dash is no number
dash_unspelled : (n : ℕ) (word : List ℕ) → word ≡ codes "-" → Spells (2 ^ 64 - 1) n word → ⊥
dash_unspelled n word e p = let d = (subst (λ w. Spells (2 ^ 64 - 1) n w) e p).0.1.0 in absurd (omega (arith, d))

pub denotes_one : (m n : ℕ) (word : List ℕ) → Denotes m word → Denotes n word → m ≡ n
denotes_one zero zero word p q = refl
denotes_one zero (suc n) word p q = absurd (dash_unspelled n word p q)
denotes_one (suc m) zero word p q = absurd (dash_unspelled m word q p)
denotes_one (suc m) (suc n) word p q = ap suc (spells_one (2 ^ 64 - 1) m n word p q)

-- A NUMBER IN FRONT OF A WORD that is none
pub number_told : (t : Option ℕ) (word : List ℕ) (before new middle rest : List (List ℕ)) (X : Type 0) (r : Option ℕ)
    → ((n : ℕ) (digits : List ℕ) (ws : List (List ℕ)) → Spells (2 ^ 64) n digits → before ≡ digits ∷ ws → (r ≡ Some n) × (new ≡ ws))
    → MatchOption r ((new ≡ before) × X) (λ n. HasFirst (Spells (2 ^ 64) n) before new)
    → ((n : ℕ) → Spells (2 ^ 64) n word → ⊥) → HasFront (TellsNumber t) before middle → middle ≡ word ∷ rest → (r ≡ t) × (new ≡ word ∷ rest)
number_told (Some n) word before new middle rest X r full read none front e =
    let h = one_front (Spells (2 ^ 64) n) front in
    let s = full n h.0 middle h.2 h.1 in
    (s.0, s.1 ∙ e)
number_told None word before new middle rest X None full read none front e = (refl, read.0 ∙ front.1 ∙ ap (λ ws. ws ++ middle) front.2 ∙ e)
number_told None word before new middle rest X (Some n) full read none front e =
    absurd (none n (subst (Spells (2 ^ 64) n) (ap (λ ws. get_or ws 0 []) (sym read.1 ∙ front.1 ∙ ap (λ ws. ws ++ middle) front.2 ∙ e)) read.2))

-- A WORD AND ITS NUMBER in front of others
pub named_told : {E : Type 0} (word : List ℕ) (t : Option ℕ) (before new rest : List (List ℕ)) (r : Result (Option ℕ) E)
    → ((n : ℕ) (digits : List ℕ) (ws : List (List ℕ)) → Spells (2 ^ 64) n digits → before ≡ word ∷ digits ∷ ws → (r ≡ Ok (Some n)) × (new ≡ ws))
    → (((ws : List (List ℕ)) → before ≢ word ∷ ws) → (r ≡ Ok None) × (new ≡ before))
    → ((ws : List (List ℕ)) → rest ≢ word ∷ ws) → HasFront (TellsLabelled word t) before rest → (r ≡ Ok t) × (new ≡ rest)
named_told word (Some n) before new rest r full absent other front =
    let parts = two_fronts (Word word) (Single (Spells (2 ^ 64) n)) front in
    let number = one_front (Spells (2 ^ 64) n) parts.2 in
    full n number.0 rest number.2 (word_front word parts.1 ∙ ap (λ ws. word ∷ ws) number.1)
named_told word None before new rest r full absent other front =
    let e : before ≡ rest = front.1 ∙ ap (λ ws. ws ++ rest) front.2 in
    let p = absent (λ ws f. other ws (sym e ∙ f)) in
    (p.0, p.1 ∙ e)

-- what stands behind does not begin so
pub labelled_apart : (word other : List ℕ) (t : Option ℕ) {before rest : List (List ℕ)} → other ≢ word → ((ws : List (List ℕ)) → rest ≢ word ∷ ws) → HasFront (TellsLabelled other t) before rest
    → (ws : List (List ℕ)) → before ≢ word ∷ ws
labelled_apart word other (Some n) apart none front ws e =
    let parts = two_fronts (Word other) (Single (Spells (2 ^ 64) n)) front in
    apart (ap (λ vs. get_or vs 0 []) (sym (word_front other parts.1) ∙ e))
labelled_apart word other None {rest = rest} apart none front ws e = none ws (sym (front.1 ∙ ap (λ vs. vs ++ rest) front.2) ∙ e)

-- WORDS from a place on
pub next_word : (ws rest : List (List ℕ)) (i : ℕ) → i < length ws → drop i ws ++ rest ≡ get_or ws i [] ∷ (drop (i + 1) ws ++ rest)
next_word [] rest i lt = absurd (omega (arith, lt))
next_word (w ∷ ws) rest zero lt = refl
next_word (w ∷ ws) rest (suc i) lt =
    let more : suc i + 1 ≡ suc (i + 1) = omega arith in
    next_word ws rest i (omega (arith, lt)) ∙ ap (λ n. get_or ws i [] ∷ (drop n (w ∷ ws) ++ rest)) (sym more)

pub no_word : (ws rest : List (List ℕ)) (n : ℕ) → length ws ≤ n → drop n ws ++ rest ≡ rest
no_word [] rest zero le = refl
no_word [] rest (suc n) le = refl
no_word (w ∷ ws) rest zero le = absurd (omega (arith, le))
no_word (w ∷ ws) rest (suc n) le = no_word ws rest n (omega (arith, le))

-- WORDS AS THEY ARE PRINTED say their numbers
pub decimal_spells : (bound n : ℕ) → n < bound → n < 2 ^ 64 → Spells bound n (decimal n)
decimal_spells bound n lt small = let d = decimal_is_IsNumeral n small in (d.0, d.1, lt)

pub printed_denotes : (x : ℕ) → x < 2 ^ 64 → Denotes x (reference_word x)
printed_denotes zero small = refl
printed_denotes (suc a) small = decimal_spells (2 ^ 64 - 1) a (omega (arith, small)) (omega (arith, small))

pub printed_all : (Says : ℕ → List ℕ → Type 0) (word : ℕ → List ℕ) (bound : ℕ) → ((x : ℕ) → x < bound → Says x (word x)) → (xs : List ℕ) → All (λ x. x < bound) xs → AllZip Says xs (map word xs)
printed_all Says word bound says [] all = tt
printed_all Says word bound says (x ∷ xs) all = (says x (all 0 0 (omega arith)), printed_all Says word bound says xs (λ k d lt. all (suc k) d (omega (arith, lt))))

-- FORMS OF WORDS that stand one behind the other
pub one_word : {Sort : List ℕ → Type 0} {word : List ℕ} → Sort word → Single Sort (word ∷ [])
one_word {word = word} s = (word, refl, s)

pub word_then : {a : Form} (word : List ℕ) {words : List (List ℕ)} → a words → (Word word ▸ a) (word ∷ words)
word_then word {words} s = (word ∷ [], words, refl, refl, s)

pub one_then : {Sort : List ℕ → Type 0} {a : Form} (word : List ℕ) {words : List (List ℕ)} → Sort word → a words → (Single Sort ▸ a) (word ∷ words)
one_then word {words} s t = (word ∷ [], words, refl, (word, refl, s), t)

pub labelled_then : {a : Form} (label : List ℕ) (n : ℕ) {words : List (List ℕ)} → n < 2 ^ 64 → a words → (TellsLabelled label (Some n) ▸ a) (label ∷ decimal n ∷ words)
labelled_then label n {words} small s =
    (label ∷ decimal n ∷ [], words, refl, (label ∷ [], decimal n ∷ [], refl, refl, (decimal n, refl, decimal_spells (2 ^ 64) n small small)), s)

pub label : (word : List ℕ) (n : ℕ) → n < 2 ^ 64 → TellsLabelled word (Some n) (word ∷ decimal n ∷ [])
label word n small = word_then word (one_word (decimal_spells (2 ^ 64) n small small))

pub number_then : {a : Form} (n : ℕ) {words : List (List ℕ)} → n < 2 ^ 64 → a words → (TellsNumber (Some n) ▸ a) (decimal n ∷ words)
number_then n {words} small s = (decimal n ∷ [], words, refl, (decimal n, refl, decimal_spells (2 ^ 64) n small small), s)
