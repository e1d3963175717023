-- Forms of words that are read one after the other.
use Rattle.std.proofs.Common.{◌≡◌, ◌≢◌, ◌⊎◌, inl, inr, Bool, true, false, ℕ, ◌+◌, ◌-◌, ◌<◌, ◌≤◌, ◌^◌, List, [], ◌∷◌, ◌++◌, min, length, length-append, replicate, take, drop, zero, suc, append-nil, append_assoc, refl, sym, ◌∙◌, ap, subst, arith}
use Rattle.std.specs.Prelude.{Option, Some, None, MatchOption, MatchBool, codes, All}
use Rattle.std.proofs.lemmas.List.Elements.{All-nil, All-cons, All-append, All-replicate, All-drop}
use Rattle.std.proofs.lemmas.List.{length-replicate, nil_from_length}
use Rattle.std.proofs.Math.Seq.{take-append_seam, take-append-add}
use Rattle.std.specs.Prelude.{not}
use Rattle.std.specs.Str.{bytes_eq}
use Rattle.std.proofs.lemmas.Bool.{false≢true}
use Rattle.std.proofs.lemmas.Slice.Eq.{bytes_eq-Decides}
use Rattle.std.proofs.lemmas.Slice.Zip.{all_zipped_more}
use Rattle.g1_words.specs.Geometry.{IsWithinBounds}
use Rattle.g1_text.specs.Forms.{Form, Spells, IsDataWord, IsCurrentWord, Word, Single, Maybe, ◌▸◌, Number, Labelled, Current, Many, Abridges, Holding, Sizes, IsTarget, StandsFor, HasFront, HasFirst, HasValues}
use Rattle.g1_text.specs.Graphs.{Shortens}
use Rattle.g1_text.specs.ByName.{Fills}

pub read_one : (Sort : List ℕ → Type 0) {before left : List (List ℕ)} → HasFirst Sort before left → HasFront (Single Sort) before left
read_one Sort r = (r.0 ∷ [], r.1, (r.0, refl, r.2))

pub read_then : (a b : Form) {before middle left : List (List ℕ)} → HasFront a before middle → HasFront b middle left → HasFront (a ▸ b) before left
read_then a b {left = left} r s = (r.0 ++ s.0, r.1 ∙ ap (λ ws. r.0 ++ ws) s.1 ∙ sym (append_assoc r.0 s.0 left), (r.0, s.0, refl, r.2, s.2))

-- no word is left
pub read_all : (a : Form) {before left : List (List ℕ)} → HasFront a before left → left ≡ [] → a before
read_all a r e = subst a (sym (r.1 ∙ ap (λ ws. r.0 ++ ws) e ∙ append-nil r.0)) r.2

-- the words that are left are of the next form
pub then_all : (a b : Form) {before left : List (List ℕ)} → HasFront a before left → b left → (a ▸ b) before
then_all a b {left = left} r s = (r.0, left, r.1, r.2, s)

pub three_then : (a b c d : Form) {before left : List (List ℕ)} → HasFront (a ▸ b ▸ c) before left → d left → (a ▸ b ▸ c ▸ d) before
three_then a b c d {left = left} r s =
    let first = r.2.0 in
    let second = r.2.4.0 in
    let third = r.2.4.1 in
    let apart = r.1 ∙ ap (λ ws. ws ++ left) (r.2.2 ∙ ap (λ ws. first ++ ws) r.2.4.2) ∙ append_assoc first (second ++ third) left ∙ ap (λ ws. first ++ ws) (append_assoc second third left) in
    (first, second ++ (third ++ left), apart, r.2.3, (second, third ++ left, refl, r.2.4.3, (third, left, refl, r.2.4.4, s)))

-- a line that begins with this word
pub begins_with : (word : List ℕ) (a : Form) (words : List (List ℕ)) → a words → (Word word ▸ a) (word ∷ words)
begins_with word a words s = (word ∷ [], words, refl, refl, s)

pub not_labelled : (word : List ℕ) {before left : List (List ℕ)} → left ≡ before → HasFront (Labelled word) before left
not_labelled word e = ([], sym e, tt)

pub labelled : (word : List ℕ) (n : ℕ) {before middle left : List (List ℕ)} → before ≡ word ∷ middle → HasFirst (Spells (2 ^ 64) n) middle left → HasFront (Labelled word) before left
labelled word n e r = (word ∷ r.0 ∷ [], e ∙ ap (λ ws. word ∷ ws) r.1, (word ∷ [], r.0 ∷ [], refl, refl, (r.0, refl, (n, r.2))))

pub named : (word : List ℕ) (n : ℕ) {before middle left : List (List ℕ)} → before ≡ word ∷ middle → HasFirst (Spells (2 ^ 64) n) middle left → HasFront (Word word ▸ Single (Spells (2 ^ 64) n)) before left
named word n e r = (word ∷ r.0 ∷ [], e ∙ ap (λ ws. word ∷ ws) r.1, (word ∷ [], r.0 ∷ [], refl, refl, (r.0, refl, r.2)))

pub no_current : {before left : List (List ℕ)} → left ≡ before → HasFront Current before left
no_current e = ([], sym e, tt)

pub current_read : {before middle left : List (List ℕ)} → before ≡ codes "current" ∷ middle → HasFirst IsCurrentWord middle left → HasFront Current before left
current_read e r = (codes "current" ∷ r.0 ∷ [], e ∙ ap (λ ws. codes "current" ∷ ws) r.1, (codes "current" ∷ [], r.0 ∷ [], refl, refl, (r.0, refl, r.2)))

-- a number that may be left out
pub maybe_number : (told : Option ℕ) (X : Type 0) {before left : List (List ℕ)} → MatchOption told ((left ≡ before) × X) (λ n. HasFirst (Spells (2 ^ 64) n) before left) → HasFront (Maybe Number) before left
maybe_number None X m = ([], sym m.0, tt)
maybe_number (Some n) X m = (m.0 ∷ [], m.1, (m.0, refl, (n, m.2)))

pub no_number : (words : List (List ℕ)) → HasFront (Maybe Number) words words
no_number words = ([], refl, tt)

-- NO WORD, AND ONE MORE
pub none_read : (Sort : List ℕ → Type 0) (words : List (List ℕ)) → HasFront (Many Sort 0) words words
none_read Sort words = ([], refl, (refl, All-nil Sort))

pub one_more_read : (Sort : List ℕ → Type 0) (i : ℕ) {before middle left : List (List ℕ)} → HasFront (Many Sort i) before middle → HasFirst Sort middle left → HasFront (Many Sort (i + 1)) before left
one_more_read Sort i {left = left} r s =
    let count = length-append r.0 (s.0 ∷ []) in
    let all = r.2.0 in
    (r.0 ++ s.0 ∷ [], r.1 ∙ ap (λ ws. r.0 ++ ws) s.1 ∙ sym (append_assoc r.0 (s.0 ∷ []) left), (omega (arith, count, all), All-append Sort r.0 (s.0 ∷ []) r.2.1 (All-cons Sort s.0 [] s.2 (All-nil Sort))))

pub many_read : (Sort : List ℕ → Type 0) (i n : ℕ) {before left : List (List ℕ)} → i ≡ n → HasFront (Many Sort i) before left → HasFront (Many Sort n) before left
many_read Sort i n {before = before} {left = left} e r = subst (λ k. HasFront (Many Sort k) before left) e r

-- no value, and one more
pub no_values : (words : List (List ℕ)) → HasValues 0 [] words words
no_values words = ([], refl, refl, tt)

pub one_more_value : (i n : ℕ) (values : List ℕ) {before middle left : List (List ℕ)} → HasValues i values before middle → HasFirst (StandsFor n) middle left → HasValues (i + 1) (values ++ n ∷ []) before left
one_more_value i n values {left = left} r s =
    let count = length-append r.0 (s.0 ∷ []) in
    let all = r.2 in
    (r.0 ++ s.0 ∷ [], r.1 ∙ ap (λ ws. r.0 ++ ws) s.1 ∙ sym (append_assoc r.0 (s.0 ∷ []) left), omega (arith, count, all), all_zipped_more StandsFor values r.0 n s.0 r.3 s.2)

-- all words were read
pub all_read : (Sort : List ℕ → Type 0) (i : ℕ) {before left : List (List ℕ)} → HasFront (Many Sort i) before left → i ≡ length before → All Sort before
all_read Sort i {before = before} {left = left} r e = at left r.1
  where
    at : (left : List (List ℕ)) → before ≡ r.0 ++ left → All Sort before
    at [] f = subst (All Sort) (sym (f ∙ append-nil r.0)) r.2.1
    at (word ∷ left) f = let count = length-append r.0 (word ∷ left) in let all = r.2.0 in let whole = ap length f in absurd (omega (arith, count, all, whole, e))

-- two dots, or none
pub dots_or_none : (found : Bool) (before left dots : List (List ℕ)) (X : Type 0) → MatchBool found (before ≡ left ++ dots) ((left ≡ before) × X) → (before ≡ left) ⊎ (before ≡ left ++ dots)
dots_or_none true before left dots X m = inr m
dots_or_none false before left dots X m = inl (sym m.0)

-- AN OBJECT'S WORDS: the first ones of all that a line may have, and two dots for those that are left out
filled : (Sort : List ℕ → Type 0) (word : List ℕ) (xs : List (List ℕ)) (n : ℕ) → All Sort xs → Sort word → length xs ≤ n → Many Sort n (xs ++ replicate (n - length xs) word)
filled Sort word xs n all is fits =
    let count = length-append xs (replicate (n - length xs) word) in
    let more = length-replicate (n - length xs) word in
    (omega (arith, count, more, fits), All-append Sort xs (replicate (n - length xs) word) all (All-replicate Sort (n - length xs) word is))

none_missing : {A : Type 0} (xs : List A) (n : ℕ) (x : A) → length xs ≡ n → xs ++ replicate (n - length xs) x ≡ xs
none_missing xs n x e = let z : n - length xs ≡ 0 = omega (arith, e) in ap (λ k. xs ++ replicate k x) z ∙ append-nil xs

module _ (dash naught : List ℕ) (slots count given : ℕ) (refs : List (List ℕ)) where
  -- what a line gives is the front of what it may have
  front_of : (values : List (List ℕ)) → length refs ≡ min slots given → length refs + length values ≡ given
      → take given ((refs ++ replicate (slots - length refs) dash) ++ (values ++ replicate (count - length values) naught)) ≡ refs ++ values
  front_of [] many all =
      let zeros = replicate (count - 0) naught in
      let nulls = replicate (slots - length refs) dash in
      let same : given ≡ length refs = omega (arith, all) in
      ap (λ n. take n ((refs ++ nulls) ++ zeros)) same ∙ ap (take (length refs)) (append_assoc refs nulls zeros) ∙ take-append_seam refs (nulls ++ zeros) ∙ sym (append-nil refs)
  front_of (v ∷ vs) many all =
      let zeros = replicate (count - length (v ∷ vs)) naught in
      let full : length refs ≡ slots = omega (arith, many, all) in
      let same : given ≡ length refs + length (v ∷ vs) = omega (arith, all) in
      ap (λ n. take n ((refs ++ replicate (slots - length refs) dash) ++ ((v ∷ vs) ++ zeros))) same
      ∙ ap (λ ws. take (length refs + length (v ∷ vs)) (ws ++ ((v ∷ vs) ++ zeros))) (none_missing refs slots dash full)
      ∙ take-append-add refs ((v ∷ vs) ++ zeros) (length (v ∷ vs)) ∙ ap (λ ws. refs ++ ws) (take-append_seam (v ∷ vs) zeros)

-- what is left out is all this word
rest_is : (word : List ℕ) (xs : List (List ℕ)) (n m : ℕ) → length xs ≤ n → All (λ w. w ≡ word) (drop n (xs ++ replicate m word))
rest_is word [] n m fits = All-drop (λ w. w ≡ word) n (replicate m word) (All-replicate (λ w. w ≡ word) m word refl)
rest_is word (x ∷ xs) zero m fits = absurd (omega (arith, fits))
rest_is word (x ∷ xs) (suc n) m fits = rest_is word xs n m (omega (arith, fits))

naught_is : IsDataWord (codes "0")
naught_is = (0, inl ((omega arith, (omega arith, tt)), refl, omega arith))

module _ (Sort : List ℕ → Type 0) (null : Sort (codes "-")) (slots count given missing many : ℕ) (words new middle left : List (List ℕ))
    (all : given ≡ length new) (sum : given + missing ≡ slots + count) (fewer : many ≡ min slots given)
    (refs values : List (List ℕ)) (first : new ≡ refs ++ middle) (second : middle ≡ values ++ left) (some : length refs ≡ many) (more : length values ≡ given - many)
    (are_refs : All Sort refs) (are_values : All IsDataWord values) where
  whole : new ≡ refs ++ values
  whole =
      let a = ap length (first ∙ ap (λ ws. refs ++ ws) second) in
      let b = length-append refs (values ++ left) in
      let d = length-append values left in
      first ∙ ap (λ ws. refs ++ ws) (second ∙ ap (λ ws. values ++ ws) (nil_from_length left (omega (arith, a, b, d, some, more, all, fewer))) ∙ append-nil values)

  abridged : ((missing ≡ 0) × (words ≡ new)) ⊎ (words ≡ new ++ codes ".." ∷ [])
      → Abridges ((refs ++ replicate (slots - length refs) (codes "-")) ++ (values ++ replicate (count - length values) (codes "0"))) words
  abridged (inl e) =
      let full : length refs ≡ slots = omega (arith, e.0, sum, some, fewer) in
      let rest : length values ≡ count = omega (arith, e.0, sum, some, more, fewer) in
      inl (e.1 ∙ whole ∙ (λ i. sym (none_missing refs slots (codes "-") full) i ++ sym (none_missing values count (codes "0") rest) i))
  abridged (inr e) =
      inr (given, e ∙ ap (λ ws. ws ++ codes ".." ∷ []) (whole ∙ sym (front_of (codes "-") (codes "0") slots count given refs values (omega (arith, some, fewer)) (omega (arith, some, more, fewer)))))

  held : ((missing ≡ 0) × (words ≡ new)) ⊎ (words ≡ new ++ codes ".." ∷ []) → Holding Sort slots count words
  held how = (
    refs ++ replicate (slots - length refs) (codes "-"),
    values ++ replicate (count - length values) (codes "0"),
    filled Sort (codes "-") refs slots are_refs null (omega (arith, some, fewer)),
    filled IsDataWord (codes "0") values count are_values naught_is (omega (arith, some, more, fewer, sum)),
    abridged how,
  )

  pub spelled : ((missing ≡ 0) × (words ≡ new)) ⊎ (words ≡ new ++ codes ".." ∷ [])
      → Shortens (refs ++ replicate (slots - length refs) (codes "-")) (values ++ replicate (count - length values) (codes "0")) words
  spelled (inl e) =
      let full : length refs ≡ slots = omega (arith, e.0, sum, some, fewer) in
      let rest : length values ≡ count = omega (arith, e.0, sum, some, more, fewer) in
      inl (e.1 ∙ whole ∙ (λ i. sym (none_missing refs slots (codes "-") full) i ++ sym (none_missing values count (codes "0") rest) i))
  spelled (inr e) =
      let full = (filled Sort (codes "-") refs slots are_refs null (omega (arith, some, fewer))).0 in
      inr (
        given,
        e ∙ ap (λ ws. ws ++ codes ".." ∷ []) (whole ∙ sym (front_of (codes "-") (codes "0") slots count given refs values (omega (arith, some, fewer)) (omega (arith, some, more, fewer)))),
        rest_is (codes "-") refs given (slots - length refs) (omega (arith, some, fewer)),
        rest_is (codes "0") values (given - length (refs ++ replicate (slots - length refs) (codes "-"))) (count - length values) (omega (arith, some, more, fewer, full)),
      )

  filling_of : ((missing ≡ 0) × (words ≡ new)) ⊎ (words ≡ new ++ codes ".." ∷ [])
      → (references data_words : List (List ℕ)) × Many Sort slots references × Many IsDataWord count data_words × Shortens references data_words words
  filling_of how = (
    refs ++ replicate (slots - length refs) (codes "-"),
    values ++ replicate (count - length values) (codes "0"),
    filled Sort (codes "-") refs slots are_refs null (omega (arith, some, fewer)),
    filled IsDataWord (codes "0") values count are_values naught_is (omega (arith, some, more, fewer, sum)),
    spelled how,
  )

pub holding : (Sort : List ℕ → Type 0) → Sort (codes "-") → (slots count given missing many : ℕ) {words new middle left : List (List ℕ)}
    → (given ≡ length new) × (given + missing ≡ slots + count) × (((missing ≡ 0) × (words ≡ new)) ⊎ (words ≡ new ++ codes ".." ∷ []))
    → many ≡ min slots given → HasFront (Many Sort many) new middle → HasFront (Many IsDataWord (given - many)) middle left → Holding Sort slots count words
holding Sort null slots count given missing many {words = words} {new = new} {middle = middle} {left = left} told fewer r s =
    held Sort null slots count given missing many words new middle left told.0 told.1 fewer r.0 s.0 r.1 s.1 r.2.0 s.2.0 r.2.1 s.2.1 told.2

-- W, K and N are those of a heap
pub sizes_read : (w k n x y z : ℕ) {before left : List (List ℕ)} → (w ≡ x) × (k ≡ y) × (n ≡ z) → IsWithinBounds w k n
    → HasFront (Single (Spells (2 ^ 64) x) ▸ Single (Spells (2 ^ 64) y) ▸ Single (Spells (2 ^ 64) z)) before left → HasFront Sizes before left
sizes_read w k n x y z e limits r =
    let within = subst (λ a. IsWithinBounds a y z) e.0 (subst (λ a. IsWithinBounds w a z) e.1 (subst (λ a. IsWithinBounds w k a) e.2 limits)) in
    (r.0, r.1, (x, y, z, within, r.2))

-- a word that is not another one
pub same_word : (word other : List ℕ) → false ≡ not (bytes_eq word other) → word ≡ other
same_word word other e = (bytes_eq-Decides word other).0 (by (bytes_eq word other) e)
  where
    by : (b : Bool) → false ≡ not b → b ≡ true
    by true e = refl
    by false e = absurd (false≢true e)

pub dash_is_target : IsTarget (codes "-")
dash_is_target e = let l : 1 ≡ 2 = ap length e in absurd (omega (arith, l))

-- so many names, and so many data words behind them
pub filling : (slots count given missing many : ℕ) {words new middle left : List (List ℕ)}
    → (given ≡ length new) × (given + missing ≡ slots + count) × (((missing ≡ 0) × (words ≡ new)) ⊎ (words ≡ new ++ codes ".." ∷ []))
    → many ≡ min slots given → HasFront (Many IsTarget many) new middle → HasFront (Many IsDataWord (given - many)) middle left → Fills slots count words
filling slots count given missing many {words = words} {new = new} {middle = middle} {left = left} told fewer r s =
    filling_of IsTarget dash_is_target slots count given missing many words new middle left told.0 told.1 fewer r.0 s.0 r.1 s.1 r.2.0 s.2.0 r.2.1 s.2.1 told.2

pub other_word : (word other : List ℕ) → false ≡ bytes_eq word other → word ≢ other
other_word word other e same = false≢true (e ∙ (bytes_eq-Decides word other).1 same)

pub not_word : (word other : List ℕ) → true ≡ not (bytes_eq word other) → word ≢ other
not_word word other e = other_word word other (by (bytes_eq word other) e)
  where
    by : (b : Bool) → true ≡ not b → false ≡ b
    by true e = sym e
    by false e = refl

pub no_words : {A : Type 0} (xs : List A) → length xs < 1 → xs ≡ []
no_words xs lt = nil_from_length xs (omega (arith, lt))

pub if_none : (a : Form) (words : List (List ℕ)) → length words ≡ 0 → Maybe a words
if_none a [] e = tt
if_none a (word ∷ words) e = absurd (omega (arith, e))

pub if_some : (a : Form) (words : List (List ℕ)) → a words → Maybe a words
if_some a [] f = tt
if_some a (word ∷ words) f = f

pub held_as : (Sort : List ℕ → Type 0) (a b slots count : ℕ) (ws words : List (List ℕ)) → a ≡ slots → b ≡ count → ws ≡ words → Holding Sort a b ws → Holding Sort slots count words
held_as Sort a b slots count ws words e f g h = subst (λ x. Holding Sort x count words) e (subst (λ x. Holding Sort a x words) f (subst (Holding Sort a b) g h))

pub fills_as : (a b slots count : ℕ) (ws words : List (List ℕ)) → a ≡ slots → b ≡ count → ws ≡ words → Fills a b ws → Fills slots count words
fills_as a b slots count ws words e f g h = subst (λ x. Fills x count words) e (subst (λ x. Fills a x words) f (subst (Fills a b) g h))
