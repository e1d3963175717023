-- The words that are written for an object by name.
use Rattle.std.proofs.Common.{◌≡◌, ◌≢◌, ◌⊎◌, inl, inr, ℕ, zero, suc, ◌+◌, ◌-◌, ◌*◌, ◌^◌, ◌≤◌, List, [], ◌∷◌, ◌++◌, length, map, min, take, drop, replicate, append-nil, append_assoc, length-append, length-take, refl, sym, ◌∙◌, ap, subst, arith}
use Rattle.std.specs.Prelude.{Option, None, All, codes}
use Rattle.std.specs.List.{AllZip}
use Rattle.std.specs.Borrow.{Bor}
use Rattle.std.proofs.lemmas.Bool.{cases_lt}
use Rattle.std.proofs.lemmas.List.{length-replicate, length-map, length-drop, map-append, take-map, take_at, take-append-le, drop-append-le, take-append-drop, drop-map, drop_min, same_from_push, replicate-append-replicate}
use Rattle.std.proofs.lemmas.List.Elements.{All-nil, All-cons, All-append, All-take, All-replicate}
use Rattle.std.proofs.lemmas.Slice.Zip.{AllZip-long}
use Rattle.g1_text.specs.declared.placing.Entry.{Entry}
use Rattle.g1_text.specs.Reading.{words_in}
use Rattle.g1_text.specs.Forms.{StandsFor, IsDataWord, IsTarget}
use Rattle.g1_text.specs.Graphs.{NamedObject, NamedGraph, IsTargetName, Shortens, size_of, target_word}
use Rattle.g1_text.specs.ByName.{IsEntryOf}
use Rattle.g1_text.specs.Carried.{word_for, stale_at, stale_from}
use Rattle.g1_text.specs.Filled.{AreWordsOf}
use Rattle.g1_text.proofs.Fronts.{spelled, dash_is_target}
use Rattle.g1_text.proofs.HeapWords.{split_front}
use Rattle.g1_text.proofs.OneGraph.{names_no_dots, data_no_dots, not_last, shortened_one, targets_one}

-- two dots
abbrev pub dots : List (List ℕ)
dots = codes ".." ∷ []

abbrev NoDots : List (List ℕ) → Type 0
NoDots words = All (λ w. w ≢ codes "..") words

-- the words of a line without the two dots at its end
abbrev pub Opened : List (List ℕ) → List (List ℕ) → Type 0
Opened words new = (words ≡ new ++ dots) ⊎ ((words ≡ new) × ((front : List (List ℕ)) → words ≢ front ++ dots))

-- what a line gives is a front of what it may have
none_given : (slots values words new : List (List ℕ)) → NoDots (slots ++ values) → Shortens slots values words → Opened words new → NoDots new
none_given slots values words new none (inl e) (inl f) = absurd (not_last new (subst NoDots (sym e ∙ f) none))
none_given slots values words new none (inl e) (inr f) = subst NoDots (sym e ∙ f.0) none
none_given slots values words new none (inr e) (inl f) =
    subst NoDots (same_from_push (take e.0 (slots ++ values)) new (codes "..") (codes "..") (sym e.1 ∙ f)).0 (All-take (λ w. w ≢ codes "..") e.0 (slots ++ values) none)
none_given slots values words new none (inr e) (inr f) = absurd (f.1 (take e.0 (slots ++ values)) e.1)

pub stand_data : (xs : List ℕ) (words : List (List ℕ)) → AllZip StandsFor xs words → All IsDataWord words
stand_data [] [] all = All-nil IsDataWord
stand_data [] (w ∷ words) all = elim all [ ]
stand_data (x ∷ xs) [] all = elim all [ ]
stand_data (x ∷ xs) (w ∷ words) all = All-cons IsDataWord w words (x, all.0) (stand_data xs words all.1)

zip_append : {A B : Type 0} (R : A → B → Type 0) (xs us : List A) (ys vs : List B) → AllZip R xs ys → AllZip R us vs → AllZip R (xs ++ us) (ys ++ vs)
zip_append R [] us [] vs a b = b
zip_append R [] us (y ∷ ys) vs a b = elim a [ ]
zip_append R (x ∷ xs) us [] vs a b = elim a [ ]
zip_append R (x ∷ xs) us (y ∷ ys) vs a b = (a.0, zip_append R xs us ys vs a.1 b)

zip_replicate : {A B : Type 0} (R : A → B → Type 0) (n : ℕ) (x : A) (y : B) → R x y → AllZip R (replicate n x) (replicate n y)
zip_replicate R zero x y r = tt
zip_replicate R (suc n) x y r = (r, zip_replicate R n x y r)

zero_stands : StandsFor 0 (codes "0")
zero_stands = inl ((omega arith, (omega arith, tt)), refl, omega arith)

map_replicate : {A B : Type 0} (f : A → B) (n : ℕ) (x : A) → map f (replicate n x) ≡ replicate n (f x)
map_replicate f zero x = refl
map_replicate f (suc n) x = ap (λ l. f x ∷ l) (map_replicate f n x)

-- NAMES THAT NO OBJECT HAS, of one slot after the other
pub stale_both : (g : NamedGraph) (n : ℕ) (ts us : List (Option (List ℕ))) → stale_from g n (ts ++ us) ≡ stale_from g n ts ++ stale_from g (n + length ts) us
stale_both g n [] us = let e : n ≡ n + 0 = omega arith in ap (λ k. stale_from g k us) e
stale_both g n (t ∷ ts) us =
    let e : n + 1 + length ts ≡ n + suc (length ts) = omega arith in
    ap (λ l. stale_at g n t ++ l) (stale_both g (n + 1) ts us ∙ ap (λ k. stale_from g (n + 1) ts ++ stale_from g k us) e)
    ∙ sym (append_assoc (stale_at g n t) (stale_from g (n + 1) ts) (stale_from g (n + suc (length ts)) us))

pub stale_push : (g : NamedGraph) (n k : ℕ) (ts : List (Option (List ℕ))) (t : Option (List ℕ)) → k ≡ n + length ts → stale_from g n (ts ++ t ∷ []) ≡ stale_from g n ts ++ stale_at g k t
stale_push g n k ts t e = stale_both g n ts (t ∷ []) ∙ ap (λ l. stale_from g n ts ++ l) (append-nil (stale_at g (n + length ts) t) ∙ ap (λ j. stale_at g j t) (sym e))

null_stale : (g : NamedGraph) (n m : ℕ) → stale_from g n (replicate m None) ≡ []
null_stale g n zero = refl
null_stale g n (suc m) = null_stale g (n + 1) m

-- THE PARTS OF A LINE
abbrev pub texts : List (Bor (List ℕ)) → List (List ℕ)
texts ws = map (λ t. t.now) ws

opened_tail : (words new : List (List ℕ)) → Opened words new → (tail : List (List ℕ)) × (words ≡ new ++ tail)
opened_tail words new (inl e) = (dots, e)
opened_tail words new (inr e) = ([], e.0 ∙ sym (append-nil new))

-- the names, and what is behind them
pub cut_at : (cs : List (Bor (List ℕ))) (new : List (List ℕ)) (k named : ℕ) (words : List (List ℕ)) → texts cs ≡ words → Opened words new → k ≡ min (length cs) named → named ≤ length new
    → (texts (take k cs) ≡ take named new) × ((tail : List (List ℕ)) × (texts (drop k cs) ≡ drop named new ++ tail))
cut_at cs new k named words e opened least fits =
    let t = opened_tail words new opened in
    let whole = e ∙ t.1 in
    let count : length cs ≡ length new + length t.0 = sym (length-map cs (λ (t : Bor (List ℕ)). t.now)) ∙ ap length whole ∙ length-append new t.0 in
    let all : k ≡ named = omega (arith, least, fits, count) in (
      sym (take-map (λ (t : Bor (List ℕ)). t.now) k cs) ∙ (λ i. take (all i) (whole i)) ∙ take-append-le named new t.0 fits,
      (t.0, sym (drop-map (λ (t : Bor (List ℕ)). t.now) k cs) ∙ (λ i. drop (all i) (whole i)) ∙ drop-append-le named new t.0 fits),
    )

-- the data words that were read are all that is given
pub front_is_rest : (front left rest tail : List (List ℕ)) (named : ℕ) (new : List (List ℕ)) {count given : ℕ} → rest ++ tail ≡ front ++ left → length front ≡ count → count ≡ given - named → given ≡ length new → rest ≡ drop named new
    → front ≡ rest
front_is_rest front left rest tail named new e a b all is =
    let dropped = ap length is in
    sym (split_front rest tail front left e (omega (arith, a, b, all, dropped, length-drop named new))).0

pub four_parts : (old : List ℕ) (header : ℕ) (a b d first second third fourth : List ℕ) → first ≡ old ++ header ∷ [] → second ≡ first ++ a → third ≡ second ++ b → fourth ≡ third ++ d
    → fourth ≡ old ++ (header ∷ (a ++ (b ++ d)))
four_parts old header a b d first second third fourth e f g h =
    h ∙ ap (λ l. l ++ d) (g ∙ ap (λ l. l ++ b) (f ∙ ap (λ l. l ++ a) e)) ∙ append_assoc ((old ++ header ∷ []) ++ a) b d ∙ append_assoc (old ++ header ∷ []) a (b ++ d) ∙ append_assoc old (header ∷ []) (a ++ (b ++ d))

-- what is behind the size
pub behind_size : (ws : List (Bor (List ℕ))) (words : List (List ℕ)) (m : ℕ) (back : List (Bor (List ℕ))) → texts ws ≡ words → m ≡ min (length ws) 3 → back ≡ drop m ws → texts back ≡ drop 3 words
behind_size ws words m back e least is =
    let small : m ≡ min 3 (length ws) = omega (arith, least) in
    ap texts (is ∙ ap (λ n. drop n ws) small ∙ drop_min 3 ws) ∙ sym (drop-map (λ (t : Bor (List ℕ)). t.now) 3 ws) ∙ ap (drop 3) e

-- WHAT A LINE SAYS of its slots and data words
module _ (e : Entry) (o : NamedObject) (is : IsEntryOf e o) (words new : List (List ℕ)) (slots data_count given missing named : ℕ)
    (line : words ≡ drop 3 (words_in e.line.now)) (slot_count : slots ≡ e.slots) (value_count : data_count ≡ e.size - e.slots - 1)
    (all : given ≡ length new) (sum : given + missing ≡ slots + data_count) (how : ((missing ≡ 0) × (words ≡ new)) ⊎ (words ≡ new ++ dots)) (opened : Opened words new) (fewer : named ≡ min slots given)
    (refs front : List (List ℕ)) (xs : List ℕ) (first : refs ≡ take named new) (second : front ≡ drop named new) (stand : AllZip StandsFor xs front) where
  slots_is : slots ≡ length o.slots
  slots_is = omega (arith, slot_count, is.slots)

  values_is : data_count ≡ length o.written
  values_is = omega (arith, value_count, is.size, is.slots)

  content_is : words ≡ is.line.content
  content_is = line ∙ ap (drop 3) is.line.line

  shortens : Shortens (map target_word o.slots) o.written words
  shortens = subst (Shortens (map target_word o.slots) o.written) (sym content_is) is.line.shortens

  said_none : NoDots (map target_word o.slots ++ o.written)
  said_none = All-append (λ w. w ≢ codes "..") (map target_word o.slots) o.written (names_no_dots o.slots is.line.targets) (data_no_dots o.written is.line.are_data)

  new_none : NoDots new
  new_none = none_given (map target_word o.slots) o.written words new said_none shortens opened

  are_refs : All IsTarget refs
  are_refs = subst (All IsTarget) (sym first) (All-take IsTarget named new new_none)

  are_front : All IsDataWord front
  are_front = stand_data xs front stand

  some : length refs ≡ named
  some = let taken = ap length first in omega (arith, taken, length-take named new, all, fewer)

  more : length front ≡ given - named
  more = let dropped = ap length second in omega (arith, dropped, length-drop named new, all)

  one : new ≡ refs ++ front
  one = sym (take-append-drop named new) ∙ (λ i. sym first i ++ sym second i)

  abbrev nulls : List (List ℕ)
  nulls = replicate (slots - length refs) (codes "-")

  abbrev zeros : List (List ℕ)
  zeros = replicate (data_count - length front) (codes "0")

  spelled_so : Shortens (refs ++ nulls) (front ++ zeros) words
  spelled_so = spelled IsTarget dash_is_target slots data_count given missing named words new front [] all sum fewer refs front one (sym (append-nil front)) some more are_refs are_front how

  not_dash : codes "-" ≢ codes ".."
  not_dash = dash_is_target

  not_naught : codes "0" ≢ codes ".."
  not_naught e = let l : 1 ≡ 2 = ap length e in absurd (omega (arith, l))

  spelled_none : NoDots ((refs ++ nulls) ++ (front ++ zeros))
  spelled_none =
      let P : List ℕ → Type 0 = λ w. w ≢ codes ".." in
      All-append (λ w. w ≢ codes "..") (refs ++ nulls) (front ++ zeros)
      (All-append (λ w. w ≢ codes "..") refs nulls are_refs (All-replicate (λ w. w ≢ codes "..") (slots - length refs) (codes "-") not_dash))
      (All-append (λ w. w ≢ codes "..") front zeros (data_no_dots front are_front) (All-replicate (λ w. w ≢ codes "..") (data_count - length front) (codes "0") not_naught))

  same : (refs ++ nulls ≡ map target_word o.slots) × (front ++ zeros ≡ o.written)
  same = shortened_one (refs ++ nulls) (map target_word o.slots) (front ++ zeros) o.written words
      (omega (arith, length-append refs nulls, length-replicate (slots - length refs) (codes "-"), length-map o.slots target_word, slots_is, some, fewer))
      (omega (arith, length-append front zeros, length-replicate (data_count - length front) (codes "0"), values_is, more, some, fewer, sum))
      spelled_none said_none spelled_so shortens

  -- the slots for which the line has names, and the others, which are null
  abbrev targets : List (Option (List ℕ))
  targets = take named o.slots

  pub names_are : refs ≡ map target_word targets
  names_are = sym (take_at refs nulls named some) ∙ ap (take named) same.0 ∙ take-map target_word named o.slots

  pub are_targets : All IsTargetName targets
  are_targets = All-take IsTargetName named o.slots is.line.targets

  slots_are : o.slots ≡ targets ++ replicate (slots - named) None
  slots_are =
      let null : replicate (slots - length refs) (codes "-") ≡ map target_word (replicate (slots - named) None) = ap (λ n. replicate (slots - n) (codes "-")) some ∙ sym (map_replicate target_word (slots - named) None) in
      targets_one o.slots (targets ++ replicate (slots - named) None) is.line.targets
      (All-append IsTargetName targets (replicate (slots - named) None) are_targets (All-replicate IsTargetName (slots - named) None tt))
      (sym same.0 ∙ (λ i. names_are i ++ null i) ∙ sym (map-append target_word targets (replicate (slots - named) None)))

  pub stale_is : (g : NamedGraph) (n : ℕ) → stale_from g n o.slots ≡ stale_from g n targets
  stale_is g n =
      ap (stale_from g n) slots_are ∙ stale_both g n targets (replicate (slots - named) None) ∙ ap (λ l. stale_from g n targets ++ l) (null_stale g (n + length targets) (slots - named)) ∙ append-nil (stale_from g n targets)

  module _ (g : NamedGraph) (ats : List ℕ) where
    words_are : map (word_for g ats) o.slots ≡ map (word_for g ats) targets ++ replicate (slots - named) 0
    words_are = ap (map (word_for g ats)) slots_are ∙ map-append (word_for g ats) targets (replicate (slots - named) None) ∙ ap (λ l. map (word_for g ats) targets ++ l) (map_replicate (word_for g ats) (slots - named) None)

    long : length xs ≡ length front
    long = sym (AllZip-long StandsFor xs front stand)

    -- zeros stand for null slots, or for data words
    filled : xs ++ replicate missing 0 ≡ replicate (slots - named) 0 ++ (xs ++ replicate (data_count - length front) 0)
    filled = elim (cases_lt given slots) [
      | inl lt ↦
          (let none : xs ≡ [] = nil xs (omega (arith, long, more, fewer, lt)) in
          let rest : missing ≡ slots - named + (data_count - length front) = omega (arith, sum, more, fewer, lt) in
          ap (λ l. l ++ replicate missing 0) none ∙ ap (λ n. replicate n 0) rest ∙ sym (replicate-append-replicate (slots - named) (data_count - length front) 0)
          ∙ ap (λ l. replicate (slots - named) 0 ++ (l ++ replicate (data_count - length front) 0)) (sym none))
      | inr ge ↦
          (let none : slots - named ≡ 0 = omega (arith, fewer, ge) in
          let rest : missing ≡ data_count - length front = omega (arith, sum, more, fewer, ge) in
          ap (λ n. xs ++ replicate n 0) rest ∙ ap (λ n. replicate n 0 ++ (xs ++ replicate (data_count - length front) 0)) (sym none))
    ]
      where
        nil : (ys : List ℕ) → length ys ≡ 0 → ys ≡ []
        nil [] e = refl
        nil (y ∷ ys) e = absurd (omega (arith, e))

    pub are_words : AreWordsOf g ats o ((e.size * 2 ^ 32 + e.slots) ∷ (map (word_for g ats) targets ++ (xs ++ replicate missing 0)))
    are_words = record {
      values = xs ++ replicate (data_count - length front) 0;
      stand = subst (AllZip StandsFor (xs ++ replicate (data_count - length front) 0)) same.1
          (zip_append StandsFor xs (replicate (data_count - length front) 0) front zeros stand (zip_replicate StandsFor (data_count - length front) 0 (codes "0") zero_stands));
      whole =
          (λ i. (is.size i * 2 ^ 32 + is.slots i) ∷ (map (word_for g ats) targets ++ filled i))
          ∙ ap (λ l. (size_of o * 2 ^ 32 + length o.slots) ∷ l)
          (sym (append_assoc (map (word_for g ats) targets) (replicate (slots - named) 0) (xs ++ replicate (data_count - length front) 0)) ∙ ap (λ l. l ++ (xs ++ replicate (data_count - length front) 0)) (sym words_are));
    }
