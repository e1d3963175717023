-- Words without a mark are no values and no places, and a text without a mark has none.
use Rattle.std.proofs.Common.{◌≡◌, ◌≢◌, ℕ, zero, suc, ◌+◌, ◌<◌, ◌≤◌, Bool, true, false, cond, ◌&&◌, ◌||◌, List, [], ◌∷◌, ◌++◌, map, filter, length, get_or, take, drop, if◌then◌else◌, refl, sym, ◌∙◌, ap, subst, eqb, Bor, arith}
use Rattle.std.specs.Prelude.{Option, Some, None, MatchOption, flat_map, bytes_eq, is_some, codes}
use Rattle.std.specs.List.{slice_split, onto_first, list_any, list_all}
use Rattle.std.specs.Str.{is_utf8, NoCharPasses}
use Rattle.std.specs.Str.Pattern.{RFindsChar}
use Rattle.std.specs.Char.{is_ascii_whitespace}
use Rattle.std.proofs.lemmas.Bool.{false≢true, false_from_ne_true, ne_eqb, eqb-true, or_parts}
use Rattle.std.proofs.lemmas.List.{get_or_default, take-append-drop}
use Rattle.std.proofs.lemmas.List.Folds.{list_any_none, list_any_at, list_any-append}
use Rattle.std.proofs.lemmas.Str.Pattern.{NoCharPasses-char, drop_at_char}
use Rattle.memchr.specs.Find.{IsFirstByte, is_byte2}
use Rattle.g1_text.specs.Reading.{has_byte, words_in, parts_of}
use Rattle.g1_text.specs.Boxes.{behind_weak, targets, slots_in, slot_words, slot_words_of, names_in, is_among, is_numeral, is_value, value_line, cut_behind, cut_at_plus, with_digits, place_of_word, place_line_in, box_line, box_lines, with_lines, ended, boxed_text}
use Rattle.g1_text.specs.Marked.{is_mark, is_marked, with_all, with_marked}
use Rattle.g1_text.proofs.Boxing.{same_lines}

-- a search finds whether there is one
pub mark_found : (bytes : List ℕ) (r : Option ℕ) → IsFirstByte (is_byte2 61 43) bytes r → is_some r ≡ is_marked bytes
mark_found bytes None none = sym (list_any_none is_mark bytes
    (λ k d lt. false_from_ne_true (is_mark (get_or bytes k d)) (λ e. none k (omega arith) lt (ap is_mark (get_or_default bytes k 0 d lt) ∙ e))))
mark_found bytes (Some k) h = sym (list_any_at is_mark bytes k 0 h.0.high h.1)

-- A WORD WITHOUT A MARK

no_cut : (w : List ℕ) → is_marked w ≡ false → cut_at_plus w ≡ None
no_cut [] h = refl
no_cut (b ∷ bytes) h =
    let s = or_parts (is_mark b) (is_marked bytes) h in
    ap (cut_behind b bytes) (no_cut bytes s.1) ∙ ap (λ c. if c then Some ([], bytes) else None) (or_parts (eqb b 61) (eqb b 43) s.0).1

no_value : (w : List ℕ) → is_marked w ≡ false → is_value w ≡ false
no_value [] h = refl
no_value (b ∷ bytes) h = ap (λ c. c && has_byte bytes) (or_parts (eqb b 61) (eqb b 43) (or_parts (is_mark b) (is_marked bytes) h).0).0

either_none : (b : Bool) → ◌≡◌ {A = List ℕ} (if b then [] else []) []
either_none true = refl
either_none false = refl

pub unmarked : (names : List (List ℕ)) (w : List ℕ) → is_marked w ≡ false → box_line names w ≡ []
unmarked names w h =
    let value = no_value w h in
    let cut = no_cut w h in
    (λ i. if is_among names w then [] else if value i then value_line w else place_line_in names w (with_digits (cut i))) ∙ either_none (is_among names w)

-- A TEXT WITHOUT A MARK

split_plain : (p : ℕ → Bool) (xs : List ℕ) → is_marked xs ≡ false → list_any is_marked (slice_split p xs) ≡ false
split_plain p [] h = refl
split_plain p (x ∷ xs) h = by (p x) (split_plain p xs (or_parts (is_mark x) (is_marked xs) h).1)
  where
    first : is_mark x ≡ false
    first = (or_parts (is_mark x) (is_marked xs) h).0

    onto : (parts : List (List ℕ)) → list_any is_marked parts ≡ false → list_any is_marked (onto_first x parts) ≡ false
    onto [] e = ap (λ c. (c || false) || false) first
    onto (q ∷ qs) e =
        let s = or_parts (is_marked q) (list_any is_marked qs) e in
        λ i. (first i || s.0 i) || s.1 i

    by : (b : Bool) → list_any is_marked (slice_split p xs) ≡ false
        → list_any is_marked (cond b ([] ∷ slice_split p xs) (onto_first x (slice_split p xs))) ≡ false
    by true rest = rest
    by false rest = onto (slice_split p xs) rest

filter_plain : (p : List ℕ → Bool) (ws : List (List ℕ)) → list_any is_marked ws ≡ false → list_any is_marked (filter p ws) ≡ false
filter_plain p [] h = refl
filter_plain p (w ∷ ws) h = by (p w) (filter_plain p ws (or_parts (is_marked w) (list_any is_marked ws) h).1)
  where
    by : (b : Bool) → list_any is_marked (filter p ws) ≡ false → list_any is_marked (cond b (w ∷ filter p ws) (filter p ws)) ≡ false
    by true rest = let s = or_parts (is_marked w) (list_any is_marked ws) h in λ i. s.0 i || rest i
    by false rest = rest

weak_plain : (ws : List (List ℕ)) → list_any is_marked ws ≡ false → list_any is_marked (behind_weak ws) ≡ false
weak_plain [] h = refl
weak_plain (w ∷ ws) h = by (bytes_eq w (codes "weak"))
  where
    by : (b : Bool) → list_any is_marked (if b then ws else w ∷ ws) ≡ false
    by true = (or_parts (is_marked w) (list_any is_marked ws) h).1
    by false = h

targets_plain : (n : ℕ) (ws : List (List ℕ)) → list_any is_marked ws ≡ false → list_any is_marked (targets n ws) ≡ false
targets_plain zero ws h = refl
targets_plain (suc n) ws h = by (behind_weak ws) (targets_plain n) (weak_plain ws h)
  where
    by : (vs : List (List ℕ)) → ((us : List (List ℕ)) → list_any is_marked us ≡ false → list_any is_marked (targets n us) ≡ false)
        → list_any is_marked vs ≡ false → list_any is_marked (take 1 vs ++ targets n (drop 1 vs)) ≡ false
    by [] later e = later [] refl
    by (v ∷ vs) later e = let s = or_parts (is_marked v) (list_any is_marked vs) e in let rest = later vs s.1 in λ i. s.0 i || rest i

slots_plain : (ws : List (List ℕ)) → list_any is_marked ws ≡ false → list_any is_marked (slot_words ws) ≡ false
slots_plain [] h = refl
slots_plain (size ∷ content) h = targets_plain (slots_in size) content (or_parts (is_marked size) (list_any is_marked content) h).1

words_plain : (ws : List (List ℕ)) → list_any is_marked ws ≡ false → list_any is_marked (slot_words_of ws) ≡ false
words_plain [] h = refl
words_plain (first ∷ []) h = refl
words_plain (first ∷ name ∷ ws) h = by (bytes_eq first (codes "object")) (bytes_eq first (codes "root"))
  where
    behind : list_any is_marked (name ∷ ws) ≡ false
    behind = (or_parts (is_marked first) (list_any is_marked (name ∷ ws)) h).1

    by : (a b : Bool) → list_any is_marked (if a then slot_words ws else if b then name ∷ [] else []) ≡ false
    by true b = slots_plain ws (or_parts (is_marked name) (list_any is_marked ws) behind).1
    by false true = ap (λ c. c || false) (or_parts (is_marked name) (list_any is_marked ws) behind).0
    by false false = refl

lines_plain : (parts : List (List ℕ)) → list_any is_marked parts ≡ false → list_any is_marked (flat_map slot_words_of (map words_in parts)) ≡ false
lines_plain [] h = refl
lines_plain (part ∷ parts) h =
    let s = or_parts (is_marked part) (list_any is_marked parts) h in
    let first = words_plain (words_in part) (filter_plain has_byte (slice_split is_ascii_whitespace part) (split_plain is_ascii_whitespace part s.0)) in
    let rest = lines_plain parts s.1 in
    list_any-append is_marked (slot_words_of (words_in part)) (flat_map slot_words_of (map words_in parts)) ∙ (λ i. first i || rest i)

none_marked : (ws : List (List ℕ)) → list_any is_marked ws ≡ false → filter is_marked ws ≡ []
none_marked [] h = refl
none_marked (w ∷ ws) h =
    let s = or_parts (is_marked w) (list_any is_marked ws) h in
    let rest = none_marked ws s.1 in
    λ i. cond (s.0 i) (w ∷ rest i) (rest i)

no_lines : (text : List ℕ) → is_marked text ≡ false → box_lines (map words_in (parts_of text)) ≡ []
no_lines text h =
    let ns = flat_map names_in (map words_in (parts_of text)) in
    let ws = flat_map slot_words_of (map words_in (parts_of text)) in
    let none = none_marked ws (lines_plain (parts_of text) (split_plain (λ b. eqb b 10) text h)) in
    sym (same_lines (with_all [] ns) [] ns ws (unmarked ns) refl (ap (with_all []) (sym none)))

either_same : (b : Bool) (text : List ℕ) → (if b then text else text) ≡ text
either_same true text = refl
either_same false text = refl

pub no_boxes : (text : List ℕ) → is_marked text ≡ false → boxed_text text ≡ text
no_boxes text h = ap (λ l. if list_all is_utf8 (parts_of text) then with_lines text l else text) (no_lines text h)
    ∙ either_same (list_all is_utf8 (parts_of text)) text

-- A PLACE IS CUT AT ITS LAST PLUS

no_plus : (ys : List ℕ) → ((k : ℕ) → k < length ys → get_or ys k 0 ≢ 43) → cut_at_plus ys ≡ None
no_plus [] none = refl
no_plus (y ∷ ys) none =
    ap (cut_behind y ys) (no_plus ys (λ k lt. none (suc k) (omega (arith, lt))))
    ∙ ap (λ c. if c then Some ([], ys) else None) (ne_eqb y 43 (none 0 (omega arith)))

last_plus : (xs ys : List ℕ) → ((k : ℕ) → k < length ys → get_or ys k 0 ≢ 43) → cut_at_plus (xs ++ 43 ∷ ys) ≡ Some (xs, ys)
last_plus [] ys none = ap (cut_behind 43 ys) (no_plus ys none)
last_plus (x ∷ xs) ys none = ap (cut_behind x (xs ++ 43 ∷ ys)) (last_plus xs ys none)

-- the clause of `rsplit_once` at a character
abbrev pub IsLastSplit : ℕ → List ℕ → Option (Bor (List ℕ) × Bor (List ℕ)) → Type 0
IsLastSplit c bs r = MatchOption r (RFindsChar c bs None)
    (λ x. (i : ℕ) × (j : ℕ) × RFindsChar c bs (Some (i, j)) × (x.0.now ≡ take i bs) × (x.1.now ≡ drop j bs)
    × (i ≤ j) × (length x.0.now ≡ i) × (length x.1.now + j ≡ length bs))

pub cut_last : (bs : List ℕ) (r : Option (Bor (List ℕ) × Bor (List ℕ))) → IsLastSplit 43 bs r
    → MatchOption r (cut_at_plus bs ≡ None) (λ x. cut_at_plus bs ≡ Some (x.0.now, x.1.now))
cut_last bs None h = no_plus bs (λ k lt. NoCharPasses-char 43 bs k h (omega arith) lt)
cut_last bs (Some x) h =
    let whole : bs ≡ x.0.now ++ 43 ∷ x.1.now = sym (take-append-drop h.0 bs)
    ∙ (λ i. sym h.3 i ++ (drop_at_char 43 bs h.0 h.1 h.2.1 (omega arith) ∙ ap (λ l. 43 ∷ l) (sym h.4)) i) in
    ap cut_at_plus whole ∙ last_plus x.0.now x.1.now
    (λ k lt. NoCharPasses-char 43 x.1.now k (subst (NoCharPasses (λ d. eqb d 43)) (sym h.4) h.2.0) (omega arith) lt)

-- a cut that is no place
pub no_place : (w name distance : List ℕ) → cut_at_plus w ≡ Some (name, distance) → (has_byte name && is_numeral distance) ≡ false → place_of_word w ≡ None
no_place w name distance cut e = ap with_digits cut ∙ ap (λ b. if b then Some (name, distance) else None) e

pub is_place : (w name distance : List ℕ) → cut_at_plus w ≡ Some (name, distance) → has_byte name ≡ true → is_numeral distance ≡ true
    → place_of_word w ≡ Some (name, distance)
is_place w name distance cut n d = ap with_digits cut ∙ (λ i. if n i && d i then Some (name, distance) else None)

pub named : (name : List ℕ) → eqb (length name) 0 ≡ false → has_byte name ≡ true
named [] e = absurd (false≢true (sym e))
named (b ∷ bs) e = refl

pub nameless : (name : List ℕ) → eqb (length name) 0 ≡ true → has_byte name ≡ false
nameless [] e = refl
nameless (b ∷ bs) e = let none = eqb-true (length (b ∷ bs)) 0 e in absurd (omega (arith, none))

-- THE WHOLE TEXT

pub boxed_with : (text : List ℕ) (names words : List (List ℕ)) (lines : List ℕ) → list_all is_utf8 (parts_of text) ≡ true
    → names ≡ with_all [] (flat_map names_in (map words_in (parts_of text))) → words ≡ with_marked [] (flat_map slot_words_of (map words_in (parts_of text)))
    → lines ≡ flat_map (box_line names) words → boxed_text text ≡ with_lines text lines
boxed_with text names words lines utf8 n w is =
    let ns = flat_map names_in (map words_in (parts_of text)) in
    let ws = flat_map slot_words_of (map words_in (parts_of text)) in
    let same = is ∙ same_lines names words ns ws (unmarked ns) n w in
    λ i. if utf8 i then with_lines text (sym same i) else text

pub with_none : (text lines : List ℕ) → eqb (length lines) 0 ≡ true → with_lines text lines ≡ text
with_none text [] e = refl
with_none text (b ∷ lines) e = let none = eqb-true (length (b ∷ lines)) 0 e in absurd (omega (arith, none))

pub with_some : (text lines : List ℕ) → eqb (length lines) 0 ≡ false → with_lines text lines ≡ ended text ++ lines
with_some text [] e = absurd (false≢true (sym e))
with_some text (b ∷ lines) e = refl
