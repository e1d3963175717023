-- A line is cut into its words, one after the other.
use Rattle.std.proofs.Common.{◌≡◌, ℕ, zero, suc, ◌+◌, ◌-◌, ◌<◌, ◌≤◌, Bool, not, true, false, List, [], ◌∷◌, ◌++◌, length, get_or, take, drop, drop_of_length-le, refl, sym, ◌∙◌, ap, subst, arith, append-nil, ◌⊎◌, inl, inr, Bor, map, append_assoc}
use Rattle.std.specs.Char.{is_ascii_whitespace}
use Rattle.std.specs.List.{prefix_len, AllPass}
use Rattle.std.specs.Str.{IsUtf8, IsCharBoundary}
use Rattle.std.proofs.lemmas.Bool.{cases_lt, false≢true, not-false, not-true}
use Rattle.std.proofs.lemmas.Bool.Decides.{nat_tests}
use Rattle.std.proofs.lemmas.List.{get_or_default, get_or-take, get_or-drop, length-take-le, length-drop, take-append-drop, drop_more, drop-drop}
use Rattle.std.proofs.lemmas.List.Sums.{prefix_len_passes, prefix_len_stops}
use Rattle.std.proofs.lemmas.Str.{IsCharBoundary-before_ascii, IsCharBoundary-after_ascii, IsCharBoundary-end}
use Rattle.g1_text.specs.Reading.{words_in}
use Rattle.g1_text.proofs.Lanes.{run_bound}
use Rattle.g1_text.proofs.White.{NoWhite, white_gap, word_first, word_alone}

-- the bytes from a place up to another one are no white space, and that of the second place is
pub record IsWordEnd (bytes : List ℕ) (from end : ℕ) : Type 0 where
  pub low : from ≤ end
  pub high : end ≤ length bytes
  pub before : (k : ℕ) → from ≤ k → k < end → is_ascii_whitespace (get_or bytes k 0) ≡ false
  pub white : end < length bytes → is_ascii_whitespace (get_or bytes end 0) ≡ true

module _ (line : List ℕ) (from end : ℕ) (le : from ≤ length line) (e : end ≡ from + prefix_len (λ b. not (is_ascii_whitespace b)) (drop from line)) where
  abbrev rest : List ℕ
  rest = drop from line

  abbrev visible : ℕ → Bool
  visible = λ b. not (is_ascii_whitespace b)

  pub ends_word : IsWordEnd line from end
  ends_word = record {
    low = omega (arith, e);
    high = omega (arith, e, run_bound visible line from le);
    before = λ k low lt.
        let j = k - from in
        let at : from + j ≡ k = omega (arith, low) in
        let none = not-true (is_ascii_whitespace (get_or rest j 0)) (prefix_len_passes visible rest j 0 (omega (arith, e, low, lt))) in
        ap (λ i. is_ascii_whitespace (get_or line i 0)) (sym at) ∙ ap is_ascii_whitespace (sym (get_or-drop from line j 0)) ∙ none;
    white = λ lt.
        let n = prefix_len visible rest in
        let some = not-false (is_ascii_whitespace (get_or rest n 0)) (prefix_len_stops visible rest 0 (omega (arith, e, lt, length-drop from line))) in
        ap (λ i. is_ascii_whitespace (get_or line i 0)) e ∙ ap is_ascii_whitespace (sym (get_or-drop from line n 0)) ∙ some;
  }

white_is_ascii : (b : ℕ) → is_ascii_whitespace b ≡ true → b < 128
white_is_ascii b e = by (cases_lt b 128)
  where
    high : 128 ≤ b → is_ascii_whitespace b ≡ false
    high le = grind (arith, nat_tests)

    by : (b < 128) ⊎ (128 ≤ b) → b < 128
    by (inl lt) = lt
    by (inr le) = absurd (false≢true (sym (high le) ∙ e))

module _ (line : List ℕ) (from end : ℕ) (w : IsWordEnd line from end) where
  pub end_boundary : IsCharBoundary line end
  end_boundary = by (cases_lt end (length line))
    where
      by : (end < length line) ⊎ (length line ≤ end) → IsCharBoundary line end
      by (inl lt) = IsCharBoundary-before_ascii line end lt (white_is_ascii (get_or line end 0) (w.white lt))
      by (inr le) = let same : length line ≡ end = omega (arith, le, w.high) in subst (IsCharBoundary line) same (IsCharBoundary-end line)

  pub next_boundary : IsUtf8 line → end + 1 ≤ length line → IsCharBoundary line (end + 1)
  next_boundary utf8 le = IsCharBoundary-after_ascii line end utf8 (omega (arith, le)) (white_is_ascii (get_or line end 0) (w.white (omega (arith, le))))

  abbrev word : List ℕ
  word = take (end - from) (drop from line)

  size : length word ≡ end - from
  size = length-take-le (end - from) (drop from line) (omega (arith, length-drop from line, w.low, w.high))

  none : NoWhite word
  none k d lt =
      let small : k < end - from = omega (arith, size, lt) in
      let same : get_or word k d ≡ get_or line (from + k) 0 =
      get_or-take (end - from) (drop from line) k d small ∙ get_or-drop from line k d ∙ get_or_default line (from + k) d 0 (omega (arith, small, w.low, w.high)) in
      ap is_ascii_whitespace same ∙ w.before (from + k) (omega arith) (omega (arith, small))

  whole : drop from line ≡ word ++ drop end line
  whole =
      let sum : from + (end - from) ≡ end = omega (arith, w.low) in
      sym (take-append-drop (end - from) (drop from line)) ∙ ap (λ r. word ++ r) (drop-drop (end - from) from line ∙ ap (λ k. drop k line) sum)

  -- a word, and the words behind it
  pub cut_word : from < end → words_in (drop from line) ≡ word ∷ words_in (drop (end + 1) line)
  cut_word some = by (cases_lt end (length line))
    where
      by : (end < length line) ⊎ (length line ≤ end) → words_in (drop from line) ≡ word ∷ words_in (drop (end + 1) line)
      by (inl lt) = ap words_in (whole ∙ ap (λ r. word ++ r) (drop_more line end 0 lt)) ∙ word_first word (get_or line end 0) (drop (end + 1) line) (omega (arith, size, some)) none (w.white lt)
      by (inr le) =
          ap words_in (whole ∙ ap (λ r. word ++ r) (drop_of_length-le line le) ∙ append-nil word) ∙ word_alone word (omega (arith, size, some)) none
          ∙ ap (λ r. word ∷ words_in r) (sym (drop_of_length-le line {i = end + 1} (omega (arith, le))))

  one : is_ascii_whitespace (get_or line end 0) ≡ true → AllPass is_ascii_whitespace (get_or line end 0 ∷ [])
  one e zero d lt = e
  one e (suc k) d lt = absurd (omega (arith, lt))

  -- no word, but white space
  pub no_word : end ≤ from → from < length line → words_in (drop from line) ≡ words_in (drop (end + 1) line)
  no_word le lt =
      let same : from ≡ end = omega (arith, le, w.low) in
      let some : end < length line = omega (arith, same, lt) in
      ap (λ k. words_in (drop k line)) same ∙ ap words_in (drop_more line end 0 some) ∙ white_gap (get_or line end 0 ∷ []) (drop (end + 1) line) (one (w.white some))

-- where a word ends of which the end was looked for in the line's bytes
pub found : (line bytes : List ℕ) (from end : ℕ) → bytes ≡ line → from < length bytes → end ≡ from + prefix_len (λ b. not (is_ascii_whitespace b)) (drop from bytes) → IsWordEnd line from end
found line bytes from end same lt e =
    ends_word line from end (omega (arith, lt, ap length same)) (e ∙ ap (λ bs. from + prefix_len (λ b. not (is_ascii_whitespace b)) (drop from bs)) same)

texts_more : (ws : List (Bor (List ℕ))) (w : Bor (List ℕ)) → map (λ t. t.now) (ws ++ w ∷ []) ≡ map (λ t. t.now) ws ++ w.now ∷ []
texts_more [] w = refl
texts_more (v ∷ vs) w = ap (λ r. v.now ∷ r) (texts_more vs w)

-- the words so far with those of the rest of the line: a word more, and none
module _ (line : List ℕ) (from end : ℕ) (w : IsWordEnd line from end) (words : List (Bor (List ℕ))) (so_far : map (λ t. t.now) words ++ words_in (drop from line) ≡ words_in line) where
  pub word_more : (new : List (Bor (List ℕ))) (word : Bor (List ℕ)) → from < end → word.now ≡ take (end - from) (drop from line) → new ≡ words ++ word ∷ []
      → map (λ t. t.now) new ++ words_in (drop (end + 1) line) ≡ words_in line
  word_more new word some is e =
      let rest = words_in (drop (end + 1) line) in
      ap (λ ts. ts ++ rest) (ap (map (λ t. t.now)) e ∙ texts_more words word) ∙ append_assoc (map (λ t. t.now) words) (word.now ∷ []) rest
      ∙ ap (λ t. map (λ u. u.now) words ++ t ∷ rest) is ∙ ap (λ r. map (λ t. t.now) words ++ r) (sym (cut_word line from end w some)) ∙ so_far

  pub word_less : (new : List (Bor (List ℕ))) → end ≤ from → from < length line → new ≡ words → map (λ t. t.now) new ++ words_in (drop (end + 1) line) ≡ words_in line
  word_less new le lt e =
      ap (λ ts. map (λ t. t.now) ts ++ words_in (drop (end + 1) line)) e ∙ ap (λ r. map (λ t. t.now) words ++ r) (sym (no_word line from end w le lt)) ∙ so_far
