-- The words of an object: all of them, or the first ones and two dots.
use Rattle.std.proofs.Common.{◌≡◌, ◌≢◌, ◌⊎◌, inl, inr, ℕ, zero, suc, ◌+◌, ◌-◌, ◌<◌, ◌≤◌, ◌^◌, List, [], ◌∷◌, ◌++◌, min, length, length-append, take, drop, replicate, append_assoc, All, refl, sym, ◌∙◌, ap, subst, arith}
use Rattle.std.specs.Prelude.{Option, Some, None, codes}
use Rattle.std.specs.List.{AllZip}
use Rattle.std.proofs.lemmas.List.{length-take, take_all}
use Rattle.std.proofs.lemmas.List.Elements.{All-nil, All-cons, All-append}
use Rattle.std.proofs.lemmas.Slice.Zip.{AllZip-long}
use Rattle.g1_text.specs.Forms.{Spells, Denotes, StandsFor}
use Rattle.g1_text.specs.Short.{abridged, IsZeroFrom}
use Rattle.g1_text.proofs.Ends.{one_end}
use Rattle.g1_text.proofs.OneGraph.{data_no_dots, not_last, take_both}
use Rattle.g1_text.proofs.NamedWords.{stand_data}

-- a number of first elements that is cut to how many there are
first_min : {A : Type 0} (n g : ℕ) (xs : List A) → g ≡ min n (length xs) → take g xs ≡ take n xs
first_min zero g xs e = let z : g ≡ 0 = omega (arith, e) in ap (λ k. take k xs) z
first_min (suc n) zero [] e = refl
first_min (suc n) (suc g) [] e = refl
first_min (suc n) zero (x ∷ xs) e = absurd (omega (arith, e))
first_min (suc n) (suc g) (x ∷ xs) e = ap (λ ys. x ∷ ys) (first_min n g xs (omega (arith, e)))

zeros_min : (n g : ℕ) (xs : List ℕ) → g ≡ min n (length xs) → All (λ x. x ≡ 0) (drop n xs) → All (λ x. x ≡ 0) (drop g xs)
zeros_min zero g xs e all = let z : 0 ≡ g = omega (arith, e) in subst (λ k. All (λ x. x ≡ 0) (drop k xs)) z all
zeros_min (suc n) zero [] e all = λ k d lt. absurd (omega (arith, lt))
zeros_min (suc n) (suc g) [] e all = λ k d lt. absurd (omega (arith, lt))
zeros_min (suc n) zero (x ∷ xs) e all = absurd (omega (arith, e))
zeros_min (suc n) (suc g) (x ∷ xs) e all = zeros_min n g xs (omega (arith, e)) all

none_behind : (n : ℕ) (xs : List ℕ) → length xs ≤ n → All (λ x. x ≡ 0) (drop n xs)
none_behind zero [] le = λ k d lt. absurd (omega (arith, lt))
none_behind (suc n) [] le = λ k d lt. absurd (omega (arith, lt))
none_behind zero (x ∷ xs) le = absurd (omega (arith, le))
none_behind (suc n) (x ∷ xs) le = none_behind n xs (omega (arith, le))

-- the words from a place on are 0
zeros_behind : (n : ℕ) (xs : List ℕ) → All (λ x. x ≡ 0) (drop n xs) → xs ≡ take n xs ++ replicate (length xs - n) 0
zeros_behind zero [] all = refl
zeros_behind (suc n) [] all = let none : 0 ≡ 0 - suc n = omega arith in ap (λ k. replicate k 0) none
zeros_behind zero (x ∷ xs) all =
    let first : x ≡ 0 = all 0 0 (omega arith) in
    let rest = zeros_behind zero xs (λ k d lt. all (suc k) d (omega (arith, lt))) in
    let count : suc (length xs - 0) ≡ length (x ∷ xs) - 0 = omega arith in
    (λ i. first i ∷ rest i) ∙ ap (λ k. replicate k 0) count
zeros_behind (suc n) (x ∷ xs) all =
    let step : length xs - n ≡ length (x ∷ xs) - suc n = omega arith in
    ap (λ ys. x ∷ ys) (zeros_behind n xs all) ∙ ap (λ k. x ∷ (take n xs ++ replicate k 0)) step

-- what a line has of an object's words, and what the two dots stand for
pub filled_up : (old refs values : List ℕ) (n missing : ℕ) → All (λ x. x ≡ 0) (drop n (refs ++ values)) → missing ≡ length refs + length values - n
    → ((old ++ take n refs) ++ take (n - length refs) values) ++ replicate missing 0 ≡ old ++ (refs ++ values)
filled_up old refs values n missing zeros count =
    let both = length-append refs values in
    let left : missing ≡ length (refs ++ values) - n = omega (arith, both, count) in
    ap (λ k. ((old ++ take n refs) ++ take (n - length refs) values) ++ replicate k 0) left
    ∙ ap (λ xs. xs ++ replicate (length (refs ++ values) - n) 0) (append_assoc old (take n refs) (take (n - length refs) values) ∙ ap (λ xs. old ++ xs) (sym (take_both n refs values)))
    ∙ append_assoc old (take n (refs ++ values)) (replicate (length (refs ++ values) - n) 0) ∙ ap (λ xs. old ++ xs) (sym (zeros_behind n (refs ++ values) zeros))

-- THE WORDS THAT A LINE HAS: the first ones of all, and the others are 0
pub record Has (refs values : List ℕ) (references data_words words new : List (List ℕ)) : Type 0 where
  pub first : new ≡ take (length new) references ++ take (length new - length refs) data_words
  pub fewer : length new ≤ length refs + length values
  pub zeros : All (λ x. x ≡ 0) (drop (length new) (refs ++ values))
  pub whole : (words ≡ new) → length new ≡ length refs + length values

-- no word of an object is two dots
dots_denote : (x : ℕ) (word : List ℕ) → Denotes x word → word ≢ codes ".."
dots_denote zero word p e = let l : 1 ≡ 2 = ap length (sym p ∙ e) in absurd (omega (arith, l))
dots_denote (suc a) word p e = let d = (subst (λ w. Spells (2 ^ 64 - 1) a w) e p).0.1.0 in absurd (omega (arith, d))

references_no_dots : (refs : List ℕ) (references : List (List ℕ)) → AllZip Denotes refs references → All (λ w. w ≢ codes "..") references
references_no_dots [] [] all = All-nil (λ w. w ≢ codes "..")
references_no_dots [] (w ∷ ws) all = elim all [ ]
references_no_dots (x ∷ xs) [] all = elim all [ ]
references_no_dots (x ∷ xs) (w ∷ ws) all = All-cons (λ w. w ≢ codes "..") w ws (dots_denote x w all.0) (references_no_dots xs ws all.1)

pub zip_take : {A B : Type 0} (R : A → B → Type 0) (n : ℕ) (xs : List A) (ys : List B) → AllZip R xs ys → AllZip R (take n xs) (take n ys)
zip_take R zero [] [] all = tt
zip_take R (suc n) [] [] all = tt
zip_take R n [] (y ∷ ys) all = elim all [ ]
zip_take R n (x ∷ xs) [] all = elim all [ ]
zip_take R zero (x ∷ xs) (y ∷ ys) all = tt
zip_take R (suc n) (x ∷ xs) (y ∷ ys) all = (all.0, zip_take R n xs ys all.1)

module _ (refs values : List ℕ) (references data_words words new : List (List ℕ)) (denote : AllZip Denotes refs references) (stand : AllZip StandsFor values data_words) where
  abbrev all_words : List (List ℕ)
  all_words = references ++ data_words

  count_all : length all_words ≡ length refs + length values
  count_all =
      let both = length-append references data_words in
      let a = AllZip-long Denotes refs references denote in
      let b = AllZip-long StandsFor values data_words stand in
      omega (arith, both, a, b)

  no_dots : All (λ w. w ≢ codes "..") all_words
  no_dots = All-append (λ w. w ≢ codes "..") references data_words (references_no_dots refs references denote) (data_no_dots data_words (stand_data values data_words stand))

  parts : (n : ℕ) → take n all_words ≡ take n references ++ take (n - length refs) data_words
  parts n = let a = AllZip-long Denotes refs references denote in let same : n - length references ≡ n - length refs = omega (arith, a) in take_both n references data_words ∙ ap (λ k. take n references ++ take k data_words) same

  longer : (xs : List (List ℕ)) (x : List ℕ) → xs ≡ xs ++ x ∷ [] → ⊥
  longer xs x e = let l = ap length e in let more = length-append xs (x ∷ []) in absurd (omega (arith, l, more))

  taken : (n : ℕ) → new ≡ take n all_words → All (λ x. x ≡ 0) (drop n (refs ++ values)) → (words ≡ new → length new ≡ length refs + length values) → Has refs values references data_words words new
  taken n e zeros whole =
      let count = ap length e ∙ length-take n all_words in
      let both = length-append refs values in record {
        first = e ∙ sym (first_min n (length new) all_words count) ∙ parts (length new);
        fewer = omega (arith, count, count_all);
        zeros = zeros_min n (length new) (refs ++ values) (omega (arith, count, count_all, both)) zeros;
        whole = whole;
      }

  full : new ≡ all_words → Has refs values references data_words words new
  full e =
      let count = ap length e in
      let both = length-append refs values in
      let long : length new ≡ length refs + length values = omega (arith, count, count_all) in record {
        first = e ∙ sym (take_all (length new) all_words (omega (arith, count))) ∙ parts (length new);
        fewer = omega (arith, long);
        zeros = none_behind (length new) (refs ++ values) (omega (arith, both, long));
        whole = (λ same. long);
      }

  pub has_words : (given : Option ℕ) → IsZeroFrom given (refs ++ values) → words ≡ abridged all_words given
      → (words ≡ new ++ codes ".." ∷ []) ⊎ ((words ≡ new) × ((front : List (List ℕ)) → words ≢ front ++ codes ".." ∷ [])) → Has refs values references data_words words new
  has_words None naught e (inl f) = absurd (not_last new (subst (All (λ w. w ≢ codes "..")) (sym e ∙ f) no_dots))
  has_words None naught e (inr f) = full (sym f.0 ∙ e)
  has_words (Some n) naught e (inl f) = taken n (one_end new (take n all_words) (codes "..") (codes "..") (sym f ∙ e)).0 naught (λ same. absurd (longer new (codes "..") (sym same ∙ f)))
  has_words (Some n) naught e (inr f) = absurd (f.1 (take n all_words) e)

-- such words are not refused
pub not_refused : (refs values : List ℕ) (references data_words words new : List (List ℕ)) (slots count : ℕ) → Has refs values references data_words words new → slots ≡ length refs → count ≡ length values
    → (slots + count < length new) ⊎ ((words ≡ new) × (length new ≢ slots + count)) → ⊥
not_refused refs values references data_words words new slots count h s d (inl more) = let few = h.fewer in absurd (omega (arith, few, s, d, more))
not_refused refs values references data_words words new slots count h s d (inr same) = let all = h.whole same.0 in same.1 (omega (arith, all, s, d))
