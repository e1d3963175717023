-- Laid words reach over the used words of their regions.
use Rattle.std.proofs.Common.{◌≡◌, ◌≤◌, ◌<◌, ℕ, zero, suc, ◌+◌, ◌-◌, ◌*◌, Bool, List, [], ◌∷◌, Option, ◌++◌, length, take, drop, map, slice_index_or, arith, refl, sym, ap, ◌∙◌, length-take-le, slice_range, min, inl, inr, take-take}
use Rattle.std.proofs.lemmas.List.{take_all, drop_all}
use Rattle.std.proofs.lemmas.Bool.{cases_lt}
use Rattle.g1_words.specs.Heap.{free_region}
use Rattle.g1_words.specs.Words.{AreLaid}
use Rattle.g1_words.specs.declared.region.Region.{Region}
use Rattle.g1_image.specs.Text.{Entry}
use Rattle.g1_image.specs.Image.{region_of_entry, used_words}
use Rattle.g1_image.proofs.Drafts.{length-laid}
use Rattle.g1_image.proofs.Laid.{Laid}

pub laid_length : (m n : Bool) (a b : Option (List ℕ)) (w : ℕ) (table : List Entry) (i : ℕ) (out : List ℕ) → Laid m n a b w table i out → i ≤ length table → length out ≡ i * w
laid_length m n a b w table i out l le =
    ap length l.words ∙ length-laid w (take i table) l.taken ∙ ap (λ k. k * w) (length-take-le i table le)

pub entry_there : (table : List Entry) (r : ℕ) → r < length table →
    slice_index_or (map region_of_entry table) r free_region ≡ region_of_entry (slice_index_or table r (record { kind = 0; top = 0; flags = 0 }))
entry_there [] r lt = absurd (omega arith)
entry_there (e ∷ table) zero lt = refl
entry_there (e ∷ table) (suc r) lt = entry_there table r (omega arith)

drop_take : (w n : ℕ) (xs : List ℕ) → drop w (take n xs) ≡ take (n - w) (drop w xs)
drop_take zero n xs = let e : n ≡ n - 0 = omega arith in ap (λ k. take k xs) e
drop_take (suc w) zero xs = let e : 0 ≡ 0 - suc w = omega arith in ap (λ k. take k (drop (suc w) xs)) e
drop_take (suc w) (suc n) [] = sym (take_all (suc n - suc w) [] (omega arith))
drop_take (suc w) (suc n) (x ∷ xs) = drop_take w n xs ∙ (let e : n - w ≡ suc n - suc w = omega arith in ap (λ k. take k (drop w xs)) e)

-- the first region is laid
pub top_laid : (w : ℕ) (q : Region) (qs : List Region) (n : ℕ) → AreLaid w (q ∷ qs) n → q.top ≤ w → q.top ≤ n
top_laid w q qs n are le = go q.top refl
  where
    go : (t : ℕ) → q.top ≡ t → q.top ≤ n
    go zero e = omega (arith, e)
    go (suc t) e = let last : 0 * w + t < n = are 0 t (omega arith) (omega (arith, e, le)) (omega (arith, e)) in omega (arith, e, last)

-- and so are those behind it
pub rest_laid : (w : ℕ) (q : Region) (qs : List Region) (n : ℕ) → AreLaid w (q ∷ qs) n → AreLaid w qs (n - w)
rest_laid w q qs n are r i lt small few =
    let there : suc r * w + i < n = are (suc r) i (omega (arith, lt)) small few in
    let sum : suc r * w ≡ w + r * w = omega arith in
    omega (arith, there, sum)

-- the used words are among the laid ones
pub used_laid : (w : ℕ) (qs : List Region) (n : ℕ) (words : List ℕ) → AreLaid w qs n → ((r : ℕ) → r < length qs → (slice_index_or qs r free_region).top ≤ w) →
    used_words w qs (take n words) ≡ used_words w qs words
used_laid w [] n words are tops = refl
used_laid w (q ∷ qs) n words are tops =
    let own = take-take q.top n words (top_laid w q qs n are (tops 0 (omega arith))) in
    let others : used_words w qs (drop w (take n words)) ≡ used_words w qs (drop w words) =
    ap (used_words w qs) (drop_take w n words) ∙ used_laid w qs (n - w) (drop w words) (rest_laid w q qs n are) (λ r lt. tops (suc r) (omega (arith, lt))) in
    λ t. own t ++ others t

-- a part of at most so many, of a list that may have fewer
pub take_least : (m w : ℕ) (xs : List ℕ) → m ≡ min (length xs) w → take m xs ≡ take w xs
take_least m w xs e = elim (cases_lt w (length xs)) [
  | inl less ↦ let same : m ≡ w = omega (arith, e, less) in ap (λ k. take k xs) same
  | inr more ↦ let all : length xs ≤ m = omega (arith, e, more) in take_all m xs all ∙ sym (take_all w xs more)
]

pub drop_least : (m w : ℕ) (xs : List ℕ) → m ≡ min (length xs) w → drop m xs ≡ drop w xs
drop_least m w xs e = elim (cases_lt w (length xs)) [
  | inl less ↦ let same : m ≡ w = omega (arith, e, less) in ap (λ k. drop k xs) same
  | inr more ↦ let all : length xs ≤ m = omega (arith, e, more) in drop_all m xs all ∙ sym (drop_all w xs more)
]

-- the used words of a region are among those that are left, once the regions before it were taken off
pub region_left : (w i left n : ℕ) (qs : List Region) → AreLaid w qs n → i < length qs → (slice_index_or qs i free_region).top ≤ w → left ≡ n - i * w → (slice_index_or qs i free_region).top ≤ left
region_left w i left n qs are lt le e = go (slice_index_or qs i free_region).top refl
  where
    go : (t : ℕ) → (slice_index_or qs i free_region).top ≡ t → (slice_index_or qs i free_region).top ≤ left
    go zero f = omega (arith, f)
    go (suc t) f = let last : i * w + t < n = are i t lt (omega (arith, f, le)) (omega (arith, f)) in omega (arith, e, last, f)

pub range_start : (n : ℕ) (xs : List ℕ) → slice_range xs 0 n ≡ take n xs
range_start n xs = let e : n - 0 ≡ n = omega arith in ap (λ k. take k xs) e
