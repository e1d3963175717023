-- The bits of the parts of a window that follow one another, joined.
use Rattle.std.proofs.Common.{◌≡◌, ◌≤◌, ◌<◌, ◌==◌, ℕ, zero, suc, ◌+◌, ◌-◌, ◌*◌, ◌/◌, ◌%◌, ◌^◌, inl, inr, Bool, true, false, cond, List, [], ◌∷◌, ◌++◌, flat_map, take, drop, length, slice_index, get_or, Contains}
use Rattle.std.proofs.Common.{refl, sym, ap, ◌∙◌, subst, arith, min, eqb, eq-eqb, ne_eqb, pow-add, true≢false, append-nil}
use Rattle.std.specs.Global.{Vec}
use Rattle.std.specs.Int.{bit_at}
use Rattle.std.specs.List.{range_with_len, AllZip}
use Rattle.std.specs.List.Sorted.{IsStrictlyIncreasing}
use Rattle.std.proofs.lemmas.Bool.{cases_lt}
use Rattle.std.proofs.lemmas.List.{get_or_append_left, get_or-append_right, length-append, same_lists, take-append-drop, take_all, drop_all, drop-drop, get_or-take, get_or-drop, get_or-append-add, length-take, length-drop, length-take-le}
use Rattle.std.proofs.lemmas.List.Kept.{AllPairs-from_increasing}
use Rattle.std.proofs.Math.Pow.{pow-lt}
use Rattle.std.proofs.lemmas.List.Elements.{All-take, All-drop, Contains-append_left, Contains-append_right, Contains-append_cases}
use native.Mathlib.Decide.{ℕ_discrete}
use Rattle.g1_words.specs.Geometry.{IsWithinBounds, most_words}
use Rattle.g1_words.specs.Heap.{Heap}
use Rattle.g1_words.specs.Lists.{has}
use Rattle.g1_words.specs.Marks.{marks_of}
use Rattle.g1_words.specs.Valid.{IsValid}
use Rattle.g1_words.proofs.Bits.{length-marks_of, mark_of}
use Rattle.g1_words.proofs.Members.{has_from_contains, Contains-from_has, Contains-later, cons_cases, none_contains}
use Rattle.g1_words.proofs.Ordered.{Ordered, Ordered-from_pairs}
use Rattle.g1_work.specs.Regions.{slice_of}
use Rattle.g1_frontier.specs.Numbers.{BeginsIn, AreStarts, AreBits}
use Rattle.g1_frontier.specs.Window.{AreRegions, place, position}
use Rattle.g1_frontier.proofs.Places.{place_below}
use Rattle.g1_frontier.proofs.Searching.{window_few}

-- ---- marks

-- the marks of words that follow one another
pub marks_append : (xs ys : List ℕ) → marks_of (64 * length (xs ++ ys)) (xs ++ ys) ≡ marks_of (64 * length xs) xs ++ marks_of (64 * length ys) ys
marks_append xs ys =
    let whole : List Bool = marks_of (64 * length (xs ++ ys)) (xs ++ ys) in
    let low : List Bool = marks_of (64 * length xs) xs in
    let high : List Bool = marks_of (64 * length ys) ys in
    let long : length (xs ++ ys) ≡ length xs + length ys = length-append xs ys in
    let wide : length whole ≡ 64 * length (xs ++ ys) = length-marks_of (64 * length (xs ++ ys)) (xs ++ ys) in
    let lows : length low ≡ 64 * length xs = length-marks_of (64 * length xs) xs in
    let highs : length high ≡ 64 * length ys = length-marks_of (64 * length ys) ys in
    let both : length (low ++ high) ≡ length low + length high = length-append low high in
    same_lists whole (low ++ high) (omega (arith, long, wide, lows, highs, both)) (λ k d lt.
    let under : k < 64 * length (xs ++ ys) = omega (arith, lt, wide) in
    mark_of (64 * length (xs ++ ys)) (xs ++ ys) k d under
    ∙ elim (cases_lt k (64 * length xs)) [
      | inl left ↦
          ap (λ x. bit_at x (k % 64) == 1) (get_or_append_left xs ys 0 (k / 64) (omega (arith, left))) ∙ sym (mark_of (64 * length xs) xs k d left)
          ∙ sym (get_or_append_left low high d k (omega (arith, left, lows)))
      | inr right ↦ (
          let j : ℕ = k - 64 * length xs in
          let word : k / 64 - length xs ≡ (k - 64 * length xs) / 64 = omega (arith, right) in
          let bit : k % 64 ≡ (k - 64 * length xs) % 64 = omega (arith, right) in
          let there : k - 64 * length xs < 64 * length ys = omega (arith, right, under, long) in
          ap (λ x. bit_at x (k % 64) == 1) (get_or-append_right xs ys (length xs) (k / 64) 0 refl (omega (arith, right)) ∙ ap (slice_index ys) word)
          ∙ ap (λ b. bit_at (slice_index ys (j / 64)) b == 1) bit ∙ sym (mark_of (64 * length ys) ys j d there)
          ∙ sym (get_or-append_right low high (64 * length xs) k d lows right))
    ])

-- ---- windows

has_first : (xs ys : List ℕ) (r : ℕ) → Contains xs r → has (xs ++ ys) r ≡ true
has_first xs ys r i = has_from_contains (xs ++ ys) r (Contains-append_left xs ys r i)

has_second : (xs ys : List ℕ) (r : ℕ) → Contains ys r → has (xs ++ ys) r ≡ true
has_second xs ys r i = has_from_contains (xs ++ ys) r (Contains-append_right xs ys r i)

-- a region of a joined window is not in both, if the regions rise
not_both : (xs ys : List ℕ) (r : ℕ) → Ordered (λ x y. x < y) (xs ++ ys) → Contains xs r → Contains ys r → ⊥
not_both [] ys r o i j = none_contains r i
not_both (x ∷ xs) ys r o (zero, b, e) j = let k = o.0 r (Contains-append_right xs ys r j) in omega (arith, k, e)
not_both (x ∷ xs) ys r o (suc k, b, e) j = not_both xs ys r o.1 (k, omega (arith, b), e) j

-- a region of the first window stands where it stood
position_first : (xs ys : List ℕ) (r : ℕ) → Contains xs r → position (xs ++ ys) r ≡ position xs r
position_first [] ys r i = absurd (omega (arith, i.1))
position_first (x ∷ xs) ys r i = elim (ℕ_discrete x r) [
  | yes e ↦ ap (λ b. cond b 0 (position (xs ++ ys) r + 1)) (eq-eqb x r e) ∙ sym (ap (λ b. cond b 0 (position xs r + 1)) (eq-eqb x r e))
  | no d ↦ elim (cons_cases x xs r i) [
    | inl e ↦ absurd (d e)
    | inr k ↦ ap (λ n. cond (eqb x r) 0 (n + 1)) (position_first xs ys r k)
  ]
]

-- one of the second stands behind the first window
position_second : (xs ys : List ℕ) (r : ℕ) → (Contains xs r → ⊥) → position (xs ++ ys) r ≡ length xs + position ys r
position_second [] ys r out = omega arith
position_second (x ∷ xs) ys r out =
    let rest = position_second xs ys r (λ k. out (Contains-later x xs r k)) in
    ap (λ b. cond b 0 (position (xs ++ ys) r + 1)) (ne_eqb x r (λ e. out (zero, omega arith, e))) ∙ omega (arith, rest)

-- ---- starts

module _ (h : Heap) (xs ys : List ℕ) (some : 0 < h.geometry.w) (rising : AreRegions h (xs ++ ys)) where
  abbrev w : ℕ
  w = h.geometry.w

  place_first : (a : ℕ) → Contains xs (a / h.geometry.w) → place h (xs ++ ys) a ≡ place h xs a
  place_first a i = ap (λ n. n * w + a % w) (position_first xs ys (a / w) i)

  place_second : (a : ℕ) → (Contains xs (a / h.geometry.w) → ⊥) → place h (xs ++ ys) a ≡ length xs * h.geometry.w + place h ys a
  place_second a out = let rows : position (xs ++ ys) (a / w) * w ≡ (length xs + position ys (a / w)) * w = ap (λ n. n * w) (position_second xs ys (a / w) out) in omega (arith, rows)

  -- those of two windows that follow one another
  pub starts_append : (s t : List Bool) → AreStarts h xs s → length s ≡ length xs * h.geometry.w → AreStarts h ys t → AreStarts h (xs ++ ys) (s ++ t)
  starts_append s t first exact second =
      let both : length (s ++ t) ≡ length s + length t = length-append s t in
      record {
        words = (let rows : length (xs ++ ys) * w ≡ (length xs + length ys) * w = ap (λ n. n * w) (length-append xs ys) in omega (arith, rows, both, exact, second.words));
        each = each_of;
        only = λ p m. elim (cases_lt p (length s)) [
          | inl left ↦ (
              let b = first.only p (sym (get_or_append_left s t false p left) ∙ m) in
              let i : Contains xs (b.0 / w) = Contains-from_has xs (b.0 / w) b.1.0 in
              (b.0, (has_first xs ys (b.0 / w) i, b.1.1), place_first b.0 i ∙ b.2))
          | inr right ↦ (
              let b = second.only (p - length s) (sym (get_or-append_right s t (length s) p false refl right) ∙ m) in
              let i : Contains ys (b.0 / w) = Contains-from_has ys (b.0 / w) b.1.0 in
              let out : Contains xs (b.0 / w) → ⊥ = λ k. not_both xs ys (b.0 / w) (Ordered-from_pairs (λ x y. x < y) (xs ++ ys) (AllPairs-from_increasing (xs ++ ys) rising.rise)) k i in
              let at : place h ys b.0 ≡ p - length s = b.2 in
              (b.0, (has_second xs ys (b.0 / w) i, b.1.1), (let e = place_second b.0 out in omega (arith, e, at, exact, right))))
        ];
      }
    where
      at_region : (a : ℕ) (b : Bool) → has xs (a / h.geometry.w) ≡ b → BeginsIn h (xs ++ ys) a → get_or (s ++ t) (place h (xs ++ ys) a) false ≡ true
      at_region a true e b =
          let i : Contains xs (a / w) = Contains-from_has xs (a / w) e in
          let low = place_below h xs some a e in
          ap (λ p. get_or (s ++ t) p false) (place_first a i) ∙ get_or_append_left s t false (place h xs a) (omega (arith, low, exact)) ∙ first.each a (e, b.1)
      at_region a false e b =
          let out : Contains xs (a / w) → ⊥ = λ k. true≢false (sym (has_from_contains xs (a / w) k) ∙ e) in
          let i : Contains ys (a / w) = elim (Contains-append_cases xs ys (a / w) (Contains-from_has (xs ++ ys) (a / w) b.0)) [ inl k ↦ absurd (out k) | inr k ↦ k ] in
          let behind : place h (xs ++ ys) a ≡ length s + place h ys a = (let e = place_second a out in omega (arith, e, exact)) in
          ap (λ p. get_or (s ++ t) p false) behind ∙ get_or-append-add s t (place h ys a) false ∙ second.each a (has_from_contains ys (a / w) i, b.1)

      each_of : (a : ℕ) → BeginsIn h (xs ++ ys) a → get_or (s ++ t) (place h (xs ++ ys) a) false ≡ true
      each_of a b = at_region a (has xs (a / h.geometry.w)) refl b

  -- the same of bits, if those of the first window fill whole words
  pub bits_append : (c : ℕ) (a b : List ℕ) → length xs * h.geometry.w ≡ 64 * c → AreBits h xs a → AreBits h ys b → AreBits h (xs ++ ys) (a ++ b)
  bits_append c a b whole first second =
      let marks : length (marks_of (64 * length a) a) ≡ 64 * length a = length-marks_of (64 * length a) a in
      let long : length a ≡ c = omega (arith, first.starts.words, first.few, whole, marks) in
      let both : length (a ++ b) ≡ length a + length b = length-append a b in
      let rows : length (xs ++ ys) * w ≡ (length xs + length ys) * w = ap (λ n. n * w) (length-append xs ys) in
      record {
        starts = subst (AreStarts h (xs ++ ys)) (sym (marks_append a b)) (starts_append (marks_of (64 * length a) a) (marks_of (64 * length b) b) first.starts (omega (arith, marks, long, whole)) second.starts);
        few = omega (arith, both, rows, long, whole, second.few);
      }

-- the bits of no region are none
no_bits : (h : Heap) (window bits : List ℕ) → window ≡ [] → AreBits h window bits → bits ≡ []
no_bits h window [] e b = refl
no_bits h window (x ∷ bits) e b = let z : length window * h.geometry.w ≡ 0 * h.geometry.w = ap (λ l. length l * h.geometry.w) e in absurd (omega (arith, b.few, z))

-- the bits of a window are no more than a heap may have words
pub bits_few : (h : Heap) → IsValid h → (window bits : List ℕ) → AreRegions h window → AreBits h window bits → 64 * length bits ≤ most_words
bits_few h valid window bits rising b = let few = window_few h valid window rising in omega (arith, few, b.few)

-- of no region there are none
nothing : (h : Heap) → AreBits h [] []
nothing h = record {
  starts = record { words = omega arith; each = λ a b. absurd (true≢false (sym b.0)); only = λ p e. absurd (true≢false (sym e)) };
  few = omega arith;
}

-- ---- parts

-- the words of four regions are a multiple of 64
four_regions : (w k n : ℕ) → IsWithinBounds w k n → (m : ℕ) × (4 * w ≡ 64 * m)
four_regions w k n l =
    let a : ℕ = l.w_power.0 in
    elim (cases_lt l.w_power.0 4) [
      | inl lt ↦ absurd (omega (arith, pow-lt lt, l.w_power.1, l.w_least))
      | inr ge ↦
          let parts : (a - 4) + 4 ≡ a = omega arith in
          let split : w ≡ 2 ^ (a - 4) * 2 ^ 4 = l.w_power.1 ∙ ap (λ e. 2 ^ e) (sym parts) ∙ pow-add 2 (a - 4) 4 in
          (2 ^ (a - 4), omega (arith, split))
    ]

-- so are those of four times as many
whole_words : (w k n c : ℕ) → IsWithinBounds w k n → (m : ℕ) × (c * 4 * w ≡ 64 * m)
whole_words w k n c l = let f = four_regions w k n l in (c * f.0, (let e : c * (4 * w) ≡ c * (64 * f.0) = ap (λ x. c * x) f.1 in omega (arith, e)))

-- regions that follow one another in a window rise
increasing_part : (from count : ℕ) (window : List ℕ) → IsStrictlyIncreasing window → IsStrictlyIncreasing (take count (drop from window))
increasing_part from count window rise k lt =
    let taken : length (take count (drop from window)) ≡ min count (length (drop from window)) = length-take count (drop from window) in
    let dropped : length (drop from window) ≡ length window - from = length-drop from window in
    let at : (j : ℕ) → j < count → slice_index (take count (drop from window)) j ≡ slice_index window (from + j) = λ j less. get_or-take count (drop from window) j 0 less ∙ get_or-drop from window j 0 in
    let next : from + (k + 1) ≡ from + k + 1 = omega arith in
    let here = at k (omega (arith, lt, taken)) in
    let there = at (k + 1) (omega (arith, lt, taken)) ∙ ap (slice_index window) next in
    let r = rise (from + k) (omega (arith, lt, taken, dropped)) in
    omega (arith, here, there, r)

pub rising_part : (h : Heap) (from count : ℕ) (window : List ℕ) → AreRegions h window → AreRegions h (take count (drop from window))
rising_part h from count window rising = record {
  rise = increasing_part from count window rising.rise;
  below = All-take (λ x. x < h.geometry.n) count (drop from window) (All-drop (λ x. x < h.geometry.n) from window rising.below);
}

module _ (h : Heap) (valid : IsValid h) (window : List ℕ) (rising : AreRegions h window) (c : ℕ) where
  some_words : 0 < h.geometry.w
  some_words = omega (arith, valid.limits.w_least)

  abbrev rest : ℕ → List ℕ
  rest j = drop (j * (c * 4)) window

  -- a part and what follows it
  parted : (j : ℕ) → slice_of (c * 4) j window ++ rest (j + 1) ≡ rest j
  parted j =
      let next : j * (c * 4) + c * 4 ≡ (j + 1) * (c * 4) = omega arith in
      ap (λ l. slice_of (c * 4) j window ++ l) (ap (λ n. drop n window) (sym next) ∙ sym (drop-drop (c * 4) (j * (c * 4)) window)) ∙ take-append-drop (c * 4) (rest j)

  rising_rest : (j : ℕ) → AreRegions h (rest j)
  rising_rest j = subst (AreRegions h) (take_all (length (rest j)) (rest j) (omega arith)) (rising_part h (j * (c * 4)) (length (rest j)) window rising)

  -- the bits of a part, and those of what follows it
  bits_parted : (j : ℕ) (a b : List ℕ) → AreBits h (slice_of (c * 4) j window) a → AreBits h (rest (j + 1)) b → AreBits h (rest j) (a ++ b)
  bits_parted j a b first second = elim (cases_lt ((j + 1) * (c * 4)) (length window)) [
    | inl more ↦
        let some : c * 4 ≤ length (rest j) = (let d = length-drop (j * (c * 4)) window in omega (arith, more, d)) in
        let full : length (slice_of (c * 4) j window) ≡ c * 4 = length-take-le (c * 4) (rest j) some in
        let words = whole_words h.geometry.w h.geometry.k h.geometry.n c valid.limits in
        subst (λ l. AreBits h l (a ++ b)) (parted j)
        (bits_append h (slice_of (c * 4) j window) (rest (j + 1)) some_words (subst (AreRegions h) (sym (parted j)) (rising_rest j)) words.0 a b
        (ap (λ n. n * h.geometry.w) full ∙ words.1) first second)
    | inr last ↦
        let none : rest (j + 1) ≡ [] = drop_all ((j + 1) * (c * 4)) window (omega (arith, last)) in
        let all : slice_of (c * 4) j window ≡ rest j = sym (append-nil (slice_of (c * 4) j window)) ∙ ap (λ l. slice_of (c * 4) j window ++ l) (sym none) ∙ parted j in
        let same : a ≡ a ++ b = sym (append-nil a) ∙ ap (λ l. a ++ l) (sym (no_bits h (rest (j + 1)) b none second)) in
        subst (AreBits h (rest j)) same (subst (λ l. AreBits h l a) all first)
  ]

  -- those of the parts from one on
  joined_from : (j m : ℕ) (lists : List (Vec ℕ)) → length window ≤ (j + m) * (c * 4) → AllZip (λ j v. AreBits h (slice_of (c * 4) j window) v.items) (range_with_len j m) lists
      → AreBits h (rest j) (flat_map (λ v. v.items) lists)
  joined_from j zero [] le z = (let none : rest j ≡ [] = drop_all (j * (c * 4)) window (omega (arith, le)) in subst (λ l. AreBits h l []) (sym none) (nothing h))
  joined_from j zero (v ∷ lists) le z = absurd z
  joined_from j (suc m) [] le z = absurd z
  joined_from j (suc m) (v ∷ lists) le z =
      bits_parted j v.items (flat_map (λ v. v.items) lists) z.0 (joined_from (j + 1) m lists (let e : j + 1 + m ≡ j + suc m = omega arith in subst (λ n. length window ≤ n * (c * 4)) (sym e) le) z.1)

  -- those of all parts
  pub joined_all : (parts : ℕ) (lists : List (Vec ℕ)) → length window ≤ parts * (c * 4) → AllZip (λ j v. AreBits h (slice_of (c * 4) j window) v.items) (range_with_len 0 parts) lists
      → AreBits h window (flat_map (λ v. v.items) lists)
  joined_all parts lists le z =
      let first : 0 * (c * 4) ≡ 0 = omega arith in
      let all : 0 + parts ≡ parts = omega arith in
      subst (λ n. AreBits h (drop n window) (flat_map (λ v. v.items) lists)) first (joined_from 0 parts lists (subst (λ n. length window ≤ n * (c * 4)) (sym all) le) z)
