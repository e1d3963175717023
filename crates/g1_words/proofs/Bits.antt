-- Marks that are kept as the bits of words.
use Rattle.std.proofs.Common.{arith, refl, ◌≡◌, ◌≢◌, ◌≤◌, ◌<◌, ◌+◌, ◌-◌, ◌*◌, ◌/◌, ◌%◌, ◌^◌, ◌==◌, inl, inr, ℕ, List, Bool, true, false, length, slice_index, get_or, set, replicate, sym, ap, subst, ◌∙◌, ◌++◌, take, length-append}
use Rattle.std.proofs.Common.{zero-add, get_or-set_same, get_or-set_other, length-set}
use Rattle.std.specs.Int.Bits.{bit_or}
use Rattle.std.specs.Int.{bit_at, trailing_zeros, w64}
use Rattle.std.proofs.lemmas.List.{same_lists, get_or-replicate, length-replicate, get_or_append_left, get_or-append_right, get_or-take, length-take-le}
use Rattle.std.proofs.lemmas.List.FromFn.{get_or-map-range_with_len, length-map-range_with_len}
use Rattle.std.proofs.lemmas.Nat.Bits.{bit_at-zero, bit_at_set_same, bit_at_set_other, bit_at_above, bit_at-trailing_zeros}
use Rattle.std.proofs.lemmas.Bool.{cases_eq, cases_lt}
use Rattle.std.proofs.lemmas.Nat.{pow-add}
use Rattle.std.proofs.Math.Nat.{div-div-eq-div-mul, div-le_self}
use Rattle.std.proofs.Math.ListN.{get_or-eq_default}
use Rattle.g1_words.specs.Marks.{is_set, marks_of, AreUnset, IsFirstSet}

pub length-marks_of : (count : ℕ) (bits : List ℕ) → length (marks_of count bits) ≡ count
length-marks_of count bits = length-map-range_with_len (is_set bits) 0 count

-- the mark of a number below the bound
pub mark_of : (count : ℕ) (bits : List ℕ) (a : ℕ) (d : Bool) → a < count → get_or (marks_of count bits) a d ≡ is_set bits a
mark_of count bits a d lt = get_or-map-range_with_len (is_set bits) 0 count a a d lt (zero-add a)

-- no mark is set where all words are 0
pub marks_of-none : (count n : ℕ) → count ≤ 64 * n → marks_of count (replicate n 0) ≡ replicate count false
marks_of-none count n le =
    same_lists (marks_of count (replicate n 0)) (replicate count false) (length-marks_of count (replicate n 0) ∙ sym (length-replicate count false)) (λ k d lt.
    let under : k < count = omega (arith, lt, length-marks_of count (replicate n 0)) in
    let word : get_or (replicate n 0) (k / 64) 0 ≡ 0 = get_or-replicate n (k / 64) 0 0 (omega (arith, le, under)) in
    mark_of count (replicate n 0) k d under ∙ ap (λ x. bit_at x (k % 64) == 1) word ∙ ap (λ b. b == 1) (bit_at-zero (k % 64)) ∙ sym (get_or-replicate count k false d under))

-- the mark of a number, where the word that has the mark of a has one bit more
set_at : (bits : List ℕ) (a k : ℕ) → a / 64 < length bits → k ≡ a → is_set (set bits (a / 64) (bit_or (slice_index bits (a / 64)) (1 * 2 ^ (a % 64) % 2 ^ 64))) k ≡ true
set_at bits a k lt e =
    let x : ℕ = bit_or (slice_index bits (a / 64)) (1 * 2 ^ (a % 64) % 2 ^ 64) in
    subst (λ j. is_set (set bits (a / 64) x) j ≡ true) (sym e)
    (ap (λ y. bit_at y (a % 64) == 1) (get_or-set_same bits (a / 64) x 0 lt) ∙ ap (λ b. b == 1) (bit_at_set_same w64 (slice_index bits (a / 64)) (a % 64) (omega arith)))

set_off : (bits : List ℕ) (a k : ℕ) → a / 64 < length bits → k ≢ a → is_set (set bits (a / 64) (bit_or (slice_index bits (a / 64)) (1 * 2 ^ (a % 64) % 2 ^ 64))) k ≡ is_set bits k
set_off bits a k lt ne =
    let x : ℕ = bit_or (slice_index bits (a / 64)) (1 * 2 ^ (a % 64) % 2 ^ 64) in
    elim (cases_eq (k / 64) (a / 64)) [
      | inl same ↦
          let other : k % 64 ≢ a % 64 = λ e. ne (omega (arith, same, e)) in
          ap (λ j. bit_at (get_or (set bits (a / 64) x) j 0) (k % 64) == 1) same ∙ ap (λ y. bit_at y (k % 64) == 1) (get_or-set_same bits (a / 64) x 0 lt)
          ∙ ap (λ b. b == 1) (bit_at_set_other w64 (slice_index bits (a / 64)) (a % 64) (omega arith) (k % 64) other) ∙ ap (λ j. bit_at (slice_index bits j) (k % 64) == 1) (sym same)
      | inr apart ↦ ap (λ y. bit_at y (k % 64) == 1) (get_or-set_other bits (a / 64) (k / 64) x 0 apart)
    ]

-- one bit more is one mark more
pub marks_of-set : (count : ℕ) (bits : List ℕ) (a : ℕ) → a < count → a / 64 < length bits →
    marks_of count (set bits (a / 64) (bit_or (slice_index bits (a / 64)) (1 * 2 ^ (a % 64) % 2 ^ 64))) ≡ set (marks_of count bits) a true
marks_of-set count bits a lt in_bits =
    let new : List ℕ = set bits (a / 64) (bit_or (slice_index bits (a / 64)) (1 * 2 ^ (a % 64) % 2 ^ 64)) in
    let old : List Bool = marks_of count bits in
    let same : length (set old a true) ≡ length old = simp length-set in
    same_lists (marks_of count new) (set old a true) (length-marks_of count new ∙ sym (length-marks_of count bits) ∙ sym same) (λ k d less.
    let under : k < count = omega (arith, less, length-marks_of count new) in
    elim (cases_eq k a) [
      | inl e ↦ mark_of count new k d under ∙ set_at bits a k in_bits e ∙ sym
          (subst (λ j. get_or (set old a true) j d ≡ true) (sym e) (get_or-set_same old a true d (omega (arith, lt, length-marks_of count bits))))
      | inr ne ↦ mark_of count new k d under ∙ set_off bits a k in_bits ne ∙ sym (mark_of count bits k d under) ∙ sym (get_or-set_other old a k true d ne)
    ])

-- ---- the next mark that is set

-- a bit of a number that was shifted
bit_of_rest : (n j i k : ℕ) → k ≡ j + i → bit_at (n / 2 ^ j) i ≡ bit_at n k
bit_of_rest n j i k e = ap (λ x. x % 2) (div-div-eq-div-mul n (2 ^ j) (2 ^ i) ∙ ap (λ x. n / x) (sym (pow-add 2 j i)) ∙ ap (λ x. n / 2 ^ x) (sym e))

-- a mark in the word of another, from that on, is a bit of the word's rest
mark_in_rest : (bits : List ℕ) (a x : ℕ) → a ≤ x → x / 64 ≡ a / 64 → is_set bits x ≡ (bit_at (slice_index bits (a / 64) / 2 ^ (a % 64)) (x - a) == 1)
mark_in_rest bits a x le same =
    ap (λ b. bit_at (slice_index bits b) (x % 64) == 1) same
    ∙ ap (λ y. y == 1) (sym (bit_of_rest (slice_index bits (a / 64)) (a % 64) (x - a) (x % 64) (omega (arith, le, same))))

-- a rest that is 0 has no mark
pub none_in_rest : (bits : List ℕ) (a x : ℕ) → slice_index bits (a / 64) / 2 ^ (a % 64) ≡ 0 → a ≤ x → x / 64 ≡ a / 64 → is_set bits x ≡ false
none_in_rest bits a x e le same = mark_in_rest bits a x le same ∙ ap (λ n. bit_at n (x - a) == 1) e ∙ ap (λ y. y == 1) (bit_at-zero (x - a))

-- the lowest bit of a rest is its first mark
pub record IsFirstIn (bits : List ℕ) (a at : ℕ) : Type 0 where
  pub reached : a ≤ at
  pub here : at / 64 ≡ a / 64
  pub set : is_set bits at ≡ true
  pub unset : (x : ℕ) → a ≤ x → x < at → is_set bits x ≡ false

pub first_in_rest : (bits : List ℕ) (a : ℕ) → slice_index bits (a / 64) < 2 ^ 64 → 0 < slice_index bits (a / 64) / 2 ^ (a % 64)
    → IsFirstIn bits a (a + trailing_zeros w64 (slice_index bits (a / 64) / 2 ^ (a % 64)))
first_in_rest bits a fits some =
    let word : ℕ = slice_index bits (a / 64) in
    let rest : ℕ = word / 2 ^ (a % 64) in
    let lowest = bit_at-trailing_zeros w64 rest some (omega (arith, fits, div-le_self word (2 ^ (a % 64)))) in
    let t : ℕ = trailing_zeros w64 rest in
    let within : a % 64 + t < 64 = (elim (cases_lt (a % 64 + t) 64) [
      | inl lt ↦ lt
      | inr ge ↦
          let high : bit_at rest t ≡ 0 = bit_of_rest word (a % 64) t (a % 64 + t) refl ∙ bit_at_above word 64 (a % 64 + t) fits ge in
          absurd (omega (arith, high, lowest.1))
    ]) in
    let here : (x : ℕ) → a ≤ x → x ≤ a + t → x / 64 ≡ a / 64 = λ x le lt. omega (arith, le, lt, within) in
    record {
      reached = omega arith;
      here = here (a + t) (omega arith) (omega arith);
      set = mark_in_rest bits a (a + t) (omega arith) (here (a + t) (omega arith) (omega arith))
          ∙ ap (λ i. bit_at rest i == 1) (let e : a + t - a ≡ t = omega arith in e) ∙ ap (λ y. y == 1) lowest.1;
      unset = λ x le lt. mark_in_rest bits a x le (here x le (omega (arith, lt))) ∙ ap (λ y. y == 1) (lowest.2 (x - a) (omega (arith, le, lt)));
    }

-- marks of which none is set up to an address, and then none up to another
pub unset_on : (marks : List Bool) (count : ℕ) (bits : List ℕ) (from at to : ℕ) → marks_of count bits ≡ marks → AreUnset marks from at →
    ((x : ℕ) → at ≤ x → x < to → x < count → is_set bits x ≡ false) → AreUnset marks from to
unset_on marks count bits from at to e before rest x le lt = elim (cases_lt x at) [
  | inl early ↦ before x le early
  | inr late ↦ elim (cases_lt x count) [
    | inl in_marks ↦ ap (λ l. get_or l x false) (sym e) ∙ mark_of count bits x false in_marks ∙ rest x late lt in_marks
    | inr past ↦ get_or-eq_default marks false (omega (arith, past, ap length e, length-marks_of count bits))
  ]
]

-- the first mark of the word at which none was set
pub first_found : (marks : List Bool) (count : ℕ) (bits : List ℕ) (from at n : ℕ) → marks_of count bits ≡ marks → from ≤ at → AreUnset marks from at →
    IsFirstIn bits at n → n < count → IsFirstSet marks from n
first_found marks count bits from at n e le before first lt = record {
  reached = omega (arith, le, first.reached);
  within = omega (arith, lt, ap length e, length-marks_of count bits);
  set = ap (λ l. get_or l n false) (sym e) ∙ mark_of count bits n false lt ∙ first.set;
  unset = unset_on marks count bits from at n e before (λ x ge less _. first.unset x ge less);
}

-- marks that fill whole words have a word for each 64 of them
module _ (count : ℕ) (bits : List ℕ) (whole : count % 64 ≡ 0) (le : count ≤ 64 * length bits) where
  pub length-words : length (take (count / 64) bits) ≡ count / 64
  length-words = length-take-le (count / 64) bits (omega (arith, le))

  word_of : (k : ℕ) (behind : List ℕ) → k < count → slice_index (take (count / 64) bits ++ behind) (k / 64) ≡ slice_index bits (k / 64)
  word_of k behind lt =
      let under : k / 64 < count / 64 = omega (arith, lt, whole) in
      get_or_append_left (take (count / 64) bits) behind 0 (k / 64) (omega (arith, under, length-words)) ∙ get_or-take (count / 64) bits (k / 64) 0 under

  -- the words behind them have no marks of these
  pub marks_of-words : marks_of count (take (count / 64) bits) ≡ marks_of count bits
  marks_of-words =
      same_lists (marks_of count (take (count / 64) bits)) (marks_of count bits) (length-marks_of count (take (count / 64) bits) ∙ sym (length-marks_of count bits)) (λ k d lt.
      let under : k < count = omega (arith, lt, length-marks_of count (take (count / 64) bits)) in
      let word : slice_index (take (count / 64) bits) (k / 64) ≡ slice_index bits (k / 64) = get_or-take (count / 64) bits (k / 64) 0 (omega (arith, under, whole)) in
      mark_of count (take (count / 64) bits) k d under ∙ ap (λ x. bit_at x (k % 64) == 1) word ∙ sym (mark_of count bits k d under))

  -- words behind the words are marks behind the marks
  pub marks_of-append : (more : ℕ) (behind : List ℕ) → marks_of (count + more) (take (count / 64) bits ++ behind) ≡ marks_of count bits ++ marks_of more behind
  marks_of-append more behind =
      let all : List ℕ = take (count / 64) bits ++ behind in
      same_lists (marks_of (count + more) all) (marks_of count bits ++ marks_of more behind)
      (length-marks_of (count + more) all ∙ sym (length-append (marks_of count bits) (marks_of more behind) ∙ (λ i. length-marks_of count bits i + length-marks_of more behind i))) (λ k d lt.
      let under : k < count + more = omega (arith, lt, length-marks_of (count + more) all) in
      elim (cases_lt k count) [
        | inl less ↦ mark_of (count + more) all k d under ∙ ap (λ x. bit_at x (k % 64) == 1) (word_of k behind less) ∙ sym (mark_of count bits k d less)
            ∙ sym (get_or_append_left (marks_of count bits) (marks_of more behind) d k (omega (arith, less, length-marks_of count bits)))
        | inr ge ↦
            let place : k / 64 - count / 64 ≡ (k - count) / 64 = omega (arith, ge, whole) in
            let bit : k % 64 ≡ (k - count) % 64 = omega (arith, ge, whole) in
            let word : slice_index all (k / 64) ≡ slice_index behind ((k - count) / 64) =
            get_or-append_right (take (count / 64) bits) behind (count / 64) (k / 64) 0 length-words (omega (arith, ge)) ∙ ap (slice_index behind) place in
            mark_of (count + more) all k d under ∙ (λ i. bit_at (word i) (bit i) == 1) ∙ sym (mark_of more behind (k - count) d (omega (arith, under, ge)))
            ∙ sym (get_or-append_right (marks_of count bits) (marks_of more behind) count k d (length-marks_of count bits) ge)
      ])
