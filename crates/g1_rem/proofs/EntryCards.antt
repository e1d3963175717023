-- Marks, and the list of the cards that are left.
use Rattle.std.proofs.Common.{◌≡◌, ◌≤◌, ◌<◌, ℕ, zero, suc, ◌+◌, ◌-◌, ◌*◌, ◌/◌, Bool, true, false, not, ◌&&◌, List, [], ◌∷◌, ◌++◌, slice_index_or, set, filter, replicate}
use Rattle.std.proofs.Common.{arith, refl, sym, ap, ◌∙◌}
use Rattle.std.specs.List.{range_with_len, list_any}
use Rattle.std.proofs.Math.Nat.{mul-le-mul_right, div-lt_iff_lt-mul}
use Rattle.g1_words.specs.Heap.{Heap}
use Rattle.g1_words.specs.Valid.{IsValid}
use Rattle.g1_words.specs.Lists.{has}
use Rattle.g1_words.specs.Marks.{AreMarked, AreUnset}
use Rattle.g1_words.specs.Survivors.{in_set}
use Rattle.g1_words.proofs.Computed.{range_below}
use Rattle.g1_words.proofs.Marked.{any_more, marked_then, marked_from_none}
use Rattle.g1_words.proofs.Sound.{k_positive, w_positive}
use Rattle.g1_words.proofs.Lists.{filter_range_no}
use Rattle.g1_image.specs.Cards.{cards_where}
use Rattle.g1_rem.specs.Starts.{card_count}
use Rattle.g1_rem.proofs.Marks.{cards_fill}
use Rattle.g1_rem.specs.EntryCards.{cards_into, is_left, is_listed}
pub use Rattle.g1_words.proofs.Lists.{filter_same_in, filter_range_yes as filtered_push, filter_range_no as filtered_pass}

-- the marks of one more set
pub listed_more : (remembered : List (List ℕ)) (old mid new : List Bool) (rs : List ℕ) (r : ℕ) → AreMarked (λ c. list_any (λ r. has (slice_index_or remembered r []) c) rs) old mid
    → AreMarked (has (slice_index_or remembered r [])) mid new → AreMarked (λ c. list_any (λ r. has (slice_index_or remembered r []) c) (rs ++ r ∷ [])) old new
listed_more remembered old mid new rs r a b =
    marked_then (λ c. list_any (λ r. has (slice_index_or remembered r []) c) rs) (has (slice_index_or remembered r []))
    (λ c. list_any (λ r. has (slice_index_or remembered r []) c) (rs ++ r ∷ [])) old mid new a b
    (λ c. any_more (λ r. has (slice_index_or remembered r []) c) rs r)

-- ---- the list of those that pass a test

-- and so many that don't
filtered_past : (p : ℕ → Bool) (from gap : ℕ) → ((x : ℕ) → from ≤ x → x < from + gap → p x ≡ false) → filter p (range_with_len 0 (from + gap)) ≡ filter p (range_with_len 0 from)
filtered_past p from zero f = let e : from + zero ≡ from = omega arith in ap (λ n. filter p (range_with_len 0 n)) e
filtered_past p from (suc gap) f =
    let e : from + suc gap ≡ from + gap + 1 = omega arith in
    ap (λ n. filter p (range_with_len 0 n)) e ∙ filter_range_no p (from + gap) (f (from + gap) (omega arith) (omega arith)) ∙ filtered_past p from gap (λ x le lt. f x le (omega (arith, lt)))

-- up to another
pub filtered_to : (p : ℕ → Bool) (from to : ℕ) → from ≤ to → ((x : ℕ) → from ≤ x → x < to → p x ≡ false) → filter p (range_with_len 0 to) ≡ filter p (range_with_len 0 from)
filtered_to p from to le f =
    let e : from + (to - from) ≡ to = omega (arith, le) in
    ap (λ n. filter p (range_with_len 0 n)) (sym e) ∙ filtered_past p from (to - from) (λ x ge lt. f x ge (omega (arith, lt, le)))

module _ (h : Heap) (valid : IsValid h) where
  -- a card lies in one of the regions
  pub card_home : (c : ℕ) → c < card_count h → c * h.geometry.k / h.geometry.w < h.geometry.n
  card_home c lt =
      let next : (c + 1) * h.geometry.k ≤ card_count h * h.geometry.k = mul-le-mul_right h.geometry.k (let e : c + 1 ≤ card_count h = omega (arith, lt) in e) in
      let whole = cards_fill h valid in
      (div-lt_iff_lt-mul (w_positive h valid)).1 (omega (arith, next, whole, k_positive h valid))

  -- the marks of a set's cards and of its regions tell the cards that lead into it
  pub left_is : (remembered : List (List ℕ)) (set : List ℕ) (count n : ℕ) (old cards before regions : List Bool) → count ≡ card_count h → n ≡ h.geometry.n
      → old ≡ replicate count false → AreMarked (is_listed remembered set) old cards → before ≡ replicate n false → AreMarked (has set) before regions
      → cards_where h (is_left h cards regions) ≡ cards_into h remembered set
  left_is remembered set count n old cards before regions e f none_cards listed none_regions inside =
      filter_same_in (is_left h cards regions) (λ c. is_listed remembered set c && not (in_set h set (c * h.geometry.k))) (range_with_len 0 (card_count h))
      (λ c i.
      let lt : c < card_count h = omega (arith, range_below 0 (card_count h) c i) in
      let home = card_home c lt in
      let card = marked_from_none (is_listed remembered set) count old cards none_cards listed c (omega (arith, lt, e)) in
      let region = marked_from_none (has set) n before regions none_regions inside (c * h.geometry.k / h.geometry.w) (omega (arith, home, f)) in
      ap (λ z. z && not (slice_index_or regions (c * h.geometry.k / h.geometry.w) false)) card ∙ ap (λ z. is_listed remembered set c && not z) region)

  module _ (cards regions : List Bool) where
    -- the cards before the next that is marked are passed over
    pub left_between : (from to : ℕ) → from ≤ to → AreUnset cards from to → filter (is_left h cards regions) (range_with_len 0 to) ≡ filter (is_left h cards regions) (range_with_len 0 from)
    left_between from to le unset = filtered_to (is_left h cards regions) from to le (λ x ge lt. ap (λ b. b && not (slice_index_or regions (x * h.geometry.k / h.geometry.w) false)) (unset x ge lt))

    -- one card more, and the region that it lies in
    module _ (c home : ℕ) (e : home ≡ c * h.geometry.k / h.geometry.w) where
      -- that is marked, in a region that isn't
      pub left_there : slice_index_or cards c false ≡ true → slice_index_or regions home false ≡ false → is_left h cards regions c ≡ true
      left_there a b = rw (a, sym (ap (λ x. slice_index_or regions x false) e) ∙ b) refl

      -- in a region that is marked
      pub left_inside : slice_index_or cards c false ≡ true → slice_index_or regions home false ≡ true → is_left h cards regions c ≡ false
      left_inside a b = rw (a, sym (ap (λ x. slice_index_or regions x false) e) ∙ b) refl
