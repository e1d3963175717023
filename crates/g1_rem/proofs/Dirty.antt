-- Marks that tell which cards are dirty.
use Rattle.std.proofs.Common.{◌≡◌, ◌≤◌, ◌<◌, ◌*◌, ◌^◌, ◌∙◌, ℕ, Bool, true, false, inl, inr, List, [], ◌∷◌, ◌++◌, ◌+◌, ◌||◌, length, replicate, slice_index_or, filter, All, arith, sym, ap, subst, Contains}
use Rattle.std.specs.List.{range_with_len}
use Rattle.std.specs.List.Sorted.{IsStrictlyIncreasing}
use Rattle.std.proofs.Math.Nat.{mul-le-mul_left}
use Rattle.std.proofs.lemmas.Bool.{cases_lt}
use Rattle.std.proofs.lemmas.List.{length-replicate, get_or-replicate, get_or_past}
use Rattle.g1_words.specs.Lists.{has}
use Rattle.g1_words.specs.Marks.{AreMarked, AreUnset}
use Rattle.g1_words.proofs.Computed.{Contains-range}
use Rattle.g1_words.proofs.Members.{Contains-filter, filter_member, has_from_contains, Contains-from_has, none_contains}
use Rattle.g1_words.proofs.Indices.{not_has}
use Rattle.g1_words.proofs.Lists.{filter_range_yes, all_in, all_from_in}
use Rattle.g1_words.proofs.Logic.{same_test}
use Rattle.g1_image.specs.Image.{Image, IsImage, IsUsedCard}
use Rattle.g1_rem.specs.Cover.{AreDirty}
use Rattle.g1_rem.specs.Starts.{card_count}
use Rattle.g1_rem.proofs.EntryCards.{filtered_to}
use Rattle.g1_rem.proofs.Entering.{card_inside}
use Rattle.g1_rem.proofs.Marks.{cards_fill}
use Rattle.g1_rem.proofs.Rising.{Rises-increasing, Rises-filter, Rises-range}

-- the marks of the dirty cards, where each has one
pub dirty_told : (i : Image) (count : ℕ) (old new : List Bool) → old ≡ replicate count false → AreMarked (has i.log) old new → ((c : ℕ) → Contains i.log c → c < count) → AreDirty i new
dirty_told i count old new e m below = λ c.
    let len : length old ≡ count = ap length e ∙ length-replicate count false in
    elim (cases_lt c count) [
      | inl lt ↦ m.each c (omega (arith, lt, len)) ∙ ap (λ b. b || has i.log c) (ap (λ l. slice_index_or l c false) e ∙ get_or-replicate count c false false lt)
      | inr ge ↦ get_or_past new c false (omega (arith, ge, len, m.one_each)) ∙ sym (not_has i.log c (λ k. let lt = below c k in omega (arith, lt, ge)))
    ]

-- a dirty card is one of the heap's
pub dirty_inside : (i : Image) (c : ℕ) → IsImage i → Contains i.log c → c < card_count i.heap
dirty_inside i c valid k = card_inside i.heap c valid.heap (all_in (IsUsedCard i.heap) i.log c valid.log.used k)

-- an empty log has none
pub none_dirty : (log : List ℕ) (c n : ℕ) → log ≡ [] → Contains log c → c < n
none_dirty log c n e k = absurd (none_contains c (subst (λ l. Contains l c) e k))

-- ---- the dirty cards, listed

-- they rise
pub listed_rising : (log : List ℕ) (n : ℕ) → IsStrictlyIncreasing (filter (has log) (range_with_len 0 n))
listed_rising log n = Rises-increasing 0 (filter (has log) (range_with_len 0 n)) (Rises-filter (has log) 0 (range_with_len 0 n) (Rises-range 0 n))

-- all of them are the heap's
pub listed_inside : (i : Image) (n : ℕ) → IsImage i → All (λ c. c < card_count i.heap) (filter (has i.log) (range_with_len 0 n))
listed_inside i n valid = all_from_in (λ c. c < card_count i.heap) (filter (has i.log) (range_with_len 0 n))
    (λ c k. dirty_inside i c valid (Contains-from_has i.log c (filter_member (has i.log) (range_with_len 0 n) c k).1))

-- their numbers are small
pub dirty_small : (i : Image) (c : ℕ) → IsImage i → has i.log c ≡ true → c < 2 ^ 32
dirty_small i c valid e =
    let inside : c < card_count i.heap = dirty_inside i c valid (Contains-from_has i.log c e) in
    let wide : card_count i.heap * 1 ≤ card_count i.heap * i.heap.geometry.k = mul-le-mul_left (card_count i.heap) (let some : 1 ≤ i.heap.geometry.k = omega (arith, valid.heap.limits.k_least) in some) in
    omega (arith, inside, wide, cards_fill i.heap valid.heap, valid.heap.limits.words_most)

-- a card with a mark that tells it is dirty has one
marked_below : (i : Image) (marks : List Bool) (c : ℕ) → AreDirty i marks → has i.log c ≡ true → c < length marks
marked_below i marks c told e = elim (cases_lt c (length marks)) [
  | inl lt ↦ lt
  | inr ge ↦ (let clash : true ≡ false = sym e ∙ sym (told c) ∙ get_or_past marks c false ge in cc)
]

module _ (i : Image) (marks : List Bool) (told : AreDirty i marks) where
  -- those before a number whose marks aren't set
  pub listed_end : (from to : ℕ) → from ≤ to → AreUnset marks from to → filter (has i.log) (range_with_len 0 to) ≡ filter (has i.log) (range_with_len 0 from)
  listed_end from to le unset = filtered_to (has i.log) from to le (λ x ge lt. sym (told x) ∙ unset x ge lt)

  -- a card whose mark is set, and those before it whose marks aren't
  pub listed_more : (from c : ℕ) → from ≤ c → slice_index_or marks c false ≡ true → AreUnset marks from c
      → filter (has i.log) (range_with_len 0 (c + 1)) ≡ filter (has i.log) (range_with_len 0 from) ++ c ∷ []
  listed_more from c le set unset =
      filter_range_yes (has i.log) c (sym (told c) ∙ set) ∙ ap (λ l. l ++ c ∷ []) (listed_end from c le unset)

-- they are those of the log
pub listed_same : (i : Image) (marks : List Bool) (c : ℕ) → AreDirty i marks → has (filter (has i.log) (range_with_len 0 (length marks))) c ≡ has i.log c
listed_same i marks c told = same_test (has (filter (has i.log) (range_with_len 0 (length marks))) c) (has i.log c)
    (λ e. (filter_member (has i.log) (range_with_len 0 (length marks)) c (Contains-from_has (filter (has i.log) (range_with_len 0 (length marks))) c e)).1)
    (λ e. has_from_contains (filter (has i.log) (range_with_len 0 (length marks))) c
    (Contains-filter (has i.log) (range_with_len 0 (length marks)) c (Contains-range 0 (length marks) c (omega arith) (omega (arith, marked_below i marks c told e))) e))
