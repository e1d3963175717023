-- The cards of regions that are used are cards of used regions.
use Rattle.std.proofs.Common.{◌≡◌, ℕ, ◌+◌, ◌-◌, ◌*◌, ◌/◌, ◌<◌, ◌≤◌, List, [], get_or, inl, inr, arith, refl, sym, ap, subst, ◌∙◌, Bool, true, false, true≢false, Contains}
use Rattle.std.specs.Prelude.{All, if◌then◌else◌}
use Rattle.std.specs.List.{range_with_len}
use Rattle.std.proofs.lemmas.Bool.{cases_lt}
use Rattle.std.proofs.Math.Nat.{mul-le-mul_right, mul-lt-mul_of_pos_right, mul-div_cancel, mul-div-mul_right, div-lt_iff_lt-mul}
use Rattle.std.proofs.lemmas.List.{get_or_default}
use Rattle.g1_words.specs.Heap.{Heap, kind, start, card_of, is_free}
use Rattle.g1_words.specs.Valid.{IsValid}
use Rattle.g1_words.specs.declared.region.Kind.TheVariants.{Free}
use Rattle.g1_words.proofs.Bounds.{cards_in_region}
use Rattle.g1_words.proofs.Indices.{range_bounds}
use Rattle.g1_words.proofs.Members.{flat_map_cases, none_contains}
use Rattle.g1_image.specs.Image.{IsUsedCard, region_of_card}
use Rattle.g1heap_cli.specs.Young.{region_cards, young_cards}
use Rattle.g1_words.proofs.Sound.{k_positive}

-- the cards of a row of m cards
row_of : (m r c : ℕ) → r * m ≤ c → c < (r + 1) * m → c / m ≡ r
row_of m r c from to =
    let some : 0 < m = (let one : (r + 1) * m ≡ r * m + m = omega arith in omega (arith, one, from, to)) in
    let below : c / m < r + 1 = (div-lt_iff_lt-mul some).1 to in
    elim (cases_lt (c / m) r) [
      | inl less ↦ absurd (let no : c < r * m = (div-lt_iff_lt-mul some).0 less in omega (arith, no, from))
      | inr ge ↦ omega (arith, ge, below)
    ]

module _ (h : Heap) (valid : IsValid h) where
  -- a region's first card, as a number of cards
  first_card : (m r : ℕ) → h.geometry.w ≡ m * h.geometry.k → card_of h (start h r) ≡ r * m
  first_card m r e =
      let whole : r * h.geometry.w ≡ r * m * h.geometry.k = ap (λ x. r * x) e ∙ omega arith in
      ap (λ x. x / h.geometry.k) whole ∙ mul-div_cancel (r * m) (k_positive h valid)

  card_used : (r c : ℕ) → r < h.geometry.n → is_free (kind h r) ≡ false → card_of h (start h r) ≤ c → c < card_of h (start h (r + 1)) → IsUsedCard h c
  card_used r c lt used from to =
      let cards = cards_in_region h.geometry.w h.geometry.k h.geometry.n valid.limits in
      let m : ℕ = cards.0 in
      let k : ℕ = h.geometry.k in
      let at : r * m ≤ c = omega (arith, from, first_card m r cards.1) in
      let up_to : c < (r + 1) * m = omega (arith, to, first_card m (r + 1) cards.1) in
      let home : region_of_card h c ≡ r = ap (λ x. c * k / x) cards.1 ∙ mul-div-mul_right c m (k_positive h valid) ∙ row_of m r c at up_to in
      let rows : (r + 1) * h.geometry.w ≤ h.geometry.n * h.geometry.w = mul-le-mul_right h.geometry.w (omega (arith, lt)) in
      let words : (r + 1) * h.geometry.w ≡ (r + 1) * m * k = ap (λ x. (r + 1) * x) cards.1 ∙ omega arith in
      let here : c * k < (r + 1) * m * k = mul-lt-mul_of_pos_right up_to (k_positive h valid) in
      record {
        in_heap = omega (arith, here, words, rows);
        used = λ free. let free_here : kind h r ≡ Free = ap (kind h) (sym home) ∙ free in true≢false (sym (ap is_free free_here) ∙ used);
      }

  region_used : (r c : ℕ) → r < h.geometry.n → Contains (region_cards h r) c → IsUsedCard h c
  region_used r c lt member = at (is_free (kind h r)) refl member where
    at : (b : Bool) → is_free (kind h r) ≡ b → Contains (if b then [] else range_with_len (card_of h (start h r)) (card_of h (start h (r + 1)) - card_of h (start h r))) c → IsUsedCard h c
    at true used none = absurd (none_contains c none)
    at false used inside =
        let t = range_bounds (card_of h (start h r)) (card_of h (start h (r + 1)) - card_of h (start h r)) c inside in
        card_used r c lt used t.0 (omega (arith, t.0, t.1))

  -- those of several regions that are the heap's
  pub young_used : (young : List ℕ) → All (λ r. r < h.geometry.n) young → All (IsUsedCard h) (young_cards h young)
  young_used young there k d lt =
      let c : ℕ = get_or (young_cards h young) k d in
      let from = flat_map_cases (region_cards h) young c (k, lt, get_or_default (young_cards h young) k c d lt) in
      let place = from.1 in
      region_used from.0 c (subst (λ r. r < h.geometry.n) place.2 (there place.0 from.0 place.1)) from.2
