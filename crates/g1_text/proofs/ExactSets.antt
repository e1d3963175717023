-- The exact sets of a heap are remembered sets that an image may have.
use Rattle.std.proofs.Common.{◌≡◌, ◌≢◌, ◌≤◌, ◌<◌, inl, inr, ℕ, ◌+◌, ◌-◌, ◌*◌, ◌/◌, ◌^◌, not, [], length, get_or, map, refl, sym, ◌∙◌, ap, subst, arith}
use Rattle.std.specs.List.{range_with_len}
use Rattle.std.proofs.lemmas.List.Filters.{length-filter_both}
use Rattle.std.proofs.lemmas.List.FromFn.{length-range_with_len, get_or-map-range_with_len, length-map-range_with_len}
use Rattle.std.proofs.Math.Nat.{div-mul-le_self, mul-le-mul_left}
use Rattle.std.proofs.lemmas.List.Elements.{Contains-get_or}
use Rattle.g1_words.specs.Heap.{Heap, regions, kind, region_of, object_at}
use Rattle.g1_words.specs.Valid.{IsValid}
use Rattle.g1_words.specs.Kind.{MayHoldCards}
use Rattle.g1_words.proofs.Bounds.{object_within}
use Rattle.g1_words.proofs.Computed.{has_contains}
use Rattle.g1_words.proofs.Rising.{ref_tells}
use Rattle.g1_words.proofs.Shapes.{built}
use Rattle.g1_words.proofs.Sound.{sound}
use Rattle.g1_words.proofs.Standing.{home, home_region, word_used}
use Rattle.g1_image.specs.Image.{IsImage, IsRememberedSet, IsUsedCard, region_of_card}
use Rattle.g1_image.specs.Cards.{exact, is_exact}
use Rattle.g1_image.proofs.Covers.{Puts, card_region, cards_rise, exact_tells}

module _ (h : Heap) (valid : IsValid h) where
  module _ (r : ℕ) where
    -- a card of the exact set lies in a used region that is another one
    elsewhere : (c : ℕ) → Puts h valid r c → IsUsedCard h c × (region_of_card h c ≢ r)
    elsewhere c (e, there, into, out, at) =
        let (o, has, its, is) = ref_tells h valid e there in
        let fits = (sound h valid).slots_fit o (has_contains h o has) in
        let stands = home h (built h valid) o (has_contains h o has) in
        let place : ℕ = e.slot - o.at in
        let sum : o.at + place ≡ e.slot = omega (arith, its.0) in
        let used = word_used h (built h valid) stands.0 o place stands.2 (omega (arith, its.0, its.1, fits)) in
        let home_of : region_of_card h c ≡ region_of h e.slot = ap (region_of_card h) (sym at) ∙ card_region h valid e.slot in
        let within = object_within h valid o has in
        let first : e.slot / h.geometry.k * h.geometry.k ≤ e.slot = div-mul-le_self e.slot h.geometry.k in
        let card : c * h.geometry.k ≡ e.slot / h.geometry.k * h.geometry.k = ap (λ x. x * h.geometry.k) (sym at) in (
          record {
            in_heap = omega (arith, card, first, its.1, fits, within);
            used = λ free. used.1 (ap (λ y. kind h (region_of h y)) sum ∙ ap (kind h) (sym home_of) ∙ free);
          },
          (λ same. out (sym home_of ∙ same)),
        )

    -- an object starts in the region if the set has a card
    holds : (c : ℕ) → Puts h valid r c → MayHoldCards (kind h r)
    holds c (e, there, into, out, at) =
        let t = home h (built h valid) (object_at h e.target) ((sound h valid).slot_named e there) in
        let here : t.0 ≡ r = sym (home_region h (built h valid) t.0 (object_at h e.target) t.2) ∙ into in
        elim t.2.2 [
          | inl a ↦ subst MayHoldCards (sym a.kind ∙ ap (kind h) here) tt
          | inr a ↦ subst MayHoldCards (sym a.kind ∙ ap (kind h) here) tt
        ]

    member : (k d : ℕ) → k < length (exact h r) → Puts h valid r (get_or (exact h r) k d)
    member k d lt = (exact_tells h valid r (get_or (exact h r) k d)).0 (Contains-get_or (exact h r) k d lt)

    few : length (exact h r) < 2 ^ 32
    few =
        let cards : ℕ = h.geometry.n * h.geometry.w / h.geometry.k in
        let both = length-filter_both (is_exact h r) (λ c. not (is_exact h r c)) (λ c. refl) (range_with_len 0 cards) in
        let all = length-range_with_len 0 cards in
        let words : cards * h.geometry.k ≤ h.geometry.n * h.geometry.w = div-mul-le_self (h.geometry.n * h.geometry.w) h.geometry.k in
        let more : cards * 4 ≤ cards * h.geometry.k = mul-le-mul_left cards valid.limits.k_least in
        omega (arith, both, all, words, more, valid.limits.words_most)

    exact_set : IsRememberedSet h r (exact h r)
    exact_set = record {
      rising = cards_rise h (is_exact h r);
      elsewhere = λ k d lt. elsewhere (get_or (exact h r) k d) (member k d lt);
      count = few;
      owner = λ some. holds (get_or (exact h r) 0 0) (member 0 0 some);
    }

  -- THE EXACT SETS are those of an image
  pub exact_image : IsImage (record { heap = h; remembered = map (exact h) (regions h); log = [] })
  exact_image = record {
    heap = valid;
    one_each = length-map-range_with_len (exact h) 0 h.geometry.n;
    remembered = λ r lt. subst (IsRememberedSet h r) (sym (get_or-map-range_with_len (exact h) 0 h.geometry.n r r [] lt (omega arith))) (exact_set r);
    log = record { used = λ k d lt. absurd (omega (arith, lt)); distinct = λ i j d less lt. absurd (omega (arith, lt)); count = omega arith };
  }
