-- Whether a logged card and a remembered set keep the rules.
use Rattle.std.proofs.Common.{◌≡◌, ◌≢◌, ◌<◌, ℕ, ◌+◌, ◌*◌, ◌^◌, inl, inr, List, length, slice_index, arith}
use Rattle.std.specs.Prelude.{All}
use Rattle.std.specs.List.Sorted.{IsStrictlyIncreasing}
use Rattle.g1_words.specs.declared.region.Kind.{Kind}
use Rattle.g1_words.specs.declared.region.Kind.TheVariants.{Free, Ordinary, HumongousFirst, Continuation}
use Rattle.g1_words.specs.Heap.{Heap, region}
use Rattle.g1_image.specs.Image.{IsUsedCard, IsRememberedSet, MayHoldCards, region_of_card}
use Rattle.g1_image.specs.Faults.{IsGoodLogged}
use Rattle.g1_image.proofs.Decided.{Decided, decided_as, decided_both, decided_under, decided_not, decided_lt, decided_eq, decided_kind, decided_all, decided_each}

module _ (h : Heap) where
  -- a card of a used region
  decided_used : (c : ℕ) → Decided (IsUsedCard h c)
  decided_used c =
      decided_as ((c * h.geometry.k < h.geometry.n * h.geometry.w) × ((region h (region_of_card h c)).kind ≢ Free)) (IsUsedCard h c)
      (λ p. record { in_heap = p.0; used = p.1 })
      (λ u. (u.in_heap, u.used))
      (decided_both (c * h.geometry.k < h.geometry.n * h.geometry.w) ((region h (region_of_card h c)).kind ≢ Free)
      (decided_lt (c * h.geometry.k) (h.geometry.n * h.geometry.w))
      (decided_not ((region h (region_of_card h c)).kind ≡ Free) (decided_kind (region h (region_of_card h c)).kind Free)))

  -- a place of the log
  pub decided_logged : (log : List ℕ) (i : ℕ) → Decided (IsGoodLogged h log i)
  decided_logged log i =
      decided_both (IsUsedCard h (slice_index log i)) ((j : ℕ) → j < i → slice_index log j ≢ slice_index log i) (decided_used (slice_index log i))
      (decided_all (λ j. slice_index log j ≢ slice_index log i) (λ j. decided_not (slice_index log j ≡ slice_index log i) (decided_eq (slice_index log j) (slice_index log i))) i)

  -- a kind whose regions may have remembered cards
  decided_holder : (k : Kind) → Decided (MayHoldCards k)
  decided_holder Free = inr (λ x. x)
  decided_holder Ordinary = inl tt
  decided_holder HumongousFirst = inl tt
  decided_holder Continuation = inr (λ x. x)

  -- rising cards
  decided_rising : (cards : List ℕ) → Decided (IsStrictlyIncreasing cards)
  decided_rising cards =
      decided_as ((k : ℕ) → k < length cards → k + 1 < length cards → slice_index cards k < slice_index cards (k + 1)) (IsStrictlyIncreasing cards)
      (λ f k lt. f k (omega (arith, lt)) lt)
      (λ f k below lt. f k lt)
      (decided_all (λ k. k + 1 < length cards → slice_index cards k < slice_index cards (k + 1))
      (λ k. decided_under (k + 1 < length cards) (slice_index cards k < slice_index cards (k + 1)) (decided_lt (k + 1) (length cards)) (decided_lt (slice_index cards k) (slice_index cards (k + 1))))
      (length cards))

  -- cards of used regions, none of them region r
  abbrev Elsewhere : ℕ → List ℕ → Type 0
  Elsewhere r cards = All (λ c. IsUsedCard h c × (region_of_card h c ≢ r)) cards

  -- the cards of a list are
  decided_elsewhere : (r : ℕ) (cards : List ℕ) → Decided (Elsewhere r cards)
  decided_elsewhere r cards =
      decided_each (λ c. IsUsedCard h c × (region_of_card h c ≢ r))
      (λ c. decided_both (IsUsedCard h c) (region_of_card h c ≢ r) (decided_used c) (decided_not (region_of_card h c ≡ r) (decided_eq (region_of_card h c) r))) cards

  -- a remembered set
  pub decided_set : (r : ℕ) (cards : List ℕ) → Decided (IsRememberedSet h r cards)
  decided_set r cards =
      let Owned : Type 0 = 0 < length cards → MayHoldCards (region h r).kind in
      decided_as (IsStrictlyIncreasing cards × (Elsewhere r cards × ((length cards < 2 ^ 32) × Owned))) (IsRememberedSet h r cards)
      (λ p. record { rising = p.0; elsewhere = p.1.0; count = p.1.1.0; owner = p.1.1.1 })
      (λ s. (s.rising, (s.elsewhere, (s.count, s.owner))))
      (decided_both (IsStrictlyIncreasing cards) (Elsewhere r cards × ((length cards < 2 ^ 32) × Owned)) (decided_rising cards)
      (decided_both (Elsewhere r cards) ((length cards < 2 ^ 32) × Owned) (decided_elsewhere r cards)
      (decided_both (length cards < 2 ^ 32) Owned (decided_lt (length cards) (2 ^ 32))
      (decided_under (0 < length cards) (MayHoldCards (region h r).kind) (decided_lt 0 (length cards)) (decided_holder (region h r).kind)))))
