-- What the words of to-space are, for every plan that is taken.
use Rattle.std.proofs.Common.{◌≡◌, ℕ, ◌+◌, ◌-◌, ◌*◌, ◌/◌, ◌%◌, ◌<◌, ◌≤◌, ◌⊎◌, inl, inr, length, get_or, map, ◌∙◌, ap, arith}
use Rattle.std.proofs.lemmas.List.{get_or-take}
use Rattle.g1_words.proofs.Sound.{w_positive}
use Rattle.g1_words.specs.Heap.{Heap, object_at, start}
use Rattle.g1_words.specs.Layout.{forward, free_regions, laid, need, places, sizes_of}
use Rattle.g1_words.specs.Valid.{IsValid}
use Rattle.g1_after.specs.Made.{moved_word}
use Rattle.g1_layout.proofs.Conditions.{can_lay}
use Rattle.g1_layout.proofs.Running.{fits, needed, place_is, size_is}
use Rattle.g1_layout.specs.Placed.{CanLay}
use Rattle.g1_layout.specs.Plan.{Plan}
use Rattle.g1_copy.proofs.GatheringWords.{get_or-to_space_words, placed_word, unplaced_word}
use Rattle.g1_copy.proofs.Plans.{places_of_plan}
use Rattle.g1_copy.specs.Gathered.{IsGatheredAt, size_of, start_of, to_space_words}
use Rattle.g1_copy.specs.Plans.{IsPlanOf}

module _ (h : Heap) (p : Plan) (valid : IsValid h) (made : IsPlanOf h p) where
  lay : CanLay h p.survivors
  lay = can_lay h p.set p.survivors valid made.placeable

  base : (t : ℕ) → t < need h p.survivors → start_of h p t ≡ start h (get_or (free_regions h) t 0)
  base t lt = ap (start h) (get_or-take (need h p.survivors) (free_regions h) t 0 lt)

  place_of : (i : ℕ) → get_or p.places i 0 ≡ get_or (places h p.survivors) i 0
  place_of i = ap (λ ps. get_or ps i 0) (places_of_plan h p made)

  pub gathered_at : (i : ℕ) → i < length p.survivors → (t : ℕ) × IsGatheredAt h p i t
  gathered_at i lt =
      let row : ℕ = get_or (laid h.geometry.w 0 (sizes_of h p.survivors)) i 0 in
      let t : ℕ = row / h.geometry.w in
      let there : t < need h p.survivors = needed h p.survivors (w_positive h valid) lay made.room i lt in
      let at : get_or p.places i 0 ≡ get_or (free_regions h) t 0 * h.geometry.w + row % h.geometry.w = place_of i ∙ place_is h p.survivors (w_positive h valid) lay made.room i lt in
      let b : start_of h p t ≡ get_or (free_regions h) t 0 * h.geometry.w = base t there in
      let f = fits h p.survivors (w_positive h valid) lay made.room i lt in
      let s = size_is h p.survivors (w_positive h valid) lay made.room i lt in
      let low : start_of h p t ≤ get_or p.places i 0 = omega (arith, at, b) in
      let high : get_or p.places i 0 + size_of h p i ≤ start_of h p t + h.geometry.w = omega (arith, at, b, f.1, s) in (
        t,
        record {
          region = there;
          low = low;
          high = high;
          words = λ k less.
              let m : ℕ = get_or p.places i 0 + k - start_of h p t in
              let within : m < h.geometry.w = omega (arith, low, high, less) in
              let word : start h (get_or (free_regions h) t 0) + m ≡ get_or (places h p.survivors) i 0 + k = omega (arith, low, base t there, place_of i) in
              get_or-to_space_words h p.survivors made.room t m there within
              ∙ ap (moved_word (forward h p.survivors) h (map (object_at h) p.survivors)) word
              ∙ placed_word h p.set p.survivors valid made.placeable made.room i k lt less;
        },
      )

  pub gathered_elsewhere : (t m : ℕ) → t < need h p.survivors → m < h.geometry.w
      → ((i : ℕ) → i < length p.survivors → (start_of h p t + m < get_or p.places i 0) ⊎ (get_or p.places i 0 + size_of h p i ≤ start_of h p t + m))
      → get_or (to_space_words h p.survivors) (t * h.geometry.w + m) 0 ≡ 0
  gathered_elsewhere t m lt less off =
      get_or-to_space_words h p.survivors made.room t m lt less
      ∙ unplaced_word h p.set p.survivors valid made.placeable made.room (start h (get_or (free_regions h) t 0) + m) (λ i there. elim (off i there) [
        | inl low ↦ inl (omega (arith, low, base t lt, place_of i))
        | inr high ↦ inr (omega (arith, high, base t lt, place_of i))
      ])
