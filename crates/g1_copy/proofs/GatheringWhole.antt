-- The gathered words, region by region.
use Rattle.std.proofs.Common.{◌≡◌, ℕ, ◌+◌, ◌-◌, ◌*◌, ◌<◌, ◌≤◌, List, length, get_or, take, replicate, sym, ◌∙◌, ap, arith}
use Rattle.std.proofs.Math.Nat.{mul-le-mul_right}
use Rattle.std.proofs.lemmas.List.{drop-replicate, get_or-take, length-take-le, take-replicate}
use Rattle.std.proofs.lemmas.List.FromFn.{length-range_with_len}
use Rattle.std.proofs.lemmas.List.Sums.{count_by-le-length, length-filter}
use Rattle.g1_words.specs.Geometry.{most_words}
use Rattle.g1_words.specs.Heap.{Heap, is_free, kind, regions}
use Rattle.g1_words.specs.Layout.{free_regions, need, to_space}
use Rattle.g1_words.specs.Valid.{IsValid}
use Rattle.g1_work.proofs.Slices.{next_slice, slices_from}
use Rattle.g1_work.specs.Regions.{slice_of}
use Rattle.g1_layout.specs.Plan.{Plan}
use Rattle.g1_copy.proofs.GatheringWords.{length-placed_words, length-to_space_words}
use Rattle.g1_copy.proofs.InPlaceSlices.{flat_slice}
use Rattle.g1_copy.proofs.Plans.{runs_count}
use Rattle.g1_copy.specs.Gathered.{placed_words, to_space_words}
use Rattle.g1_copy.specs.Plans.{IsPlanOf}

module _ (h : Heap) (p : Plan) (made : IsPlanOf h p) where
  -- to-space has no more words than the heap
  pub few_words : IsValid h → length p.runs * h.geometry.w ≤ most_words
  few_words valid =
      let n = runs_count h p made in
      let count = length-filter (λ r. is_free (kind h r)) (regions h) in
      let some = count_by-le-length (λ r. is_free (kind h r)) (regions h) in
      let all = length-range_with_len 0 h.geometry.n in
      let free : length (free_regions h) ≤ h.geometry.n = omega arith in
      let room = made.room in
      let rows : length p.runs * h.geometry.w ≤ h.geometry.n * h.geometry.w = mul-le-mul_right h.geometry.w (omega arith) in
      omega (arith, rows, valid.limits.words_most)

  -- a slice of so many zeros is an empty region
  pub slice_empty : (xs : List ℕ) (r : ℕ) → xs ≡ replicate (length p.runs * h.geometry.w) 0 → r < need h p.survivors → slice_of h.geometry.w r xs ≡ replicate h.geometry.w 0
  slice_empty xs r e lt =
      let w : ℕ = h.geometry.w in
      let n : ℕ = length p.runs in
      let within = next_slice w r n (omega (arith, lt, runs_count h p made)) in
      ap (slice_of w r) e ∙ ap (take w) (drop-replicate (r * w) (n * w) 0) ∙ take-replicate w (n * w - r * w) 0 (omega (arith, within))

  -- where each slice has the words of its region, these are the words of to-space
  pub whole_words : (ys : List ℕ) → length ys ≡ length p.runs * h.geometry.w
      → ((r : ℕ) → r < need h p.survivors → slice_of h.geometry.w r ys ≡ placed_words h p.survivors (get_or (free_regions h) r 0)) → ys ≡ to_space_words h p.survivors
  whole_words ys len each =
      let w : ℕ = h.geometry.w in
      let l : List ℕ = p.survivors in
      let all : List ℕ = to_space_words h l in
      let count = length-take-le (need h l) (free_regions h) made.room in
      let slice : (r : ℕ) → r < need h l → slice_of w r all ≡ placed_words h l (get_or (free_regions h) r 0) =
      λ r lt. flat_slice (placed_words h l) w (length-placed_words h l) (to_space h l) r (omega (arith, lt, count)) ∙ ap (placed_words h l) (get_or-take (need h l) (free_regions h) r 0 lt) in
      let here : (r : ℕ) → slice_of w r all ≡ slice_of w (0 + r) all = λ r. let same : r ≡ 0 + r = omega arith in ap (λ i. slice_of w i all) same in
      slices_from (λ r. slice_of w r all) w (need h l) 0 ys (len ∙ ap (λ n. n * w) (runs_count h p made)) (λ r lt. each r lt ∙ sym (slice r lt) ∙ here r)
      ∙ sym (slices_from (λ r. slice_of w r all) w (need h l) 0 all (length-to_space_words h l made.room) (λ r lt. here r))
