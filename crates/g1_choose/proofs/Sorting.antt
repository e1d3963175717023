-- What a sort by efficiency leaves.
use Rattle.std.proofs.Common.{◌≡◌, ◌≢◌, ℕ, ◌<◌, inl, inr, Bool, true, false, List, [], ◌∷◌, map, filter, get_or, Contains, All, AllPairs, IsTrue, refl, sym, ◌∙◌, subst, arith, eqb, eqb-true, eq-eqb}
use Rattle.std.specs.Cmp.{IsStrictWeakOrder}
use Rattle.std.specs.List.{range_with_len}
use Rattle.std.specs.List.Sorted.{IsPermutation, IsSortedBy}
use Rattle.std.proofs.lemmas.Bool.Decides.{Decides-eqb}
use Rattle.std.proofs.lemmas.List.{get_or-map, length-map}
use Rattle.std.proofs.lemmas.List.Elements.{All-tail}
use Rattle.std.proofs.lemmas.List.Sorted.{sorted_far, IsPermutation-map, IsPermutation-sym, All-permutation, Contains-permutation}
use Rattle.std.proofs.lemmas.Map.Keys.{IsDistinct-IsPermutation}
use Rattle.std.proofs.lemmas.Map.Made.{AllPairs-from_IsDistinct, IsDistinct-from_AllPairs}
use Rattle.std.proofs.lemmas.Bool.{false_from_ne_true}
use Rattle.g1_words.specs.Heap.{Heap}
use Rattle.g1_words.proofs.Members.{Contains-first, Contains-later}
use Rattle.g1_words.proofs.Ordered.{Ordered, Ordered-from_pairs, pairs_from_ordered}
use Rattle.g1_words.proofs.Rising.{Ordered-filter, Ordered-map, Ordered-range}
use Rattle.g1_words.proofs.Lists.{all_in}
use Rattle.g1_choose.specs.declared.candidate.Candidate.{Candidate}
use Rattle.g1_choose.specs.declared.parameters.Cost.{Cost}
use Rattle.g1_choose.specs.Choice.{is_candidate, candidates, comes_before}
use Rattle.g1_choose.specs.Candidate.{goes_first, TellsRegion, IsCandidateOrder}
use Rattle.g1_choose.proofs.Ratios.{is_before, before, is_before-true, not_before, not_before_chain, is_before-false, one_way, one_of_two}

-- efficiency is an order in which any two candidates compare
pub efficiency_order : IsStrictWeakOrder goes_first
efficiency_order = record {
  one_way = λ x y t.
      false_from_ne_true (goes_first y x)
      (λ s. one_way x.cost x.garbage x.region y.cost y.garbage y.region
      (before x.cost x.garbage x.region y.cost y.garbage y.region t)
      (before y.cost y.garbage y.region x.cost x.garbage x.region s));
  chain = λ x y z e f.
      is_before-false x.cost x.garbage x.region z.cost z.garbage z.region
      (not_before_chain x.cost x.garbage x.region y.cost y.garbage y.region z.cost z.garbage z.region x.some_garbage y.some_garbage z.some_garbage
      (not_before x.cost x.garbage x.region y.cost y.garbage y.region e)
      (not_before y.cost y.garbage y.region z.cost z.garbage z.region f));
}

-- candidates of different regions are strictly in order
pub strictly : (xs : List Candidate) → IsSortedBy goes_first xs → AllPairs (λ x y. x.region ≢ y.region) xs → AllPairs (λ x y. IsTrue (goes_first x y)) xs
strictly xs s apart i j d lt len =
    let x : Candidate = get_or xs i d in
    let y : Candidate = get_or xs j d in
    let back : goes_first y x ≡ false = sorted_far goes_first efficiency_order xs s i j d (omega arith) len in
    elim (one_of_two x.cost x.garbage x.region y.cost y.garbage y.region (apart i j d lt len)) [
      | inl b ↦ is_before-true x.cost x.garbage x.region y.cost y.garbage y.region b
      | inr b ↦ let t = is_before-true y.cost y.garbage y.region x.cost x.garbage x.region b in absurd (cc (t, back))
    ]

-- numbers kept by a test stand apart
pub apart_by_number : (p : ℕ → Bool) (n : ℕ) → AllPairs (λ r q. r ≢ q) (filter p (range_with_len 0 n))
apart_by_number p n i j d lt len e =
    let k = pairs_from_ordered (λ x y. x < y) (filter p (range_with_len 0 n)) (Ordered-filter (λ x y. x < y) p (range_with_len 0 n) (Ordered-range 0 n)) i j d lt len in
    omega (arith, k, e)

eqb_flips_at : (x y : ℕ) (a b : Bool) → eqb x y ≡ a → eqb y x ≡ b → a ≡ b
eqb_flips_at x y true true e f = refl
eqb_flips_at x y true false e f = let t = eq-eqb y x (sym (eqb-true x y e)) in cc
eqb_flips_at x y false true e f = let t = eq-eqb x y (sym (eqb-true y x f)) in cc
eqb_flips_at x y false false e f = refl

pub apart_permuted : (xs ys : List ℕ) → IsPermutation xs ys → AllPairs (λ r q. r ≢ q) xs → AllPairs (λ r q. r ≢ q) ys
apart_permuted xs ys p apart =
    AllPairs-from_IsDistinct Decides-eqb ys
    (IsDistinct-IsPermutation eqb (λ x y. eqb_flips_at x y (eqb x y) (eqb y x) refl refl) xs ys p (IsDistinct-from_AllPairs Decides-eqb xs apart))

apart_regions : (ys : List Candidate) → AllPairs (λ r q. r ≢ q) (map (λ x. x.region) ys) → AllPairs (λ x y. x.region ≢ y.region) ys
apart_regions ys apart i j d lt len e =
    let region : Candidate → ℕ = λ x. x.region in
    apart i j d.region lt (omega (arith, length-map ys region))
    (get_or-map region ys i d d.region (omega arith) ∙ e ∙ sym (get_or-map region ys j d d.region len))

module _ (c : Cost) (h : Heap) (remembered : List (List ℕ)) (lives : List ℕ) where
  by_region : (xs : List Candidate) → All (TellsRegion c h remembered lives) xs → Ordered (λ x y. IsTrue (goes_first x y)) xs →
      Ordered (λ x y. IsTrue (comes_before c h remembered lives x.region y.region)) xs
  by_region [] t o = tt
  by_region (x ∷ xs) t o = (
    (λ y i.
        let a = all_in (TellsRegion c h remembered lives) (x ∷ xs) x t (Contains-first x xs) in
        let b = all_in (TellsRegion c h remembered lives) (x ∷ xs) y t (Contains-later x xs y i) in
        let same : goes_first x y ≡ comes_before c h remembered lives x.region y.region = λ i. is_before (a.cost i) (a.garbage i) x.region (b.cost i) (b.garbage i) y.region in
        subst IsTrue same (o.0 y i)),
    by_region xs (All-tail (TellsRegion c h remembered lives) x xs t) o.1,
  )

  -- the candidates, sorted by efficiency
  pub in_order : (xs ys : List Candidate) → map (λ x. x.region) xs ≡ candidates c h remembered lives → All (TellsRegion c h remembered lives) xs
      → IsPermutation xs ys → IsSortedBy goes_first ys → IsCandidateOrder c h remembered lives ys
  in_order xs ys e t p s =
      let region : Candidate → ℕ = λ x. x.region in
      let R : ℕ → ℕ → Type 0 = λ r q. IsTrue (comes_before c h remembered lives r q) in
      let moved : IsPermutation (map region xs) (map region ys) = IsPermutation-map region xs ys p in
      let numbers : AllPairs (λ r q. r ≢ q) (map region xs) = subst (AllPairs (λ r q. r ≢ q)) (sym e) (apart_by_number (is_candidate c h remembered lives) h.geometry.n) in
      let apart = apart_permuted (map region xs) (map region ys) moved numbers in
      let told : All (TellsRegion c h remembered lives) ys = All-permutation (TellsRegion c h remembered lives) xs ys p t in
      let pairs = strictly ys s (apart_regions ys apart) in
      record {
        order = record {
          all = λ r. (
            (λ k. subst (λ l. Contains l r) e (Contains-permutation (map region ys) (map region xs) r (IsPermutation-sym (map region xs) (map region ys) moved) k)),
            (λ k. Contains-permutation (map region xs) (map region ys) r moved (subst (λ l. Contains l r) (sym e) k)),
          );
          sorted = pairs_from_ordered R (map region ys) (Ordered-map R region ys (by_region ys told (Ordered-from_pairs (λ x y. IsTrue (goes_first x y)) ys pairs)));
        };
        tells = told;
      }
