-- A set of regions, by number.
use Rattle.std.proofs.Common.{◌≡◌, ◌≢◌, ℕ, zero, suc, ◌<◌, ◌≤◌, inl, inr, List, [], ◌∷◌, filter, take, get_or, AllPairs, IsTrue, sym, subst, arith, Contains}
use Rattle.std.proofs.lemmas.Bool.{cases_order}
use Rattle.std.specs.List.Sorted.{IsPermutation, IsSorted}
use Rattle.std.specs.Ordering.{nat_cmp}
use Rattle.std.proofs.lemmas.List.Sorted.{IsNonDecreasingBy-from_sort, IsPermutation-sym, Contains-permutation}
use Rattle.g1_words.specs.Heap.{Heap, regions}
use Rattle.g1_words.specs.Lists.{has}
use Rattle.g1_words.proofs.Members.{Contains-filter, filter_member, has_from_contains, Contains-from_has}
use Rattle.g1_words.proofs.Ordered.{Ordered, Ordered-from_pairs, pairs_from_ordered, same_order}
use Rattle.g1_words.proofs.Rising.{Ordered-filter, Ordered-range}
use Rattle.g1_words.proofs.Indices.{taken_in}
use Rattle.g1_choose.specs.declared.parameters.Cost.{Cost}
use Rattle.g1_choose.specs.Choice.{cost_of, garbage, is_candidate, comes_before, IsOrder}
use Rattle.g1_choose.proofs.Ratios.{before, one_way}
use Rattle.g1_choose.proofs.Sorting.{apart_permuted}

-- regions in any order, each once, when they rise
pub rising_is : (h : Heap) (xs ys : List ℕ) → IsPermutation xs ys → Ordered (λ r q. r < q) ys → ((r : ℕ) → Contains xs r → Contains (regions h) r) → ys ≡ filter (has xs) (regions h)
rising_is h xs ys p o within =
    same_order (λ r q. r < q) (λ r q a b. omega arith) ys (filter (has xs) (regions h)) o
    (Ordered-filter (λ r q. r < q) (has xs) (regions h) (Ordered-range 0 h.geometry.n))
    (λ r k.
    let i = Contains-permutation ys xs r (IsPermutation-sym xs ys p) k in
    Contains-filter (has xs) (regions h) r (within r i) (has_from_contains xs r i))
    (λ r k. Contains-permutation xs ys r p (Contains-from_has xs r (filter_member (has xs) (regions h) r k).1))

-- and when they are sorted
pub risen : (h : Heap) (xs ys : List ℕ) → IsPermutation xs ys → IsSorted nat_cmp ys → AllPairs (λ r q. r ≢ q) xs → ((r : ℕ) → Contains xs r → Contains (regions h) r) → ys ≡ filter (has xs) (regions h)
risen h xs ys p s apart within =
    let up = IsNonDecreasingBy-from_sort (λ x. x) ys s in
    let differ = apart_permuted xs ys p apart in
    rising_is h xs ys p
    (Ordered-from_pairs (λ r q. r < q) ys (λ i j d lt len. strictly i j d (up i j d (omega arith) len) (differ i j d lt len)))
    within
  where
    strictly : (i j d : ℕ) → get_or ys i d ≤ get_or ys j d → get_or ys i d ≢ get_or ys j d → get_or ys i d < get_or ys j d
    strictly i j d le ne = elim (cases_order (get_or ys i d) (get_or ys j d)) [
      | inl e ↦ absurd (ne e)
      | inr o ↦ elim o [ inl l ↦ l | inr g ↦ absurd (omega arith) ]
    ]

pub Ordered-take : {A : Type 0} (R : A → A → Type 0) (m : ℕ) (xs : List A) → Ordered R xs → Ordered R (take m xs)
Ordered-take R zero xs o = tt
Ordered-take R (suc m) [] o = tt
Ordered-take R (suc m) (x ∷ xs) o = ((λ y i. o.0 y (taken_in m xs y i)), Ordered-take R m xs o.1)

module _ (c : Cost) (h : Heap) (remembered : List (List ℕ)) (lives : List ℕ) where
  -- of two regions one at most comes before the other
  pub comes_before-one_way : (r q : ℕ) → IsTrue (comes_before c h remembered lives r q) → IsTrue (comes_before c h remembered lives q r) → ⊥
  comes_before-one_way r q a b =
      let cost = cost_of c h remembered lives in
      let waste = garbage c h remembered lives in
      one_way (cost r) (waste r) r (cost q) (waste q) q (before (cost r) (waste r) r (cost q) (waste q) q a) (before (cost q) (waste q) q (cost r) (waste r) r b)

  -- the regions of an order are the heap's, each once
  pub order_apart : (order : List ℕ) (m : ℕ) → IsOrder c h remembered lives order → AllPairs (λ r q. r ≢ q) (take m order)
  order_apart order m o i j d lt len e =
      let R : ℕ → ℕ → Type 0 = λ r q. IsTrue (comes_before c h remembered lives r q) in
      let front = pairs_from_ordered R (take m order) (Ordered-take R m order (Ordered-from_pairs R order o.sorted)) in
      let x : ℕ = get_or (take m order) i d in
      let self : R x x = subst (R x) (sym e) (front i j d lt len) in
      comes_before-one_way x x self self

  pub order_within : (order : List ℕ) (m r : ℕ) → IsOrder c h remembered lives order → Contains (take m order) r → Contains (regions h) r
  order_within order m r o i =
      (filter_member (is_candidate c h remembered lives) (regions h) r ((o.all r).0 (taken_in m order r i))).0
