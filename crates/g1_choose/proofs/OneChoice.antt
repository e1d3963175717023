-- A heap's candidates have one order, and a budget buys one set.
use Rattle.std.proofs.Common.{◌≡◌, ◌≢◌, ℕ, zero, suc, ◌<◌, ◌≤◌, ◌⊎◌, inl, inr, List, [], ◌∷◌, map, filter, take, length, sum, Contains, IsTrue, refl, sym, ◌∙◌, ap, subst, arith, le_antisymm}
use Rattle.std.proofs.Common.{ltb, lt-ltb, ltb-true}
use Rattle.std.proofs.lemmas.Bool.{cases_lt, cases_order, and_parts}
use Rattle.std.proofs.lemmas.List.Sums.{sum-map}
use Rattle.std.proofs.lemmas.List.Sorted.{Contains-permutation, IsPermutation-sym, sum_by-IsPermutation}
use Rattle.std.specs.Prelude.{not, ◌&&◌}
use Rattle.g1_words.specs.Heap.{Heap, kind, pinned, regions, is_ordinary}
use Rattle.g1_words.specs.Lists.{has}
use Rattle.g1_words.proofs.Members.{Contains-filter, Contains-first, filter_member, has_from_contains, Contains-from_has}
use Rattle.g1_words.proofs.Ordered.{Ordered, Ordered-from_pairs, pairs_from_ordered, same_order}
use Rattle.g1_words.proofs.Indices.{taken_in}
use Rattle.g1_choose.specs.declared.parameters.Cost.{Cost}
use Rattle.g1_choose.specs.Choice.{cost_of, garbage, is_candidate, candidates, comes_before, pause_cost, IsOrder, IsLongest, IsChosen}
use Rattle.g1_choose.proofs.Ratios.{before, is_before-true, before_chain, one_of_two}
use Rattle.g1_choose.proofs.Insertion.{sorted, sorted_moves, sorted_ordered}
use Rattle.g1_choose.proofs.Rising.{rising_is, comes_before-one_way, order_apart, order_within}
use Rattle.g1_choose.proofs.Sorting.{apart_by_number}

-- what comes before one of the first is one of the first
kept_before : (R : ℕ → ℕ → Type 0) → ((r q : ℕ) → R r q → R q r → ⊥) → (m : ℕ) (xs : List ℕ) (r q : ℕ) → Ordered R xs → Contains xs r → Contains (take m xs) q → R r q → Contains (take m xs) r
kept_before R strict zero xs r q o i k b = absurd (omega (arith, k.1))
kept_before R strict (suc m) [] r q o i k b = absurd (omega (arith, k.1))
kept_before R strict (suc m) (x ∷ xs) r q o (zero, lt, e) k b = (zero, omega arith, e)
kept_before R strict (suc m) (x ∷ xs) r q o (suc k, lt, e) (zero, less, f) b = absurd (strict r x (subst (R r) (sym f) b) (o.0 r (k, omega (arith, lt), e)))
kept_before R strict (suc m) (x ∷ xs) r q o (suc j, lt, e) (suc n, less, eq) b = let c = kept_before R strict m xs r q o.1 (j, omega (arith, lt), e) (n, omega (arith, less), eq) b in (suc c.0, omega (arith, c.1), c.2)

module _ (c : Cost) (h : Heap) (remembered : List (List ℕ)) (lives : List ℕ) where
  abbrev First : ℕ → ℕ → Type 0
  First r q = IsTrue (comes_before c h remembered lives r q)

  abbrev cost : ℕ → ℕ
  cost = cost_of c h remembered lives

  abbrev waste : ℕ → ℕ
  waste = garbage c h remembered lives

  abbrev Candidates : ℕ → Type 0
  Candidates r = Contains (candidates c h remembered lives) r

  pub comes_before-any_two : (r q : ℕ) → r ≢ q → First r q ⊎ First q r
  comes_before-any_two r q ne = elim (one_of_two (cost r) (waste r) r (cost q) (waste q) q ne) [
    | inl b ↦ inl (is_before-true (cost r) (waste r) r (cost q) (waste q) q b)
    | inr b ↦ inr (is_before-true (cost q) (waste q) q (cost r) (waste r) r b)
  ]

  some_waste : (r : ℕ) → Candidates r → 0 < waste r
  some_waste r k =
      let passes = (filter_member (is_candidate c h remembered lives) (regions h) r k).1 in
      let others = (and_parts (is_ordinary (kind h r)) (not (pinned h r) && ltb 0 (waste r)) passes).1 in
      ltb-true 0 (waste r) (and_parts (not (pinned h r)) (ltb 0 (waste r)) others).1

  pub comes_before-chain : (r q s : ℕ) → Candidates r → Candidates q → Candidates s → First r q → First q s → First r s
  comes_before-chain r q s x y z a b =
      is_before-true (cost r) (waste r) r (cost s) (waste s) s
      (before_chain (cost r) (waste r) r (cost q) (waste q) q (cost s) (waste s) s (some_waste r x) (some_waste q y) (some_waste s z)
      (before (cost r) (waste r) r (cost q) (waste q) q a)
      (before (cost q) (waste q) q (cost s) (waste s) s b))

  -- the candidates put in order
  pub order_exists : (order : List ℕ) × IsOrder c h remembered lives order
  order_exists =
      let test = comes_before c h remembered lives in
      let all = candidates c h remembered lives in
      let moved = sorted_moves test all in (
        sorted test all,
        record {
          all = λ r. ((λ k. Contains-permutation (sorted test all) all r (IsPermutation-sym all (sorted test all) moved) k), (λ k. Contains-permutation all (sorted test all) r moved k));
          sorted = pairs_from_ordered First (sorted test all)
              (sorted_ordered test Candidates (λ r q x y ne. comes_before-any_two r q ne) comes_before-chain all
              (λ r i. i)
              (Ordered-from_pairs (λ r q. r ≢ q) all (apart_by_number (is_candidate c h remembered lives) h.geometry.n)));
        },
      )

  pub one_order : (xs ys : List ℕ) → IsOrder c h remembered lives xs → IsOrder c h remembered lives ys → xs ≡ ys
  one_order xs ys a b =
      same_order First (comes_before-one_way c h remembered lives) xs ys
      (Ordered-from_pairs First xs a.sorted)
      (Ordered-from_pairs First ys b.sorted)
      (λ z k. (b.all z).1 ((a.all z).0 k))
      (λ z k. (a.all z).1 ((b.all z).0 k))

  -- of the beginnings up to a length, the longest that the budget pays
  longest_up_to : (d budget : ℕ) (order : List ℕ) (n : ℕ) → n ≤ length order
      → (m : ℕ) × (m ≤ n) × (0 < m → pause_cost c h remembered lives d (take m order) ≤ budget) × ((j : ℕ) → j ≤ n → pause_cost c h remembered lives d (take j order) ≤ budget → j ≤ m)
  longest_up_to d budget order zero le = (0, omega arith, (λ some. absurd (omega arith)), (λ j within paid. within))
  longest_up_to d budget order (suc n) le =
      let r = longest_up_to d budget order n (omega arith) in
      elim (cases_lt budget (pause_cost c h remembered lives d (take (suc n) order))) [
        | inl more ↦ (
          r.0,
          omega (arith, r.1),
          r.2,
          (λ j within paid. elim (cases_order j (suc n)) [
            | inl e ↦ let same = ap (λ k. pause_cost c h remembered lives d (take k order)) e in absurd (omega arith)
            | inr o ↦ elim o [ inl lt ↦ r.3 j (omega arith) paid | inr gt ↦ absurd (omega arith) ]
          ]),
        )
        | inr pays ↦ (suc n, omega arith, (λ some. pays), (λ j within paid. within))
      ]

  pub set_exists : (d budget : ℕ) → (set : List ℕ) × IsChosen c h remembered lives d budget set
  set_exists d budget =
      let o = order_exists in
      let l = longest_up_to d budget o.0 (length o.0) (omega arith) in
      (filter (has (take l.0 o.0)) (regions h), record { order = o.0; is_order = o.1; taken = l.0; longest = record { within = l.1; paid = l.2; longest = l.3 }; rising = refl })

  one_longest : (d budget : ℕ) (order : List ℕ) (m k : ℕ) → IsLongest c h remembered lives d budget order m → IsLongest c h remembered lives d budget order k → m ≤ k
  one_longest d budget order zero k a b = omega arith
  one_longest d budget order (suc m) k a b = b.longest (suc m) a.within (a.paid (omega arith))

  pub one_set : (d budget : ℕ) (xs ys : List ℕ) → IsChosen c h remembered lives d budget xs → IsChosen c h remembered lives d budget ys → xs ≡ ys
  one_set d budget xs ys a b =
      let e : b.order ≡ a.order = one_order b.order a.order b.is_order a.is_order in
      let other : IsLongest c h remembered lives d budget a.order b.taken = subst (λ o. IsLongest c h remembered lives d budget o b.taken) e b.longest in
      let n : b.taken ≡ a.taken = le_antisymm (one_longest d budget a.order b.taken a.taken other a.longest) (one_longest d budget a.order a.taken b.taken a.longest other) in
      a.rising ∙ sym (b.rising ∙ (λ t. filter (has (take (n t) (e t))) (regions h)))

  -- the regions of a set are those of the beginning
  set_member : (d budget : ℕ) (set : List ℕ) (r : ℕ) (a : IsChosen c h remembered lives d budget set) → Contains set r → Contains (take a.taken a.order) r
  set_member d budget set r a k =
      let i : Contains (filter (has (take a.taken a.order)) (regions h)) r = subst (λ l. Contains l r) a.rising k in
      Contains-from_has (take a.taken a.order) r (filter_member (has (take a.taken a.order)) (regions h) r i).1

  pub only_candidates : (d budget : ℕ) (set : List ℕ) (r : ℕ) → IsChosen c h remembered lives d budget set → Contains set r → Candidates r
  only_candidates d budget set r a k = (a.is_order.all r).0 (taken_in a.taken a.order r (set_member d budget set r a k))

  pub none_skipped : (d budget : ℕ) (set : List ℕ) (r q : ℕ) → IsChosen c h remembered lives d budget set → Candidates r → First r q → Contains set q → Contains set r
  none_skipped d budget set r q a k b t =
      let there : Contains a.order r = (a.is_order.all r).1 k in
      let first : Contains (take a.taken a.order) r =
      kept_before First (comes_before-one_way c h remembered lives) a.taken a.order r q (Ordered-from_pairs First a.order a.is_order.sorted) there (set_member d budget set q a t) b in
      let i = Contains-filter (has (take a.taken a.order)) (regions h) r (order_within c h remembered lives a.order a.taken r a.is_order first) (has_from_contains (take a.taken a.order) r first) in
      subst (λ l. Contains l r) (sym a.rising) i

  -- the set costs what the beginning costs
  same_cost : (d budget : ℕ) (set : List ℕ) (a : IsChosen c h remembered lives d budget set) → pause_cost c h remembered lives d set ≡ pause_cost c h remembered lives d (take a.taken a.order)
  same_cost d budget set a =
      let front = take a.taken a.order in
      let up = sorted ltb front in
      let moved = sorted_moves ltb front in
      let Any : ℕ → Type 0 = λ r. Unit {0} in
      let rises : Ordered (λ r q. IsTrue (ltb r q)) up =
      sorted_ordered ltb Any (λ r q x y ne. either r q ne) (λ r q s x y z e f. lt-ltb r s (omega (arith, ltb-true r q e, ltb-true q s f)))
      front (λ r i. tt) (Ordered-from_pairs (λ r q. r ≢ q) front (order_apart c h remembered lives a.order a.taken a.is_order)) in
      let is : up ≡ set = rising_is h front up moved (weaker up rises) (λ r i. order_within c h remembered lives a.order a.taken r a.is_order i) ∙ sym a.rising in
      let sums = sum_by-IsPermutation cost front up moved in
      omega (arith, sums, ap (λ s. sum (map cost s)) is, sum-map cost front, sum-map cost up)
    where
      either : (r q : ℕ) → r ≢ q → IsTrue (ltb r q) ⊎ IsTrue (ltb q r)
      either r q ne = elim (cases_order r q) [
        | inl e ↦ absurd (ne e)
        | inr o ↦ elim o [ inl lt ↦ inl (lt-ltb r q lt) | inr gt ↦ inr (lt-ltb q r gt) ]
      ]

      weaker : (xs : List ℕ) → Ordered (λ r q. IsTrue (ltb r q)) xs → Ordered (λ r q. r < q) xs
      weaker [] o = tt
      weaker (x ∷ xs) o = ((λ y i. ltb-true x y (o.0 y i)), weaker xs o.1)

  pub within_budget : (d budget : ℕ) (set : List ℕ) → IsChosen c h remembered lives d budget set → 0 < length set → pause_cost c h remembered lives d set ≤ budget
  within_budget d budget set a some = omega (arith, same_cost d budget set a, a.longest.paid (taken_some a.taken a.order set a.rising some))
    where
      some_taken : (n : ℕ) (order : List ℕ) (x : ℕ) → Contains (take n order) x → 0 < n
      some_taken zero order x i = absurd (omega (arith, i.1))
      some_taken (suc n) order x i = omega arith

      taken_some : (n : ℕ) (order set : List ℕ) → set ≡ filter (has (take n order)) (regions h) → 0 < length set → 0 < n
      taken_some n order [] e lt = absurd (omega arith)
      taken_some n order (x ∷ set) e lt =
          let i : Contains (filter (has (take n order)) (regions h)) x = subst (λ l. Contains l x) e (Contains-first x set) in
          some_taken n order x (Contains-from_has (take n order) x (filter_member (has (take n order)) (regions h) x i).1)
