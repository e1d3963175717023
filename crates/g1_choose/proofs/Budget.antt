-- What a budget buys of an order.
use Rattle.std.proofs.Common.{◌≡◌, ℕ, zero, suc, ◌+◌, ◌*◌, ◌<◌, ◌≤◌, inl, inr, List, [], ◌∷◌, map, take, length, get_or, sum, sum_by, All, refl, sym, ◌∙◌, ap, subst, arith}
use Rattle.std.specs.List.Sorted.{IsPermutation}
use Rattle.std.proofs.lemmas.Bool.{cases_lt}
use Rattle.std.proofs.lemmas.List.{length-map, take-map}
use Rattle.std.proofs.lemmas.List.Elements.{All-head, All-tail}
use Rattle.std.proofs.lemmas.List.Sums.{sum_by-cons, sum_by_more, sum-map}
use Rattle.g1_words.specs.Heap.{Heap}
use Rattle.g1_choose.specs.declared.candidate.Candidate.{Candidate}
use Rattle.g1_choose.specs.declared.parameters.Cost.{Cost}
use Rattle.g1_choose.specs.declared.buying.Purchase.{Purchase}
use Rattle.g1_choose.specs.Choice.{cost_of, pause_cost, IsLongest, IsChosen}
use Rattle.g1_choose.specs.Candidate.{TellsRegion, IsCandidateOrder}
use Rattle.g1_choose.specs.Bought.{first_cost, IsPaid, IsPurchase, AreRegionsOf}
use Rattle.g1_choose.proofs.Rising.{risen, order_apart, order_within}

sum_front : {A : Type 0} (f : A → ℕ) (xs : List A) (i j : ℕ) → i ≤ j → sum_by f (take i xs) ≤ sum_by f (take j xs)
sum_front f xs zero j le = omega arith
sum_front f xs (suc i) zero le = absurd (omega arith)
sum_front f [] (suc i) (suc j) le = omega arith
sum_front f (x ∷ xs) (suc i) (suc j) le = omega (arith, sum_front f xs i j (omega arith), sum_by-cons f x (take i xs), sum_by-cons f x (take j xs))

-- a longer beginning costs no less
pub first_cost-front : (c : Cost) (d : ℕ) (xs : List Candidate) (i j : ℕ) → i ≤ j → first_cost c d xs i ≤ first_cost c d xs j
first_cost-front c d xs i j le =
    let cost : Candidate → ℕ = λ x. x.cost in
    omega (arith, sum_front cost xs i j le, sum-map cost (take i xs), sum-map cost (take j xs))

-- one more candidate costs its cost more
pub first_cost-more : (c : Cost) (d : ℕ) (xs : List Candidate) (i : ℕ) (x : Candidate) → i < length xs → first_cost c d xs (i + 1) ≡ first_cost c d xs i + (get_or xs i x).cost
first_cost-more c d xs i x lt =
    let cost : Candidate → ℕ = λ y. y.cost in
    omega (arith, sum_by_more cost xs i x lt, sum-map cost (take i xs), sum-map cost (take (i + 1) xs))

-- where what rises is beyond the budget at one more, nothing longer is within it
longest_by : (f : ℕ → ℕ) (n m budget : ℕ) → ((i j : ℕ) → i ≤ j → f i ≤ f j) → (m < n → budget < f (m + 1)) → (j : ℕ) → j ≤ n → f j ≤ budget → j ≤ m
longest_by f n m budget rises stop j within paid = elim (cases_lt m j) [
  | inl lt ↦ let e = rises (m + 1) j (omega arith) in let s = stop (omega arith) in absurd (omega arith)
  | inr ge ↦ ge
]

-- a walk along the order that stopped behind i candidates, at the end or where the next one is beyond the budget
pub bought_by_walk : (c : Cost) (d budget i : ℕ) (xs : List Candidate) (x : Candidate) (p : Purchase) → i ≤ length xs → p.taken ≡ i → p.total ≡ first_cost c d xs i
    → (0 < i → p.total ≤ budget) → (i < length xs → budget < p.total + (get_or xs i x).cost) → IsPurchase c d budget xs p
bought_by_walk c d budget i xs x p le et ec pays stop =
    let at : first_cost c d xs p.taken ≡ first_cost c d xs i = ap (first_cost c d xs) et in
    record {
      paid = record {
        within = omega (arith, le, et);
        paid = λ some. omega (arith, pays (omega (arith, some, et)), at, ec);
        longest = λ j within paid.
            let most = longest_by (first_cost c d xs) (length xs) i budget (first_cost-front c d xs) (λ lt. omega (arith, stop lt, first_cost-more c d xs i x lt, ec)) j within paid in
            omega (arith, most, et);
      };
      total = ec ∙ sym at;
    }

module _ (c : Cost) (h : Heap) (remembered : List (List ℕ)) (lives : List ℕ) where
  -- a longer beginning costs no less
  pub pause_cost-front : (d : ℕ) (order : List ℕ) (i j : ℕ) → i ≤ j → pause_cost c h remembered lives d (take i order) ≤ pause_cost c h remembered lives d (take j order)
  pause_cost-front d order i j le =
      let cost = cost_of c h remembered lives in
      omega (arith, sum_front cost order i j le, sum-map cost (take i order), sum-map cost (take j order))

  -- a beginning that the budget pays, and that can't take one more, is the longest
  pub longest_from_walk : (d budget : ℕ) (order : List ℕ) (m : ℕ) → m ≤ length order → (0 < m → pause_cost c h remembered lives d (take m order) ≤ budget)
      → (m < length order → budget < pause_cost c h remembered lives d (take (m + 1) order)) → IsLongest c h remembered lives d budget order m
  longest_from_walk d budget order m le pays stop =
      record {
        within = le;
        paid = pays;
        longest = longest_by (λ k. pause_cost c h remembered lives d (take k order)) (length order) m budget (pause_cost-front d order) stop;
      }

  -- the costs of a beginning, as the candidates tell them
  told_costs : (m : ℕ) (xs : List Candidate) → All (TellsRegion c h remembered lives) xs → map (cost_of c h remembered lives) (take m (map (λ x. x.region) xs)) ≡ map (λ x. x.cost) (take m xs)
  told_costs zero xs t = refl
  told_costs (suc m) [] t = refl
  told_costs (suc m) (x ∷ xs) t =
      let first : x.cost ≡ cost_of c h remembered lives x.region = (All-head (TellsRegion c h remembered lives) x xs t).cost in
      let rest = told_costs m xs (All-tail (TellsRegion c h remembered lives) x xs t) in
      λ i. sym first i ∷ rest i

  -- the cost of a pause that collects a beginning, as the candidates tell it
  pub pause_cost-told : (d m : ℕ) (xs : List Candidate) → All (TellsRegion c h remembered lives) xs
      → pause_cost c h remembered lives d (take m (map (λ x. x.region) xs)) ≡ first_cost c d xs m
  pause_cost-told d m xs t = ap (λ costs. c.fixed + c.dirty * d + sum costs) (told_costs m xs t)

  -- the longest beginning, as the candidates tell it
  pub longest_from_paid : (d budget m : ℕ) (xs : List Candidate) → All (TellsRegion c h remembered lives) xs → IsPaid c d budget xs m
      → IsLongest c h remembered lives d budget (map (λ x. x.region) xs) m
  longest_from_paid d budget m xs t p =
      let count = length-map xs (λ (x : Candidate). x.region) in
      record {
        within = omega (arith, p.within, count);
        paid = λ some. omega (arith, p.paid some, pause_cost-told d m xs t);
        longest = λ j within paid. p.longest j (omega (arith, within, count)) (omega (arith, paid, pause_cost-told d j xs t));
      }

  -- the regions of what the budget pays, rising, are the set that it buys
  pub chosen_from_paid : (d budget m : ℕ) (xs : List Candidate) (set : List ℕ) → IsCandidateOrder c h remembered lives xs → IsPaid c d budget xs m
      → AreRegionsOf (take m xs) set → IsChosen c h remembered lives d budget set
  chosen_from_paid d budget m xs set o p t =
      let numbers : List ℕ = map (λ x. x.region) xs in
      let moved : IsPermutation (take m numbers) set = subst (λ ys. IsPermutation ys set) (sym (take-map (λ (x : Candidate). x.region) m xs)) t.same in
      record {
        order = numbers;
        is_order = o.order;
        taken = m;
        longest = longest_from_paid d budget m xs o.tells p;
        rising = risen h (take m numbers) set moved t.rising (order_apart c h remembered lives numbers m o.order)
            (λ r i. order_within c h remembered lives numbers m r o.order i);
      }
