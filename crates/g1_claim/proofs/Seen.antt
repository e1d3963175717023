-- What a seat that has seen some offers finds at a place.
use Rattle.std.proofs.Common.{◌≡◌, ℕ, ◌<◌, ◌≤◌, Bool, true, false, cond, ◌&&◌, eqb, min, List, [], ◌∷◌, ◌++◌, sym, refl, ap, ◌∙◌, subst, ⊎_elim, inl, inr, ◌⊎◌, arith, eq-eqb, ne_eqb, append_assoc}
use Rattle.std.proofs.lemmas.Bool.{cases_lt}
use mathlib.Core.Logic.{dite}
use native.Mathlib.Decide.{ℕ_discrete}
use Rattle.g1_claim.specs.declared.rule.Offer.{Offer}
use Rattle.g1_claim.specs.Claims.{empty, least_rank, one_if, times_won}
use Rattle.g1_claim.specs.History.{History, Begins, least_in, times_in, bids, AreSeen}
use Rattle.g1_claim.proofs.History.{least_in_top}
use Rattle.g1_claim.proofs.Totals.{least_rank_top, none_below}

-- a rank that was offered at a place is not below the least there
least_of_times : (p r : ℕ) (log : History) → 0 < times_in p r log → least_in p log ≤ r
least_of_times p r [] h = absurd (omega (arith, h))
least_of_times p r (b ∷ log) h = dite (ℕ_discrete b.0 p)
    (λ e. let k : least_in p (b ∷ log) ≡ min b.1 (least_in p log) = ap (λ (t : Bool). min (cond t b.1 empty) (least_in p log)) (eq-eqb b.0 p e) in
    dite (ℕ_discrete b.1 r)
    (λ f. omega (arith, k, f))
    (λ ne. let z : one_if (eqb b.0 p && eqb b.1 r) ≡ 0 = subst (λ (t : Bool). one_if (eqb b.0 p && t) ≡ 0) (sym (ne_eqb b.1 r ne))
    (elim (eqb b.0 p) as (λ (t : Bool). one_if (t && false) ≡ 0) [ true ↦ refl | false ↦ refl ]) in
    let rest = least_of_times p r log (omega (arith, h, z)) in omega (arith, k, rest)))
    (λ ne. let z : one_if (eqb b.0 p && eqb b.1 r) ≡ 0 = subst (λ (t : Bool). one_if (t && eqb b.1 r) ≡ 0) (sym (ne_eqb b.0 p ne)) refl in
    let k : least_in p (b ∷ log) ≡ min empty (least_in p log) = ap (λ (t : Bool). min (cond t b.1 empty) (least_in p log)) (ne_eqb b.0 p ne) in
    let rest = least_of_times p r log (omega (arith, h, z)) in omega (arith, k, rest))

-- nobody has offered at the place, or the least rank there was offered
least_is_one : (p : ℕ) (os : List Offer) → (least_rank p os ≡ empty) ⊎ (0 < times_in p (least_rank p os) (bids os))
least_is_one p [] = inl refl
least_is_one p (o ∷ os) = dite (ℕ_discrete o.place p)
    (λ e. let k : least_rank p (o ∷ os) ≡ min o.rank (least_rank p os) = ap (λ (t : Bool). min (cond t o.rank empty) (least_rank p os)) (eq-eqb o.place p e) in
    elim (cases_lt (least_rank p os) o.rank) [
      | inl lt ↦ later (omega (arith, k, lt)) (least_is_one p os)
      | inr ge ↦ let same : o.rank ≡ least_rank p (o ∷ os) = omega (arith, k, ge) in
          let z : one_if (eqb o.place p && eqb o.rank (least_rank p (o ∷ os))) ≡ 1 =
          subst (λ (t : Bool × Bool). one_if (t.0 && t.1) ≡ 1) (λ i. (sym (eq-eqb o.place p e) i, sym (eq-eqb o.rank (least_rank p (o ∷ os)) same) i)) refl in inr (omega (arith, z))
    ])
    (λ ne. let k : least_rank p (o ∷ os) ≡ min empty (least_rank p os) = ap (λ (t : Bool). min (cond t o.rank empty) (least_rank p os)) (ne_eqb o.place p ne) in
    let top = least_rank_top p os in later (omega (arith, k, top)) (least_is_one p os))
  where
    later : least_rank p (o ∷ os) ≡ least_rank p os → (least_rank p os ≡ empty) ⊎ (0 < times_in p (least_rank p os) (bids os))
        → (least_rank p (o ∷ os) ≡ empty) ⊎ (0 < times_in p (least_rank p (o ∷ os)) (bids (o ∷ os)))
    later s r = ⊎_elim (λ (a : least_rank p os ≡ empty). inl (s ∙ a))
        (λ (b : 0 < times_in p (least_rank p os) (bids os)).
        let c : 0 < times_in p (least_rank p (o ∷ os)) (bids os) = subst (λ (k : ℕ). 0 < times_in p k (bids os)) (sym s) b in inr (omega (arith, c)))
        r

-- no word is above the ranks of offers that were seen
pub seen_least : (p : ℕ) (os : List Offer) (seen : History) → AreSeen os seen → least_in p seen ≤ least_rank p os
seen_least p os seen are =
    ⊎_elim (λ (e : least_rank p os ≡ empty). let top = least_in_top p seen in omega (arith, e, top))
    (λ (h : 0 < times_in p (least_rank p os) (bids os)). let a = are p (least_rank p os) in least_of_times p (least_rank p os) seen (omega (arith, a, h)))
    (least_is_one p os)

-- a word that is empty or a rank that has won, and is not above the least of a history in which all these offers are, is the least rank of these offers
pub word_is_least : (p v : ℕ) (os : List Offer) (seen : History) → AreSeen os seen → v ≤ least_in p seen → (v ≡ empty) ⊎ (times_won p v os ≡ 1) → v ≡ least_rank p os
word_is_least p v os seen are low won =
    let high = seen_least p os seen are in
    ⊎_elim (λ (e : v ≡ empty). let top = least_rank_top p os in omega (arith, e, top, low, high))
    (λ (one : times_won p v os ≡ 1). elim (cases_lt v (least_rank p os)) [
      | inl lt ↦ absurd (let z = none_below p v os lt in omega (arith, z, one))
      | inr ge ↦ omega (arith, ge, low, high)
    ])
    won

-- who has seen a beginning of what another one has seen, which is a beginning itself
pub begins_trans : (a b c : History) → Begins c b → Begins b a → Begins c a
begins_trans a b c x y = (y.0 ++ x.0, x.1 ∙ ap (λ (l : History). l ++ x.0) y.1 ∙ append_assoc a y.0 x.0)
