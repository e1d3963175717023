-- Totals and least values over the views of all seats.
use Rattle.std.proofs.Common.{◌≡◌, ℕ, zero, suc, ◌+◌, ◌<◌, ◌≤◌, Bool, cond, ◌&&◌, eqb, min, List, [], ◌∷◌, ◌++◌, set, sym, refl, ap, subst, ⊎_elim, inl, inr, arith, eq-eqb, ne_eqb}
use mathlib.Core.Logic.{dite}
use mathlib.Core.Option.{some, some-injective, some-ne-none}
use native.Mathlib.Decide.{ℕ_discrete}
use lib.ListN.{get_elem?}
use Rattle.g1_claim.specs.declared.rule.Offer.{Offer}
use Rattle.g1_claim.specs.declared.rule.Sight.{Sight}
use Rattle.g1_claim.specs.declared.rule.Hand.{Hand}
use Rattle.g1_claim.specs.Claims.{empty, least_rank, least_value, one_if, times_offered, times_won}
use Rattle.g1_claim.specs.Rule.{hands_total, lowest, wins_of, least_offered}
use Rattle.g1_claim.proofs.Kept.{AreBacked}

-- the lists of one seat

pub least_rank_top : (p : ℕ) (os : List Offer) → least_rank p os ≤ empty
least_rank_top p [] = omega arith
least_rank_top p (o ∷ os) = let r = least_rank_top p os in omega arith

pub least_rank-append : (p : ℕ) (xs ys : List Offer) → least_rank p (xs ++ ys) ≡ min (least_rank p xs) (least_rank p ys)
least_rank-append p [] ys = let t = least_rank_top p ys in omega arith
least_rank-append p (x ∷ xs) ys = let r = least_rank-append p xs ys in let n : ℕ = cond (eqb x.place p) x.rank empty in omega arith

pub least_value_top : (p : ℕ) (ss : List Sight) → least_value p ss ≤ empty
least_value_top p [] = omega arith
least_value_top p (s ∷ ss) = let r = least_value_top p ss in omega arith

pub least_value-append : (p : ℕ) (xs ys : List Sight) → least_value p (xs ++ ys) ≡ min (least_value p xs) (least_value p ys)
least_value-append p [] ys = let t = least_value_top p ys in omega arith
least_value-append p (x ∷ xs) ys = let r = least_value-append p xs ys in omega arith

pub times_offered-append : (p : ℕ) (xs ys : List Offer) → times_offered p (xs ++ ys) ≡ times_offered p xs + times_offered p ys
times_offered-append p [] ys = omega arith
times_offered-append p (x ∷ xs) ys = let r = times_offered-append p xs ys in omega arith

pub times_won-append : (p q : ℕ) (xs ys : List Offer) → times_won p q (xs ++ ys) ≡ times_won p q xs + times_won p q ys
times_won-append p q [] ys = omega arith
times_won-append p q (x ∷ xs) ys = let r = times_won-append p q xs ys in omega arith

-- no rank below the least one has won
below_one : (o : Offer) (p q : ℕ) → q < cond (eqb o.place p) o.rank empty → one_if (eqb o.place p && (eqb o.rank q && o.won)) ≡ 0
below_one o p q h = dite (ℕ_discrete o.place p)
    (λ e. let t = eq-eqb o.place p e in let less : q < o.rank = subst (λ (b : Bool). q < cond b o.rank empty) t h in
    subst (λ (b : Bool). one_if (b && (eqb o.rank q && o.won)) ≡ 0) (sym t)
    (subst (λ (b : Bool). one_if (b && o.won) ≡ 0) (sym (ne_eqb o.rank q (λ (same : o.rank ≡ q). absurd (omega arith)))) refl))
    (λ ne. subst (λ (b : Bool). one_if (b && (eqb o.rank q && o.won)) ≡ 0) (sym (ne_eqb o.place p ne)) refl)

pub none_below : (p q : ℕ) (os : List Offer) → q < least_rank p os → times_won p q os ≡ 0
none_below p q [] h = refl
none_below p q (o ∷ os) h = let n : ℕ = cond (eqb o.place p) o.rank empty in let one = below_one o p q (omega arith) in let r = none_below p q os (omega arith) in omega arith

-- totals

module _ (f : Hand → ℕ) where
  pub hands_total-set : (l : List Hand) (i : ℕ) (v w : Hand) → get_elem? l i ≡ some v → hands_total f (set l i w) + f v ≡ hands_total f l + f w
  hands_total-set [] i v w e = absurd (some-ne-none v (sym e))
  hands_total-set (x ∷ xs) zero v w e = let is : f x ≡ f v = ap f (some-injective x v e) in omega arith
  hands_total-set (x ∷ xs) (suc i) v w e = let r = hands_total-set xs i v w e in omega arith

  pub hands_total-snoc : (l : List Hand) (v : Hand) → hands_total f (l ++ v ∷ []) ≡ hands_total f l + f v
  hands_total-snoc [] v = omega arith
  hands_total-snoc (x ∷ xs) v = let r = hands_total-snoc xs v in omega arith

  pub total_le : (l : List Hand) (i : ℕ) (v : Hand) → get_elem? l i ≡ some v → f v ≤ hands_total f l
  total_le [] i v e = absurd (some-ne-none v (sym e))
  total_le (x ∷ xs) zero v e = let is : f x ≡ f v = ap f (some-injective x v e) in omega arith
  total_le (x ∷ xs) (suc i) v e = let r = total_le xs i v e in omega arith

  pub lowest_top : (l : List Hand) → lowest f l ≤ empty
  lowest_top [] = omega arith
  lowest_top (x ∷ xs) = let r = lowest_top xs in omega arith

  pub lowest_le : (l : List Hand) (i : ℕ) (v : Hand) → get_elem? l i ≡ some v → lowest f l ≤ f v
  lowest_le [] i v e = absurd (some-ne-none v (sym e))
  lowest_le (x ∷ xs) zero v e = let is : f x ≡ f v = ap f (some-injective x v e) in omega arith
  lowest_le (x ∷ xs) (suc i) v e = let r = lowest_le xs i v e in omega arith

  -- the least after a view has taken in n
  pub lowest-set : (l : List Hand) (i : ℕ) (v w : Hand) (n : ℕ) → get_elem? l i ≡ some v → f w ≡ min (f v) n → lowest f (set l i w) ≡ min (lowest f l) n
  lowest-set [] i v w n e h = absurd (some-ne-none v (sym e))
  lowest-set (x ∷ xs) zero v w n e h = let is : f x ≡ f v = ap f (some-injective x v e) in omega arith
  lowest-set (x ∷ xs) (suc i) v w n e h = let r = lowest-set xs i v w n e h in omega arith

  -- the least after a view was emptied
  pub lowest-set_top : (l : List Hand) (i : ℕ) (v w : Hand) → get_elem? l i ≡ some v → f w ≡ empty → lowest f l ≡ min (lowest f (set l i w)) (f v)
  lowest-set_top [] i v w e h = absurd (some-ne-none v (sym e))
  lowest-set_top (x ∷ xs) zero v w e h = let is : f x ≡ f v = ap f (some-injective x v e) in let t = lowest_top xs in omega arith
  lowest-set_top (x ∷ xs) (suc i) v w e h = let r = lowest-set_top xs i v w e h in omega arith

  pub lowest-snoc : (l : List Hand) (v : Hand) → lowest f (l ++ v ∷ []) ≡ min (lowest f l) (f v)
  lowest-snoc [] v = omega arith
  lowest-snoc (x ∷ xs) v = let r = lowest-snoc xs v in omega arith

abbrev pub shares_of : Hand → ℕ
shares_of v = v.shares

-- a seat that has all shares is alone
module _ (f : Hand → ℕ) (n : ℕ) where
  abbrev Rests : List Hand → Type 0
  Rests l = (k : ℕ) (u : Hand) → get_elem? l k ≡ some u → u.shares ≡ 0 → f u ≡ n

  total_none : (l : List Hand) → n ≡ 0 → Rests l → hands_total shares_of l ≡ 0 → hands_total f l ≡ 0
  total_none [] z r h = refl
  total_none (x ∷ xs) z r h = let a = r 0 x refl (omega arith) in let b = total_none xs z (λ k u e s. r (suc k) u e s) (omega arith) in omega arith

  pub total_alone : (l : List Hand) (i : ℕ) (v : Hand) → get_elem? l i ≡ some v → n ≡ 0 → Rests l → hands_total shares_of l ≡ v.shares → hands_total f l ≡ f v
  total_alone [] i v e z r h = absurd (some-ne-none v (sym e))
  total_alone (x ∷ xs) zero v e z r h = let is : f x ≡ f v = ap f (some-injective x v e) in let part : x.shares ≡ v.shares = ap shares_of (some-injective x v e) in
      let b = total_none xs z (λ k u e' s. r (suc k) u e' s) (omega arith) in omega arith
  total_alone (x ∷ xs) (suc i) v e z r h = let le = total_le shares_of xs i v e in let a = r 0 x refl (omega arith) in
      let b = total_alone xs i v e z (λ k u e' s. r (suc k) u e' s) (omega arith) in omega arith

  lowest_none : (l : List Hand) → n ≡ empty → Rests l → hands_total shares_of l ≡ 0 → lowest f l ≡ empty
  lowest_none [] z r h = refl
  lowest_none (x ∷ xs) z r h = let a = r 0 x refl (omega arith) in let b = lowest_none xs z (λ k u e s. r (suc k) u e s) (omega arith) in omega arith

  pub lowest_alone : (l : List Hand) (i : ℕ) (v : Hand) → get_elem? l i ≡ some v → n ≡ empty → f v ≤ empty → Rests l → hands_total shares_of l ≡ v.shares → lowest f l ≡ f v
  lowest_alone [] i v e z t r h = absurd (some-ne-none v (sym e))
  lowest_alone (x ∷ xs) zero v e z t r h = let is : f x ≡ f v = ap f (some-injective x v e) in let part : x.shares ≡ v.shares = ap shares_of (some-injective x v e) in
      let b = lowest_none xs z (λ k u e' s. r (suc k) u e' s) (omega arith) in omega arith
  lowest_alone (x ∷ xs) (suc i) v e z t r h = let le = total_le shares_of xs i v e in let a = r 0 x refl (omega arith) in
      let b = lowest_alone xs i v e z t (λ k u e' s. r (suc k) u e' s) (omega arith) in omega arith

-- no rank below the least one of all seats has won
pub none_below_all : (p q : ℕ) (l : List Hand) → q < least_offered p l → wins_of p q l ≡ 0
none_below_all p q [] h = refl
none_below_all p q (x ∷ xs) h = let a = none_below p q x.offers (omega arith) in let b = none_below_all p q xs (omega arith) in omega arith

-- sights stay backed where wins stay
pub backed_on : (ss : List Sight) (l m : List Hand) → ((p q : ℕ) → wins_of p q l ≡ 1 → wins_of p q m ≡ 1) → AreBacked ss l → AreBacked ss m
backed_on [] l m h b = tt
backed_on (s ∷ ss) l m h b = (⊎_elim (λ e. inl e) (λ w. inr (h s.place s.value w)) b.0, backed_on ss l m h b.1)

pub backed-append : (xs ys : List Sight) (l : List Hand) → AreBacked xs l → AreBacked ys l → AreBacked (xs ++ ys) l
backed-append [] ys l a b = b
backed-append (x ∷ xs) ys l a b = (a.0, backed-append xs ys l a.1 b)
