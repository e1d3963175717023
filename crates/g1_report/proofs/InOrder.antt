-- Lists of names in the order of their numbers.
use Rattle.std.proofs.Common.{◌≡◌, ℕ, zero, suc, ◌+◌, ◌<◌, ◌≤◌, List, [], ◌∷◌, ◌++◌, length, map, get_or, sym, ap, subst, arith, AllPairs}
use Rattle.std.specs.Prelude.{IfSome}
use Rattle.std.specs.Borrow.{Bor}
use Rattle.std.specs.List.Sorted.{IsNonDecreasingBy}
use Rattle.g1_report.specs.Wording.{Called}
use Rattle.g1_report.specs.Answer.{IsByNumber, CountsFrom, names_or_none}

module _ {X : Type 0} where
  -- each number is at least the one before it, and the first one at least n
  abbrev pub RisesFrom : ℕ → List (ℕ × X) → Type 0
  RisesFrom n [] = Unit {0}
  RisesFrom n (e ∷ es) = (n ≤ e.0) × RisesFrom e.0 es

  pub rises_lower : (m n : ℕ) (l : List (ℕ × X)) → m ≤ n → RisesFrom n l → RisesFrom m l
  rises_lower m n [] le r = tt
  rises_lower m n (e ∷ es) le r = (omega (arith, le, r.0), r.1)

  least : (n : ℕ) (l : List (ℕ × X)) (j : ℕ) (d : ℕ × X) → RisesFrom n l → j < length l → n ≤ (get_or l j d).0
  least n [] j d r lt = absurd (omega (arith, lt))
  least n (e ∷ es) zero d r lt = r.0
  least n (e ∷ es) (suc j) d r lt =
      let up : e.0 ≤ (get_or es j d).0 = least e.0 es j d r.1 (omega (arith, lt)) in
      omega (arith, up, r.0)

  rising_at : (n : ℕ) (l : List (ℕ × X)) → RisesFrom n l → (i j : ℕ) (d : ℕ × X) → i ≤ j → j < length l → (get_or l i d).0 ≤ (get_or l j d).0
  rising_at n [] r i j d le lt = absurd (omega (arith, lt))
  rising_at n (e ∷ es) r zero zero d le lt = omega arith
  rising_at n (e ∷ es) r zero (suc j) d le lt = least e.0 es j d r.1 (omega (arith, lt))
  rising_at n (e ∷ es) r (suc i) zero d le lt = absurd (omega (arith, le))
  rising_at n (e ∷ es) r (suc i) (suc j) d le lt = rising_at e.0 es r.1 i j d (omega (arith, le)) (omega (arith, lt))

  pub rising : (n : ℕ) (l : List (ℕ × X)) → RisesFrom n l → IsNonDecreasingBy (λ (e : ℕ × X). e.0) l
  rising n l r = λ i j d le lt. rising_at n l r i j d le lt

-- the numbers of another list that rises
pub of_numbers : {X Y : Type 0} (n : ℕ) (l : List (ℕ × X)) (m : List (ℕ × Y)) → map (λ (e : ℕ × X). e.0) l ≡ map (λ (e : ℕ × Y). e.0) m → RisesFrom n m → RisesFrom n l
of_numbers n [] m e r = tt
of_numbers n (x ∷ xs) [] e r = absurd (omega (arith, ap length e))
of_numbers n (x ∷ xs) (y ∷ ys) e r =
    let head : x.0 ≡ y.0 = ap (λ zs. get_or zs 0 0) e in
    (omega (arith, head, r.0), rises_lower x.0 y.0 xs (omega (arith, head)) (of_numbers y.0 xs ys (ap (λ zs. elim zs [ [] ↦ [] | z ∷ rest ↦ rest ]) e) r.1))

-- elements each of which has a greater number than those before it
pub of_pairs : {X : Type 0} (n : ℕ) (os : List (X × ℕ)) → AllPairs (λ (o : X × ℕ) (p : X × ℕ). o.1 < p.1) os → ((i : ℕ) (d : X × ℕ) → i < length os → n ≤ (get_or os i d).1)
    → RisesFrom n (map (λ (o : X × ℕ). (o.1, o.0)) os)
of_pairs n [] r low = tt
of_pairs {X} n (o ∷ os) r low = (
  low 0 o (omega arith),
  of_pairs o.1 os (λ i j d lt len. r (suc i) (suc j) d (omega (arith, lt)) (omega (arith, len)))
      (λ i d lt.
      let below : o.1 < (get_or os i d).1 = r 0 (suc i) d (omega arith) (omega (arith, lt)) in
      omega (arith, below)),
)

-- numbers that count up
pub counts_rise : (n : ℕ) (l : Called) → CountsFrom n l → RisesFrom n l
counts_rise n [] c = tt
counts_rise n (x ∷ xs) c = (omega (arith, c.0), rises_lower x.0 (n + 1) xs (omega (arith, c.0)) (counts_rise (n + 1) xs c.1))

-- one more name
counts_push : (n k : ℕ) (l : Called) (x : ℕ × Bor (List ℕ)) → CountsFrom n l → k ≡ n + length l → x.0 ≡ k → CountsFrom n (l ++ x ∷ [])
counts_push n k [] x c e f = (omega (arith, e, f), tt)
counts_push n k (y ∷ ys) x c e f = (c.0, counts_push (n + 1) k ys x c.1 (omega (arith, e)) f)

pub counts_more : (old new : Called) (x : ℕ × Bor (List ℕ)) → CountsFrom 0 old → new ≡ old ++ x ∷ [] → x.0 ≡ length old → CountsFrom 0 new
counts_more old new x c e f = subst (CountsFrom 0) (sym e) (counts_push 0 (length old) old x c (omega arith) f)

pub counted : (l : Called) → CountsFrom 0 l → IsByNumber l
counted l c = rising 0 l (counts_rise 0 l c)

pub none_in_order : IsByNumber []
none_in_order = rising 0 [] tt

pub of_none : (l : Called) → l ≡ [] → IsByNumber l
of_none l e = subst IsByNumber (sym e) none_in_order

pub none_counted : (l : Called) → l ≡ [] → CountsFrom 0 l
none_counted l e = subst (CountsFrom 0) (sym e) tt

-- the names that stand for stale words, if there are any
pub names_in_order : (l : Called) → IsByNumber l → IfSome (names_or_none l) IsByNumber
names_in_order [] r = tt
names_in_order (e ∷ es) r = r
