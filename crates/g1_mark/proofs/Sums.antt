-- Sizes of objects, added up.
use Rattle.std.proofs.Common.{◌≡◌, ◌≢◌, ◌≤◌, ◌<◌, ℕ, ◌+◌, Bool, true, false, cond, ◌||◌, List, [], ◌∷◌, ◌++◌, filter, flat_map, sum_by, arith, refl, ap, subst, ◌∙◌, eqb, eqb-true, eq-eqb, Contains, zero, suc}
use Rattle.std.proofs.lemmas.List.Sums.{sum_by-cons}
use Rattle.g1_words.specs.declared.object.Object.{Object}
use Rattle.g1_words.specs.Lists.{has}
use Rattle.g1_words.proofs.Members.{Contains-from_has}
use Rattle.g1_words.proofs.Ordered.{Ordered}
use Rattle.g1_words.proofs.Rising.{IsBefore}
use Rattle.g1_words.proofs.Lists.{Ordered-append_right, Ordered-append_left, has_more}

abbrev pub sizes : List Object → ℕ
sizes os = sum_by (λ o. o.size) os

pub ordered_part : {A B : Type 0} (R : B → B → Type 0) (f : A → List B) (xs : List A) (x : A) → Ordered R (flat_map f xs) → Contains xs x → Ordered R (f x)
ordered_part R f [] x o i = absurd (omega (arith, i.1))
ordered_part R f (y ∷ xs) x o (zero, b, e) = subst (λ z. Ordered R (f z)) e (Ordered-append_left R (f y) (flat_map f xs) o)
ordered_part R f (y ∷ xs) x o (suc k, b, e) = ordered_part R f xs x (Ordered-append_right R (f y) (flat_map f xs) o) (k, omega (arith, b), e)

pub size_kept : (o : Object) (os : List Object) (b : Bool) → sizes (cond b (o ∷ os) os) ≡ cond b o.size 0 + sizes os
size_kept o os true = sum_by-cons (λ (q : Object). q.size) o os
size_kept o os false = omega arith

-- objects one after another take no more words than there are
pub sizes_fit : (p : Object → Bool) (lo bound : ℕ) (os : List Object) → Ordered IsBefore os → ((o : Object) → Contains os o → lo ≤ o.at) →
    ((o : Object) → Contains os o → o.at + o.size ≤ bound) → lo ≤ bound → lo + sizes (filter p os) ≤ bound
sizes_fit p lo bound [] ord low high le = omega (arith, le)
sizes_fit p lo bound (o ∷ os) ord low high le =
    let rest = sizes_fit p (o.at + o.size) bound os ord.1 ord.0 (λ q i. high q (suc i.0, omega (arith, i.1), i.2)) (high o (zero, omega arith, refl)) in
    let first = low o (zero, omega arith, refl) in
    let kept = size_kept o (filter p os) (p o) in
    let few : cond (p o) o.size 0 ≤ o.size = at_most (p o) o.size in
    omega (arith, rest, first, kept, few)
  where
    at_most : (b : Bool) (n : ℕ) → cond b n 0 ≤ n
    at_most true n = omega arith
    at_most false n = omega arith

one_of : (v : List ℕ) (a n x : ℕ) (b c : Bool) → (Contains v a → ⊥) → has v x ≡ b → eqb x a ≡ c → cond (b || c) n 0 ≡ cond b n 0 + cond c n 0
one_of v a n x true true d e f = absurd (d (subst (Contains v) (eqb-true x a f) (Contains-from_has v x e)))
one_of v a n x true false d e f = omega arith
one_of v a n x false true d e f = omega arith
one_of v a n x false false d e f = omega arith

pub sizes_more : (v : List ℕ) (a : ℕ) (os : List Object) → (Contains v a → ⊥)
    → sizes (filter (λ o. has (v ++ a ∷ []) o.at) os) ≡ sizes (filter (λ o. has v o.at) os) + sizes (filter (λ o. eqb o.at a) os)
sizes_more v a [] d = omega arith
sizes_more v a (o ∷ os) d =
    let rest = sizes_more v a os d in
    let both = size_kept o (filter (λ o. has (v ++ a ∷ []) o.at) os) (has (v ++ a ∷ []) o.at) in
    let left = size_kept o (filter (λ o. has v o.at) os) (has v o.at) in
    let right = size_kept o (filter (λ o. eqb o.at a) os) (eqb o.at a) in
    let here : cond (has (v ++ a ∷ []) o.at) o.size 0 ≡ cond (has v o.at) o.size 0 + cond (eqb o.at a) o.size 0 =
    ap (λ b. cond b o.size 0) (has_more v a o.at) ∙ one_of v a o.size o.at (has v o.at) (eqb o.at a) d refl refl in
    omega (arith, rest, both, left, right, here)

-- no object at an address
pub sizes_none : (a : ℕ) (os : List Object) → ((o : Object) → Contains os o → o.at ≢ a) → sizes (filter (λ o. eqb o.at a) os) ≡ 0
sizes_none a [] h = refl
sizes_none a (o ∷ os) h = at (eqb o.at a) refl (sizes_none a os (λ q i. h q (suc i.0, omega (arith, i.1), i.2)))
  where
    at : (b : Bool) → eqb o.at a ≡ b → sizes (filter (λ o. eqb o.at a) os) ≡ 0 → sizes (cond b (o ∷ filter (λ o. eqb o.at a) os) (filter (λ o. eqb o.at a) os)) ≡ 0
    at true e rest = absurd (h o (zero, omega arith, refl) (eqb-true o.at a e))
    at false e rest = rest

-- the one object at an address
pub sizes_one : (q : Object) (os : List Object) → Ordered IsBefore os → ((o : Object) → Contains os o → 0 < o.size) → Contains os q → sizes (filter (λ o. eqb o.at q.at) os) ≡ q.size
sizes_one q [] ord some i = absurd (omega (arith, i.1))
sizes_one q (o ∷ os) ord some (zero, lt, e) =
    let none : sizes (filter (λ o. eqb o.at q.at) os) ≡ 0 = sizes_none q.at os (λ p j. λ f. let b : o.at + o.size ≤ p.at = ord.0 p j in let s =
    some o (zero, omega arith, refl) in let z : o.at ≡ q.at = ap (λ (x : Object). x.at) e in absurd (omega (arith, b, s, z, f))) in
    let kept = size_kept o (filter (λ o. eqb o.at q.at) os) (eqb o.at q.at) in
    let yes_here : cond (eqb o.at q.at) o.size 0 ≡ o.size = ap (λ b. cond b o.size 0) (eq-eqb o.at q.at (ap (λ (x : Object). x.at) e)) in
    let same : o.size ≡ q.size = ap (λ (x : Object). x.size) e in
    omega (arith, none, kept, yes_here, same)
sizes_one q (o ∷ os) ord some (suc k, b, eq) =
    let rest = sizes_one q os ord.1 (λ p j. some p (suc j.0, omega (arith, j.1), j.2)) (k, omega (arith, b), eq) in
    let kept = size_kept o (filter (λ o. eqb o.at q.at) os) (eqb o.at q.at) in
    let before : o.at + o.size ≤ q.at = ord.0 q (k, omega (arith, b), eq) in
    let s = some o (zero, omega arith, refl) in
    let not_here : cond (eqb o.at q.at) o.size 0 ≡ 0 = at (eqb o.at q.at) refl (λ e. omega (arith, before, s, e)) in
    omega (arith, rest, kept, not_here)
  where
    at : (b : Bool) → eqb o.at q.at ≡ b → (o.at ≡ q.at → ⊥) → cond b o.size 0 ≡ 0
    at true e d = absurd (d (eqb-true o.at q.at e))
    at false e d = refl
