-- The table of a list: by element, 1 more than its place.
use Rattle.std.proofs.Common.{◌≡◌, ◌≢◌, ◌↔◌, ℕ, suc, ◌-◌, ◌<◌, ◌≤◌, ◌++◌, inl, inr, false, List, [], ◌∷◌, length, set, refl, sym, subst, ◌∙◌, arith, slice_index, eqb, eqb-true, Contains, zero}
use Rattle.std.proofs.Common.{get_or-set_same, get_or-set_other, length-append}
use Rattle.std.specs.List.{AllByRecursion, IsDistinct}
use Rattle.std.proofs.lemmas.Bool.{cases_lt, cases_Bool}
use Rattle.std.proofs.lemmas.List.{get_or_append_left, get_or_default, get_or_push, length-set}
use Rattle.std.proofs.lemmas.Map.Steps.{length-le_from_distinct_below}
use native.Mathlib.Decide.{ℕ_discrete}
use Rattle.g1_words.proofs.Members.{Contains-from_has, Contains-later}
use Rattle.g1_same.specs.Walk.{IsIndex}

-- the place of an element of a list
pub place_of : (l : List ℕ) (a : ℕ) → Contains l a → (i : ℕ) × (i < length l) × (slice_index l i ≡ a)
place_of l a c = (c.0, c.1, get_or_default l c.0 0 a c.1 ∙ c.2)

-- no two places have one element
abbrev Apart : List ℕ → Type 0
Apart l = (i j : ℕ) → i < length l → j < length l → slice_index l i ≡ slice_index l j → i ≡ j

none_again : (x : ℕ) (l : List ℕ) → Apart (x ∷ l) → Contains l x → ⊥
none_again x l apart h =
    let r = place_of l x h in
    let e : 0 ≡ suc r.0 = apart 0 (suc r.0) (omega arith) (omega (arith, r.1)) (sym r.2) in
    omega (arith, e)

apart_rest : (x : ℕ) (l : List ℕ) → Apart (x ∷ l) → Apart l
apart_rest x l apart i j p q e = let r = apart (suc i) (suc j) (omega (arith, p)) (omega (arith, q)) e in omega (arith, r)

all_other : (x : ℕ) (l : List ℕ) → (Contains l x → ⊥) → AllByRecursion (λ y. eqb x y ≡ false) l
all_other x [] h = tt
all_other x (y ∷ l) h = (
  elim (cases_Bool (eqb x y)) [ inl t ↦ absurd (h (zero, omega arith, sym (eqb-true x y t))) | inr f ↦ f ],
  all_other x l (λ k. h (Contains-later y l x k)),
)

distinct : (l : List ℕ) → Apart l → IsDistinct eqb l
unfolding IsDistinct
distinct [] apart = tt
distinct (x ∷ l) apart = (all_other x l (none_again x l apart), distinct l (apart_rest x l apart))

-- numbers below n with no two equal are at most n
few_below : (l : List ℕ) (n : ℕ) → Apart l → ((i : ℕ) → i < length l → slice_index l i < n) → length l ≤ n
few_below l n apart below = length-le_from_distinct_below l n (distinct l apart) (λ q e. let r = place_of l q (Contains-from_has l q e) in subst (λ a. a < n) r.2 (below r.0 r.1))

pub some : (n : ℕ) → n ≢ 0 → n ≡ suc (n - 1)
some n h = omega arith

module _ (table l : List ℕ) (index : IsIndex table l) where
  pub index_none : (a : ℕ) → a < length table → slice_index table a ≡ 0 → (i : ℕ) → i < length l → slice_index l i ≡ a → ⊥
  index_none a lt z i p e = let k = (index a i lt).1 (p, e) in absurd (omega (arith, k, z))

  pub index_some : (a : ℕ) → a < length table → slice_index table a ≢ 0 → (slice_index table a - 1 < length l) × (slice_index l (slice_index table a - 1) ≡ a)
  index_some a lt z = let e : slice_index table a ≡ suc (slice_index table a - 1) = some (slice_index table a) z in (index a (slice_index table a - 1) lt).0 e

  pub index_apart : ((i : ℕ) → i < length l → slice_index l i < length table) → (i j : ℕ) → i < length l → j < length l → slice_index l i ≡ slice_index l j → i ≡ j
  index_apart within i j p q e =
      let a = (index (slice_index l j) i (within j q)).1 (p, e) in
      let b = (index (slice_index l j) j (within j q)).1 (q, refl) in
      omega (arith, a, b)

  pub index_few : ((i : ℕ) → i < length l → slice_index l i < length table) → length l ≤ length table
  index_few within = few_below l (length table) (index_apart within) within

  module _ (a : ℕ) (lt : a < length table) (new : slice_index table a ≡ 0) where
    more_here : (i : ℕ) → (suc (length l) ≡ suc i) ↔ ((i < length (l ++ a ∷ [])) × (slice_index (l ++ a ∷ []) i ≡ a))
    more_here i = (
      λ e. let k : i ≡ length l = omega (arith, e) in (omega (arith, k, length-append l (a ∷ [])), get_or_push l a 0 i (sym k)),
      λ (p, e). elim (cases_lt i (length l)) [
        | inl q ↦ absurd (index_none a lt new i q (sym (get_or_append_left l (a ∷ []) 0 i q) ∙ e))
        | inr q ↦ omega (arith, p, q, length-append l (a ∷ []))
      ],
    )

    more_there : (b i : ℕ) → b < length table → b ≢ a → (slice_index table b ≡ suc i) ↔ ((i < length (l ++ a ∷ [])) × (slice_index (l ++ a ∷ []) i ≡ b))
    more_there b i p ne = (
      λ e. let k = (index b i p).0 e in (omega (arith, k.0, length-append l (a ∷ [])), get_or_append_left l (a ∷ []) 0 i k.0 ∙ k.1),
      λ (q, e). elim (cases_lt i (length l)) [
        | inl r ↦ (index b i p).1 (r, sym (get_or_append_left l (a ∷ []) 0 i r) ∙ e)
        | inr r ↦
            let k : length l ≡ i = omega (arith, q, r, length-append l (a ∷ [])) in
            absurd (ne (sym e ∙ get_or_push l a 0 i k))
      ],
    )

    -- one more element
    pub index_more : IsIndex (set table a (suc (length l))) (l ++ a ∷ [])
    index_more b i p =
        elim (ℕ_discrete b a) [
          | yes e ↦
              subst (λ c. (slice_index (set table a (suc (length l))) c ≡ suc i) ↔ ((i < length (l ++ a ∷ [])) × (slice_index (l ++ a ∷ []) i ≡ c))) (sym e)
              (subst (λ m. (m ≡ suc i) ↔ ((i < length (l ++ a ∷ [])) × (slice_index (l ++ a ∷ []) i ≡ a))) (sym (get_or-set_same table a (suc (length l)) 0 lt)) (more_here i))
          | no d ↦
              subst (λ m. (m ≡ suc i) ↔ ((i < length (l ++ a ∷ [])) × (slice_index (l ++ a ∷ []) i ≡ b))) (sym (get_or-set_other table a b (suc (length l)) 0 d))
              (more_there b i (omega (arith, p, length-set table a (suc (length l)))) d)
        ]
