-- What a search in a list by number finds.
use Rattle.std.proofs.Common.{◌≡◌, ℕ, zero, suc, ◌<◌, ◌≤◌, ◌==◌, List, [], ◌∷◌, length, get_or, refl, sym, ◌∙◌, ap, arith}
use Rattle.std.specs.Prelude.{Some, None}
use Rattle.std.specs.Map.{lookup}
use Rattle.std.specs.List.Sorted.{IsNonDecreasingBy}
use Rattle.std.proofs.lemmas.Bool.{cond-true, cond-false, eq-eqb, ne_eqb, cases_lt}
use Rattle.std.proofs.Common.{inl, inr}
use Rattle.std.proofs.lemmas.List.{get_or_default}

module _ {V : Type 0} (place : ℕ) where
  -- no entry has the number
  none_at : (l : List (ℕ × V)) → ((i : ℕ) (d : ℕ × V) → i < length l → place ≡ (get_or l i d).0 → ⊥) → None ≡ lookup (λ k. place == k) l
  none_at [] h = refl
  none_at (e ∷ es) h =
      none_at es (λ i d lt. h (suc i) d (omega (arith, lt)))
      ∙ sym (cond-false (place == e.0) (Some e.1) (lookup (λ k. place == k) es) (ne_eqb place e.0 (h 0 e (omega arith))))

  -- the first entry that is not below the number has it
  pub found_at : (l : List (ℕ × V)) (n : ℕ) (e : ℕ × V) → ((i : ℕ) (d : ℕ × V) → i < n → (get_or l i d).0 < place) → n < length l → e ≡ get_or l n e → e.0 ≡ place
      → Some e.1 ≡ lookup (λ k. place == k) l
  found_at [] n e below lt same at = absurd (omega (arith, lt))
  found_at (f ∷ fs) zero e below lt same at =
      ap (λ (p : ℕ × V). Some p.1) same
      ∙ sym (cond-true (place == f.0) (Some f.1) (lookup (λ k. place == k) fs) (eq-eqb place f.0 (sym at ∙ ap (λ (p : ℕ × V). p.0) same)))
  found_at (f ∷ fs) (suc n) e below lt same at =
      let less : f.0 < place = below 0 f (omega arith) in
      found_at fs n e (λ i d small. below (suc i) d (omega (arith, small))) (omega (arith, lt)) same at
      ∙ sym (cond-false (place == f.0) (Some f.1) (lookup (λ k. place == k) fs) (ne_eqb place f.0 (λ q. omega (arith, q, less))))

  module _ (l : List (ℕ × V)) (n : ℕ) (below : (i : ℕ) (d : ℕ × V) → i < n → (get_or l i d).0 < place) (rising : IsNonDecreasingBy (λ (e : ℕ × V). e.0) l)
      (behind : (i : ℕ) (d : ℕ × V) → n ≤ i → i < length l → place ≤ (get_or l i d).0) where
    -- it has another one
    pub other_at : (e : ℕ × V) → e ≡ get_or l n e → n < length l → (e.0 ≡ place → ⊥) → None ≡ lookup (λ k. place == k) l
    other_at e same lt other = none_at l (λ i d small q. elim (cases_lt i n) [
      | inl less ↦ omega (arith, q, below i d less)
      | inr ge ↦
          let up : (get_or l n d).0 ≤ (get_or l i d).0 = rising n i d ge small in
          let is : (get_or l n e).0 ≡ e.0 = ap (λ (p : ℕ × V). p.0) (sym same) in
          let at : (get_or l n d).0 ≡ (get_or l n e).0 = ap (λ (p : ℕ × V). p.0) (get_or_default l n d e lt) in
          let least : place ≤ (get_or l n d).0 = behind n d (omega arith) lt in
          other (omega (arith, q, up, is, at, least))
    ])

    -- there is none
    pub past_at : length l ≤ n → None ≡ lookup (λ k. place == k) l
    past_at le = none_at l (λ i d small q. omega (arith, q, below i d (omega (arith, small, le))))
