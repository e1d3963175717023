-- The log after a slot that leads into another region is written.
use Rattle.std.proofs.Common.{◌≡◌, ◌≢◌, ℕ, zero, suc, ◌-◌, ◌/◌, ◌<◌, true, false, refl, cond, ◌||◌, List, [], ◌∷◌, ◌++◌, sym, ◌∙◌, ap, arith, eqb, eq-eqb}
use Rattle.std.specs.List.{list_any}
use Rattle.std.proofs.lemmas.Bool.{true_from_ne_false, ne_eqb}
use Rattle.g1_words.specs.Geometry.{Geometry}
use Rattle.g1_words.specs.Lists.{has}
use Rattle.g1_trace.specs.Mutator.{log_with}

pub crossed : (g : Geometry) (log : List ℕ) (p x k : ℕ) (new : List ℕ) → 0 < x → p / g.w ≢ (x - 1) / g.w → k ≡ p / g.k
    → new ≡ cond (list_any (λ y. eqb k y) log) log (log ++ k ∷ []) → new ≡ log_with g log p x
crossed g log p zero k new some n e f = absurd (omega (arith, some))
crossed g log p (suc a) k new some n e f =
    let z : suc a - 1 ≡ a = omega arith in
    let away : eqb (p / g.w) (a / g.w) ≡ false = ne_eqb (p / g.w) (a / g.w) (λ q. n (q ∙ ap (λ y. y / g.w) (sym z))) in
    f ∙ ap (λ c. cond (has log c) log (log ++ c ∷ [])) e ∙ ap (λ b. cond (b || has log (p / g.k)) log (log ++ (p / g.k) ∷ [])) (sym away)

-- a reference that stays in its region, or is null, leaves the log
pub stayed : (g : Geometry) (log : List ℕ) (p x : ℕ) → ((0 < x) × (p / g.w ≢ (x - 1) / g.w) → ⊥) → log ≡ log_with g log p x
stayed g log p zero within = refl
stayed g log p (suc a) within =
    let z : suc a - 1 ≡ a = omega arith in
    let here : eqb (p / g.w) (a / g.w) ≡ true = true_from_ne_false (eqb (p / g.w) (a / g.w)) (λ out. within (
      omega arith,
      λ q.
          let clash : true ≡ false = sym (eq-eqb (p / g.w) (a / g.w) (q ∙ ap (λ y. y / g.w) z)) ∙ out in
          cc,
    )) in
    ap (λ b. cond (b || has log (p / g.k)) log (log ++ (p / g.k) ∷ [])) (sym here)
