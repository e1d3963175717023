-- Tests that tell a fact.
use Rattle.std.proofs.Common.{◌≡◌, ◌≤◌, ◌<◌, ◌∙◌, ℕ, Bool, true, false, inl, inr, refl, sym}
use Rattle.std.specs.Prelude.{IsTrue, ◌↔◌}
use Rattle.std.proofs.lemmas.Bool.{cases_lt}

pub never : {P : Type 0} → (P → ⊥) → IsTrue false ↔ P
never f = ((λ t. let e : false ≡ true = t in cc), (λ p. absurd (f p)))

pub always : {P : Type 0} → P → IsTrue true ↔ P
always p = ((λ t. p), (λ q. refl))

-- a test of whether a number is above another failed
pub at_most : (a b : ℕ) (t : Bool) → IsTrue t ↔ (a < b) → t ≡ false → b ≤ a
at_most a b t e off = elim (cases_lt a b) [ inl lt ↦ (let k : false ≡ true = sym off ∙ e.1 lt in cc) | inr ge ↦ ge ]
