use Rattle.std.proofs.Common.{◌≡◌, ℕ, List, [], ◌∷◌, length, get_or, refl, arith, eqb, eqb-true, eq-eqb}
use Rattle.std.specs.Prelude.{IsTrue, ◌↔◌}
use Rattle.g1_trace.specs.Lines.{IsLineEnd}
use Rattle.g1_trace.proofs.parsing.ends_line.Goals as goal

empty_ends : (bytes : List ℕ) → length bytes ≡ 0 → IsLineEnd bytes
empty_ends [] none = tt
empty_ends (b ∷ bytes) none = absurd (omega (arith, none))

ends : (bytes : List ℕ) → (length bytes ≡ 0 → ⊥) → IsTrue (eqb (get_or bytes 0 0) 10) ↔ IsLineEnd bytes
ends [] some = absurd (some refl)
ends (b ∷ bytes) some = (λ t. eqb-true b 10 t, λ e. eq-eqb b 10 e)

pub returns-then-bytes-eq0 : goal.returns-then-bytes-eq0
returns-then-bytes-eq0 c = (λ _. empty_ends c.args.bytes.now c.if-bytes-eq0.true, λ _. eq-eqb (length c.args.bytes.now) 0 c.if-bytes-eq0.true)

pub returns-else-bytes-eq0 : goal.returns-else-bytes-eq0
returns-else-bytes-eq0 c = ends c.args.bytes.now c.if-bytes-eq0.false
