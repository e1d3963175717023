use Rattle.std.proofs.Common.{◌≡◌, ℕ, List, [], ◌∷◌, ◌++◌, sym, ◌∙◌, ap, subst, arith}
use Rattle.std.specs.Prelude.{unwrap_or}
use Rattle.std.specs.Borrow.{Bor}
use Rattle.g1_report.specs.Shared.{IsLeastOf}
use Rattle.g1_report.proofs.Shared.{least_same, least_kept, least_new}
use Rattle.g1_report.proofs.sides.least_with.Goals.{in_default-least-via-in-Some-least+else-shared-word, in_default-least-via-in_default-least}
use Rattle.g1_report.proofs.sides.least_with.Goals as goal

pub returns-in_default : goal.returns-in_default
returns-in_default c = λ passed is.
    least_same c.args.before.now.entries passed (c.args.word, c.args.other) c.args.least (λ t. t.1.1 (c.in_default.ensures.none t.0 t.1.0)) is

pub returns-in-Some-least : goal.returns-in-Some-least
returns-in-Some-least c = λ passed is.
    let before = c.args.before.now.entries in
    let e : ℕ × Bor (List ℕ) = (c.args.word, c.args.other) in
    subst (λ l. IsLeastOf before (passed ++ e ∷ []) l) (sym c.in-Some-least.is)
    (least_kept before passed e c.in-Some-least.shared c.if-shared-word.true (subst (λ l. IsLeastOf before passed l) c.in-Some-least.is is))

pub returns-in_default-least : goal.returns-in_default-least
returns-in_default-least c = λ passed is.
    least_new c.args.before.now.entries passed (c.args.word, c.args.other) c.args.least c.in-Some.text c.in-Some.ensures.some
    (λ s e. elim c.in_default-least.branch [
      | in_default-least-via-in-Some-least+else-shared-word w ↦
          let same : w.in-Some-least.shared.word ≡ s.word = ap (λ o. (unwrap_or o s).word) (sym w.in-Some-least.is ∙ e) in
          omega (arith, w.if-shared-word.false, same)
      | in_default-least-via-in_default-least w ↦ absurd (w.in_default-least.not-Some s e)
    ])
    is
