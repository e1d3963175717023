use Rattle.std.proofs.Common.{◌≡◌, ℕ, List, rules, sym, subst}
use Rattle.std.specs.Prelude.{Some, IfSome}
use Rattle.std.specs.Borrow.{Bor}
use Rattle.g1_report.specs.Answer.{labels_of, IsByNumber}
use Rattle.g1_report.specs.Given.{listed}
use Rattle.g1_report.proofs.Told.{rise_read}
use Rattle.g1_report.proofs.sides.Side.labels.Goals as goal

pub returns-in-Some-clause-in_order : goal.returns-in-Some-clause-in_order
returns-in-Some-clause-in_order c = λ h.
    let l : List (ℕ × Bor (List ℕ)) = c.as_slice.result.now in
    let same : listed (Some c.as_slice.result) ≡ labels_of c.args.self.now = search rules in
    let told : IsByNumber l = subst (λ o. IfSome o IsByNumber) (sym same) h.objects in
    rise_read (λ (k : ℕ). k) (λ (name : Bor (List ℕ)). name.now) (λ k. k) l told
