use Rattle.g1_report.specs.Finding.{IsRefusal}
use Rattle.g1_report.proofs.Passed.{passed_on}
use Rattle.g1_report.proofs.verdict.verdict_on_same.Goals as goal

pub returns-in_err-lost-clause-refused : goal.returns-in_err-lost-clause-refused
returns-in_err-lost-clause-refused c =
    let a = c.args.asked.now in
    passed_on (λ e. IsRefusal c.args.sides.heaps.before.now c.args.sides.heaps.after.now a.after.now.stale a.set.now e) c.from_residual.result c.in_err-lost.field-0.0
    c.from_residual.ensures.1 (c.in_err-lost.ensures.refused a.after.now.stale)
