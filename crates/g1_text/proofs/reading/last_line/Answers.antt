use Rattle.std.proofs.Common.{inr, sym, ◌∙◌, arith}
use Rattle.g1_text.proofs.Refusing.{ended}
use Rattle.g1_text.proofs.reading.last_line.Goals as goal

pub returns-then-ends_with : goal.returns-then-ends_with
returns-then-ends_with c = λ some.
    let end = ended c.args.text.now (sym c.ends_with.ensures.value ∙ c.if-ends_with.true) in
    inr (end.0, end.1, omega (arith, some, c.saturating_sub.ensures))
