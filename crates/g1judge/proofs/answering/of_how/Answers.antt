use Rattle.std.proofs.Common.{ap, sym, ◌∙◌}
use Rattle.g1judge.specs.Answered.{answer_how}
use Rattle.g1judge.proofs.answering.of_how.Goals as goal

pub returns-in-NullBefore : goal.returns-in-NullBefore
returns-in-NullBefore c = c.of_numbers.ensures ∙ ap (λ how. answer_how how c.args.ends.now) (sym c.in-NullBefore.is)

pub returns-in-Split : goal.returns-in-Split
returns-in-Split c = c.of_numbers-in-Split.ensures ∙ ap (λ how. answer_how how c.args.ends.now) (sym c.in-Split.is)
