use Rattle.std.proofs.Common.{inl, inr, ap, sym, subst, ◌∙◌}
use Rattle.g1judge.specs.Answered.{status_of}
use Rattle.g1judge.specs.Laws.{SaysOfPair}
use Rattle.g1judge.proofs.exports.g1_same.Goals as goal

pub returns-clause-status : goal.returns-clause-status
returns-clause-status c =
    let a = c.args.before.now in
    let b = c.args.after.now in
    elim (c.pair_status.ensures a b c.judge_pair-verdict.result c.judge_pair-verdict.ensures) [
      | inl memory ↦ inl (c.say.ensures.status ∙ ap status_of memory)
      | inr says ↦ inr (subst (SaysOfPair a b) (sym c.say.ensures.status) says)
    ]
