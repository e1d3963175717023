use Rattle.std.proofs.Common.{inl, inr, Ok, Err, refl}
use Rattle.g1_pause.proofs.Carried.{carried_out}
use Rattle.g1_pause.proofs.evacuating.evacuate.Goals as goal

pub returns-in-Ok-clause-done : goal.returns-in-Ok-clause-done
returns-in-Ok-clause-done g c = carried_out c.args.settings.now.cost c.args.settings.now.choice c.args.tracked c.commit.result c.in-Ok.prepared c.in-Ok.ensures.made c.commit.ensures.paused

pub returns-in-Ok-clause-only : goal.returns-in-Ok-clause-only
returns-in-Ok-clause-only g c = λ y e. c.one_answer.ensures.evacuation c.args.settings.now.cost c.args.tracked c.args.settings.now.choice y
    (Ok c.commit.result) c.know_tracked.ensures e (returns-in-Ok-clause-done g c)

pub returns-in-Ok-clause-follows : goal.returns-in-Ok-clause-follows
returns-in-Ok-clause-follows g c = c.what_follows.ensures.evacuation c.args.settings.now.cost c.args.settings.now.choice c.args.tracked
    c.commit.result c.know_tracked.ensures (returns-in-Ok-clause-done g c)

pub returns-in-Err-clause-same : goal.returns-in-Err-clause-same
returns-in-Err-clause-same g c = refl

pub returns-in-Err-clause-only_refused : goal.returns-in-Err-clause-only_refused
returns-in-Err-clause-only_refused g c = elim c.in-Err.ensures.refused [
  | inl memory ↦ inl memory
  | inr refused ↦ inr (λ y e. c.one_answer.ensures.evacuation c.args.settings.now.cost c.args.tracked c.args.settings.now.choice y (Err c.in-Err.fault) c.know_tracked.ensures e refused)
]
