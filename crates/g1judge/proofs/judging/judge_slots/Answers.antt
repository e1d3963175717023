use Rattle.std.proofs.Common.{subst}
use Rattle.g1_image.specs.Cards.{uncovered}
use Rattle.g1_rem.specs.Cover.{IsFirstOf}
use Rattle.g1judge.proofs.judging.judge_slots.Goals as goal

pub returns-in-Ok-None : goal.returns-in-Ok-None
returns-in-Ok-None c = subst (IsFirstOf (uncovered c.args.image.now)) c.in-Ok-None.field-0-is c.in-Ok-None.ensures.ok

pub returns-in-Ok-Some : goal.returns-in-Ok-Some
returns-in-Ok-Some c = subst (IsFirstOf (uncovered c.args.image.now)) c.in-Ok-Some.field-0-is c.in-Ok-Some.ensures.ok
