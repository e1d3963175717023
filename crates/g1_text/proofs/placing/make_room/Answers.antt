use Rattle.std.proofs.Common.{◌<◌, ◌≤◌, ◌*◌, subst}
use Rattle.std.specs.Prelude.{MatchBool}
use Rattle.g1_text.proofs.placing.make_room.Goals as goal

pub returns-then-humongous : goal.returns-then-humongous
returns-then-humongous c = λ g os refs bounds laid m.
    c.make_run.ensures g os refs bounds laid (subst (λ b. MatchBool b (3 * g.w < 4 * c.args.size) (4 * c.args.size ≤ 3 * g.w)) c.if-humongous.true m)

pub returns-else-humongous : goal.returns-else-humongous
returns-else-humongous c = λ g os refs bounds laid m.
    c.make_small_room.ensures g os refs bounds laid (subst (λ b. MatchBool b (3 * g.w < 4 * c.args.size) (4 * c.args.size ≤ 3 * g.w)) c.if-humongous.false m)
