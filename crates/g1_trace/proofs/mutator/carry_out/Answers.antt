use Rattle.std.proofs.Common.{◌≡◌, subst, rules}
use Rattle.g1_trace.specs.declared.command.Reply.TheVariants.{Ok as Done}
use Rattle.g1_trace.specs.Commands.{Effect}
use Rattle.g1_trace.specs.Views.{ForPause}
use Rattle.g1_trace.proofs.mutator.carry_out.Goals as goal

pub returns-in-MakePause-clause-done : goal.returns-in-MakePause-clause-done
returns-in-MakePause-clause-done g c =
    let told : c.args.told.reply ≡ Done = subst (λ (e : Effect). ForPause e (c.args.told.reply ≡ Done)) c.in-MakePause.is c.requires.paused in
    rw (c.in-MakePause.is, told) (search rules)
