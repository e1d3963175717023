use Rattle.g1_trace.specs.Session.{comment}
use Rattle.g1_trace.proofs.Sessions.{command_done}
use Rattle.g1_trace.proofs.session.Session.take.Goals as goal

pub returns-then-is_comment-clause-done : goal.returns-then-is_comment-clause-done
returns-then-is_comment-clause-done g c = comment (c.is_comment.ensures.0 c.if-is_comment.true)

pub returns-in-Ok-write : goal.returns-in-Ok-write
returns-in-Ok-write g c =
    let cost = c.args.settings.now.cost in
    record {
      done = command_done cost c.args.self.now c.args.line.now c.in-Some.command c.in-Open.mutator c.write.new.self c.in-Open.commands c.saturating_add.result
          c.in-Ok-write.reply c.in-Open.is c.saturating_add.ensures c.in-Some.ensures.fits c.in-Some.ensures.some (c.in-Ok-write.ensures.done cost);
      wrong = tt;
      same = tt;
    }
