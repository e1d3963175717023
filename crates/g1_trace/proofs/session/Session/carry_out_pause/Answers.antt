use Rattle.std.proofs.Common.{sym, ◌∙◌}
use Rattle.g1_trace.proofs.Sessions.{no_heap, pause_done, steps_here}
use Rattle.g1_trace.proofs.session.Session.carry_out_pause.Goals as goal

pub unreachable-requires : goal.unreachable-requires
unreachable-requires g c =
    no_heap c.args.settings.now.cost c.args.settings.now.choice c.args.self.now c.args.steps (sym c.replace.ensures.value ∙ c.in-Begun.is) c.requires.taken

pub carry_out_pause-mutator-requires-clause-taken : goal.carry_out_pause-mutator-requires-clause-taken
carry_out_pause-mutator-requires-clause-taken g c κs within =
    steps_here c.args.settings.now.cost c.args.settings.now.choice c.args.self.now c.in-Open.mutator c.in-Open.commands c.args.steps (sym c.replace.ensures.value ∙ c.in-Open.is) c.requires.taken

pub returns : goal.returns
returns g c = record {
  done = pause_done c.args.settings.now.cost c.args.settings.now.choice c.args.self.now c.in-Open.mutator c.carry_out_pause-mutator.result.0 c.in-Open.commands
      c.saturating_add.result c.carry_out_pause-mutator.result.1 (sym c.replace.ensures.value ∙ c.in-Open.is) c.saturating_add.ensures c.carry_out_pause-mutator.ensures.done;
}
