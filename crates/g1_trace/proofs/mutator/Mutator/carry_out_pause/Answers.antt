use Rattle.std.proofs.Common.{Ok, Err, inl, inr, refl, sym, ◌∙◌, subst}
use Rattle.g1_image.specs.Image.{Image}
use Rattle.g1_pause.specs.Answer.{IsEvacuated}
use Rattle.g1_pause.specs.Steps.{AreStepsOf}
use Rattle.g1_pause.specs.declared.settings.Choice.{Choice}
use Rattle.g1_trace.proofs.mutator.Mutator.carry_out_pause.Goals as goal

pub carry_out-requires-clause-taken : goal.carry_out-requires-clause-taken
carry_out-requires-clause-taken g c κs within =
    subst (λ (i : Image). AreStepsOf c.args.settings.now.cost c.args.settings.now.choice i c.args.steps) (sym c.self.view_is) c.requires.taken

pub returns-in-Ok : goal.returns-in-Ok
returns-in-Ok g c = record {
  done = λ b e.
      let made = subst (λ (i : Image). IsEvacuated c.args.settings.now.cost c.args.settings.now.choice i (Ok c.in-Ok.tracked)) c.self.view_is c.in-Ok.ensures.done in
      inl (subst (λ (x : Choice). IsEvacuated c.args.settings.now.cost x c.args.self (Ok c.in-Ok.tracked)) e made, refl);
}

pub returns-in-Err : goal.returns-in-Err
returns-in-Err g c = record {
  done = λ b e.
      let fault = c.in-Err.field-0-1 in
      let refused = subst (λ (i : Image). IsEvacuated c.args.settings.now.cost c.args.settings.now.choice i (Err fault)) c.self.view_is c.in-Err.ensures.refused in
      inr (
        fault,
        subst (λ (x : Choice). IsEvacuated c.args.settings.now.cost x c.args.self (Err fault)) e refused,
        refl,
        c.in-Err.ensures.same ∙ c.self.view_is,
      );
}
