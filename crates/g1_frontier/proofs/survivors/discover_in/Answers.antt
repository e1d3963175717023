use Rattle.std.proofs.Common.{inl, inr, arith, ap, sym, subst, length, ◌∙◌}
use Rattle.g1_frontier.specs.Window.{AreRising, AreWindowPositions}
use Rattle.g1_frontier.proofs.Numberings.{scope_by_either}
use Rattle.g1_frontier.proofs.survivors.discover_in.Goals as goal
use Rattle.g1_frontier.proofs.survivors.discover_in.Goals.{then-takes_rounds+in_ok-number_window, else-takes_rounds}

pub survivors_in-requires-clause-scope : goal.survivors_in-requires-clause-scope
survivors_in-requires-clause-scope g c κs within =
    scope_by_either _ (record {
      valid = c.geometry.ensures.valid;
      starts = c.requires.starts;
      regions = c.requires.window;
      positions = subst (AreWindowPositions c.args.window.now) (sym c.as_slice.ensures.value) c.in_ok-positions.ensures.positions;
      count =
          let regions = c.regions.ensures.value ∙ ap (λ g. g.n) c.geometry.ensures.same in
          omega (arith, ap length c.as_slice.ensures.value, c.in_ok-positions.positions.ok, c.in_ok-positions.ensures.count, regions);
    }) (elim c.if-takes_rounds.branch [
      | then-takes_rounds+in_ok-number_window w ↦ inr (w.in_ok-number_window.field-0, w.numbering-is, w.in_ok-number_window.ensures.starts, w.in_ok-number_window.ensures.few)
      | else-takes_rounds w ↦ inl w.numbering-is
    ])

pub positions-requires-clause-regions : goal.positions-requires-clause-regions
positions-requires-clause-regions g c = subst (λ n. AreRising n c.args.window.now) (sym (c.regions.ensures.value ∙ ap (λ g. g.n) c.geometry.ensures.same)) c.requires.window

pub positions-requires-clause-few : goal.positions-requires-clause-few
positions-requires-clause-few g c = omega (arith, c.regions.ensures.value, c.regions.ensures.limits.n_most)

pub new-requires : goal.new-requires
new-requires g c = c.requires.team

pub returns-clause-ok : goal.returns-clause-ok
returns-clause-ok g c = c.survivors_in.ensures.ok

pub returns-clause-memory : goal.returns-clause-memory
returns-clause-memory g c = c.survivors_in.ensures.memory

pub survivors_in-requires-clause-cards : goal.survivors_in-requires-clause-cards
survivors_in-requires-clause-cards g c κs within = c.requires.cards

pub survivors_in-requires-clause-outside : goal.survivors_in-requires-clause-outside
survivors_in-requires-clause-outside g c κs within = c.requires.outside

pub survivors_in-requires-clause-lead_in : goal.survivors_in-requires-clause-lead_in
survivors_in-requires-clause-lead_in g c κs within = c.requires.lead_in
