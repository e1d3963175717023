use Rattle.std.proofs.Common.{arith, ap, sym, subst, refl, length, ◌∙◌}
use Rattle.g1_frontier.specs.Window.{AreRising, AreWindowPositions}
use Rattle.g1_frontier.proofs.Numberings.{scope_by_word}
use Rattle.g1_frontier.proofs.round.claim_round.Goals as goal

pub positions-requires-clause-regions : goal.positions-requires-clause-regions
positions-requires-clause-regions g c = subst (λ n. AreRising n c.args.window.now) (sym (c.regions-regions.ensures.value ∙ ap (λ g. g.n) c.geometry.ensures.same)) c.requires.window

pub positions-requires-clause-few : goal.positions-requires-clause-few
positions-requires-clause-few g c = omega (arith, c.regions-regions.ensures.value, c.regions-regions.ensures.limits.n_most)

pub new-requires : goal.new-requires
new-requires g c = c.requires.team

pub round_in-requires-clause-scope : goal.round_in-requires-clause-scope
round_in-requires-clause-scope g c κs within =
    scope_by_word _ refl (record {
      valid = c.geometry.ensures.valid;
      starts = c.requires.starts;
      regions = c.requires.window;
      positions = subst (AreWindowPositions c.args.window.now) (sym c.as_slice.ensures.value) c.in_ok-positions.ensures.positions;
      count =
          let regions = c.regions-regions.ensures.value ∙ ap (λ g. g.n) c.geometry.ensures.same in
          omega (arith, ap length c.as_slice.ensures.value, c.in_ok-positions.positions.ok, c.in_ok-positions.ensures.count, regions);
    })

pub round_in-requires-clause-items : goal.round_in-requires-clause-items
round_in-requires-clause-items g c κs within = c.requires.items

pub round_in-requires-clause-few : goal.round_in-requires-clause-few
round_in-requires-clause-few g c κs within = c.requires.few

pub round_in-requires-clause-table : goal.round_in-requires-clause-table
round_in-requires-clause-table g c κs within = c.requires.table

pub round_in-requires-clause-whole : goal.round_in-requires-clause-whole
round_in-requires-clause-whole g c κs within = c.requires.whole

pub round_in-requires-clause-places : goal.round_in-requires-clause-places
round_in-requires-clause-places g c κs within = c.requires.places

pub round_in-requires-clause-rise : goal.round_in-requires-clause-rise
round_in-requires-clause-rise g c κs within = c.requires.rise

pub round_in-requires-clause-ranks : goal.round_in-requires-clause-ranks
round_in-requires-clause-ranks g c κs within = c.requires.ranks

pub round_in-requires-clause-above : goal.round_in-requires-clause-above
round_in-requires-clause-above g c κs within = c.requires.above

pub returns-clause-claims : goal.returns-clause-claims
returns-clause-claims g c = refl

pub returns-clause-table : goal.returns-clause-table
returns-clause-table g c = c.in_ok-seat.ensures.ok.table

pub returns-clause-whole : goal.returns-clause-whole
returns-clause-whole g c = c.in_ok-seat.ensures.ok.whole

pub returns-clause-offers : goal.returns-clause-offers
returns-clause-offers g c = c.in_ok-seat.ensures.ok.offers

pub returns-clause-won : goal.returns-clause-won
returns-clause-won g c = c.in_ok-seat.ensures.ok.won

pub returns-clause-settled : goal.returns-clause-settled
returns-clause-settled g c = c.in_ok-seat.ensures.ok.settled
