use Rattle.std.proofs.Common.{sym, subst}
use Rattle.g1_pause.specs.Answer.{IsSetFor}
use Rattle.g1_pause.proofs.steps.take_steps.Goals as goal

pub find_survivors-requires-after_bounds : goal.find_survivors-requires-after_bounds
find_survivors-requires-after_bounds g c κs within =
    subst (IsSetFor c.args.settings.now.cost c.args.before.now c.args.settings.now.choice) (sym c.deref-set.ensures.value) c.in_ok-collection.ensures.set

pub lay_out-requires-clause-set : goal.lay_out-requires-clause-set
lay_out-requires-clause-set g c κs within =
    subst (IsSetFor c.args.settings.now.cost c.args.before.now c.args.settings.now.choice) (sym c.deref-set.ensures.value) c.in_ok-collection.ensures.set

pub returns-clause-set : goal.returns-clause-set
returns-clause-set g c = c.in_ok-collection.ensures.set

pub returns-clause-bought : goal.returns-clause-bought
returns-clause-bought g c = c.in_ok-collection.ensures.bought

pub returns-clause-listed : goal.returns-clause-listed
returns-clause-listed g c = c.in_ok-collection.ensures.listed

pub returns-clause-cards : goal.returns-clause-cards
returns-clause-cards g c = rw (c.deref-set.ensures.value) at c.in_ok-cards.ensures.cards

pub returns-clause-outcome : goal.returns-clause-outcome
returns-clause-outcome g c = rw (c.deref-set.ensures.value) at c.in_ok-outcome.ensures.outcome
