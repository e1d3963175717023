use Rattle.std.proofs.Common.{arith, ap, sym, ◌∙◌, ◌-◌}
use Rattle.g1_same.specs.declared.walk.Found.{Found}
use Rattle.g1_same.specs.declared.walk.What.{What}
use Rattle.g1_same.specs.declared.walk.What.TheVariants as what
use Rattle.g1_same.specs.declared.difference.How.{How}
use Rattle.g1_same.specs.declared.difference.How.TheVariants.{NullBefore, Data}
use Rattle.g1_same.proofs.Adding.{IsAdded, pairs_fit}
use Rattle.g1_same.proofs.Behind.{new_pair, passed_walk, passed_below, passed_linked}
use Rattle.g1_same.proofs.Held.{before_valid}
use Rattle.g1_same.proofs.differences.go_behind.Goals.{In_ok-add}
use Rattle.g1_same.proofs.differences.go_behind.Goals as goal

pub overflow_sub-place : goal.overflow_sub-place
overflow_sub-place c =
    let p = new_pair c.args.heaps c.requires.stale.0 c.args.walk.now c.args.found.now _ c.requires.walk c.requires.stale.1 (c.in-How.is ∙ ap what.How c.in-Data.is) in omega (arith, p.x_is)

pub overflow_sub-place-in-Data : goal.overflow_sub-place-in-Data
overflow_sub-place-in-Data c =
    let p = new_pair c.args.heaps c.requires.stale.0 c.args.walk.now c.args.found.now _ c.requires.walk c.requires.stale.1 (c.in-How.is ∙ ap what.How c.in-Data.is) in omega (arith, p.y_is)

pub add-requires-clause-a : goal.add-requires-clause-a
add-requires-clause-a c =
    (new_pair c.args.heaps c.requires.stale.0 c.args.walk.now c.args.found.now _ c.requires.walk c.requires.stale.1 (c.in-How.is ∙ ap what.How c.in-Data.is)).a_lt

pub add-requires-clause-b : goal.add-requires-clause-b
add-requires-clause-b c =
    (new_pair c.args.heaps c.requires.stale.0 c.args.walk.now c.args.found.now _ c.requires.walk c.requires.stale.1 (c.in-How.is ∙ ap what.How c.in-Data.is)).b_lt

pub add-requires-clause-few : goal.add-requires-clause-few
add-requires-clause-few c =
    pairs_fit c.args.heaps.before.now c.args.heaps.after.now c.args.walk.now (before_valid c.args.heaps) c.requires.walk

added : (c : In_ok-add) → let d = c.args.found.now in IsAdded c.args.walk.now c.add.new.self d.place.way.from d.place.way.number (d.place.before - 1) (d.place.after - 1)
added c = record {
  before = c.in_ok-add.ensures.before;
  after = c.in_ok-add.ensures.after;
  from = c.in_ok-add.ensures.from;
  number = c.in_ok-add.ensures.number;
  new_of = c.in_ok-add.ensures.new_of;
  old_of = c.in_ok-add.ensures.old_of;
}

pub returns-in-Data-clause-walk : goal.returns-in-Data-clause-walk
returns-in-Data-clause-walk c =
    let d : Found = c.args.found.now in
    let p = new_pair c.args.heaps c.requires.stale.0 c.args.walk.now c.args.found.now _ c.requires.walk c.requires.stale.1 (c.in-How.is ∙ ap what.How c.in-Data.is) in
    passed_walk c.args.heaps.before.now c.args.heaps.after.now c.args.walk.now c.add.new.self d.place.way.from d.place.way.number d.place.before d.place.after c.requires.walk c.requires.stale.1.below p (added c)

pub returns-in-Data-clause-below : goal.returns-in-Data-clause-below
returns-in-Data-clause-below c =
    let d : Found = c.args.found.now in
    let p = new_pair c.args.heaps c.requires.stale.0 c.args.walk.now c.args.found.now _ c.requires.walk c.requires.stale.1 (c.in-How.is ∙ ap what.How c.in-Data.is) in
    passed_below c.args.heaps.before.now c.args.heaps.after.now c.args.walk.now c.add.new.self d.place.way.from d.place.way.number d.place.before d.place.after c.requires.walk c.requires.stale.1.below p (added c)

pub returns-in-Data-clause-passed : goal.returns-in-Data-clause-passed
returns-in-Data-clause-passed c =
    let d : Found = c.args.found.now in
    let p = new_pair c.args.heaps c.requires.stale.0 c.args.walk.now c.args.found.now _ c.requires.walk c.requires.stale.1 (c.in-How.is ∙ ap what.How c.in-Data.is) in
    λ k same. passed_linked c.args.heaps.before.now c.args.heaps.after.now c.args.walk.now c.add.new.self d.place.way.from d.place.way.number d.place.before d.place.after c.requires.walk c.requires.stale.1.below p (added c)

abbrev how_of : What → How
how_of (what.Stale z) = NullBefore
how_of (what.How how) = how

pub returns-in_default-how-clause-passed : goal.returns-in_default-how-clause-passed
returns-in_default-how-clause-passed c = λ k same. absurd (c.in_default-how.not-Data k (ap how_of (sym c.in-How.is ∙ same)))

pub returns-in_default-clause-passed : goal.returns-in_default-clause-passed
returns-in_default-clause-passed c = λ k same. absurd (c.in_default.not-How (Data k) same)
