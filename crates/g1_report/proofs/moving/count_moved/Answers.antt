use Rattle.std.proofs.Common.{ℕ, Bool, arith}
use Rattle.std.specs.Prelude.{Option, is_some, slice_index}
use Rattle.g1_report.specs.Wording.{has_moved, is_yes}
use Rattle.g1_report.specs.Given.{compared}
use Rattle.g1_report.proofs.Counted.{one_counted}
use Rattle.g1_report.proofs.Moved.{old_there, new_there}
use Rattle.g1_same.proofs.Held.{before_valid}
use Rattle.g1_report.proofs.moving.count_moved.Goals as goal

pub loop-place-preserved : goal.loop-place-preserved
loop-place-preserved c =
    let one = c.counts_of-one_moved in
    let so_far = c.loop-place.invariant in
    let f : ℕ → Option Bool = λ n. has_moved (compared c.args.sides) (compared c.args.sides).names_after (slice_index c.args.before.now n) (slice_index c.args.after.now n) in
    record {
      few_moved = omega (arith, so_far.few_moved, one.ensures.at_most_one.0);
      few = omega (arith, so_far.few, one.ensures.at_most_one.1);
      moved = λ h. one_counted is_yes f c.loop-place.place c.loop-place.moved one.result.0 c.has_moved.result (so_far.moved h) one.ensures.moved (c.has_moved.ensures h);
      all = λ h. one_counted is_some f c.loop-place.place c.loop-place.all one.result.1 c.has_moved.result (so_far.all h) one.ensures.all (c.has_moved.ensures h);
    }

-- what is asked of are objects
pub has_moved-requires-clause-before : goal.has_moved-requires-clause-before
has_moved-requires-clause-before c =
    old_there c.args.sides.heaps.before.now c.args.sides.heaps.after.now c.args.before.now c.args.after.now c.requires.renaming c.loop-place.place c.loop-place-test.true (before_valid c.args.sides.heaps)

pub has_moved-requires-clause-after : goal.has_moved-requires-clause-after
has_moved-requires-clause-after c =
    new_there c.args.sides.heaps.before.now c.args.sides.heaps.after.now c.args.before.now c.args.after.now c.requires.renaming c.loop-place.place c.loop-place-test.true
