use Rattle.std.proofs.Common.{◌≡◌, arith, slice_index}
use borrow.Author.Count.{below_more}
use Rattle.g1_same.proofs.meeting.first_other.Goals as goal

pub loop-place-init : goal.loop-place-init
loop-place-init c = λ i lt. absurd (omega (arith, lt))

pub loop-place-smaller : goal.loop-place-smaller
loop-place-smaller c = omega (arith, c.loop-place-test.true)

pub loop-place-preserved : goal.loop-place-preserved
loop-place-preserved c = below_more (λ i. slice_index c.args.old.now i ≡ slice_index c.args.new.now i) c.loop-place.place c.loop-place.invariant c.if-old-place.false

pub returns-then-old-place-clause-before : goal.returns-then-old-place-clause-before
returns-then-old-place-clause-before c = c.loop-place.invariant

pub returns-then-old-place-clause-none : goal.returns-then-old-place-clause-none
returns-then-old-place-clause-none c = tt
