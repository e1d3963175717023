use Rattle.std.proofs.Common.{◌≡◌, ◌+◌, arith, length, refl, subst, sym}
use Rattle.g1_work.specs.Ranges.{IsCut}
use Rattle.g1_work.proofs.Cutting.{IsCutTo, cut_start, cut_step, cut_end}
use Rattle.g1_work.proofs.ranges.cut_regions.Goals as goal

pub loop-range-init : goal.loop-range-init
loop-range-init c = (subst (λ l. IsCutTo (length c.args.regions.now) 0 l 0) (sym c.new-begins.ensures.items) (cut_start (length c.args.regions.now)), omega arith)

pub next_begin-begin-requires-clause-order : goal.next_begin-begin-requires-clause-order
next_begin-begin-requires-clause-order c = c.loop-range.invariant.0.within

pub loop-range-preserved : goal.loop-range-preserved
loop-range-preserved c = (
  subst (λ l. IsCutTo (length c.args.regions.now) (c.loop-range._range + 1) l c.next_begin-begin.result) (sym c.in_ok-push.ensures.items)
      (cut_step (length c.args.regions.now) c.loop-range._range c.loop-range.begins.items c.loop-range.begin c.loop-range.invariant.0
      c.next_begin-begin.result c.next_begin-begin.ensures.order c.next_begin-begin.ensures.within),
  omega (arith, c.loop-range-test.true),
)

pub returns : goal.returns
returns c =
    let same : c.loop-range._range ≡ c.args.ranges = omega (arith, c.loop-range-test.false, c.loop-range.invariant.1) in
    subst (IsCut (length c.args.regions.now) c.args.ranges) (sym c.in_ok-push-2.ensures.items)
    (cut_end (length c.args.regions.now) c.loop-range._range c.loop-range.begins.items c.loop-range.begin c.loop-range.invariant.0 (length c.args.regions.now)
    c.args.ranges refl same (omega (arith, same, c.requires.some)))
