use Rattle.std.proofs.Common.{length, slice_index, arith, sym, ap, subst}
use Rattle.g1_image.proofs.StaleWords.{Gathers, RootsBelow, roots_none, roots_more, roots_all}
use Rattle.g1_image.proofs.stale.stale_roots.Goals as goal

pub loop-i-init : goal.loop-i-init
loop-i-init c = subst (Gathers (RootsBelow c.args.draft.now 0)) (sym c.new-found.ensures.items) (roots_none c.args.draft.now)

pub loop-i-preserved : goal.loop-i-preserved
loop-i-preserved c =
    let h = c.args.draft.now in
    let i = c.loop-i.i in
    let roots = c.roots-x-items.result.now in
    let same = c.roots-x-items.ensures.same in
    roots_more h i (slice_index roots i) c.loop-i.found.items c.put_stale.new.found.items c.loop-i.invariant (omega (arith, c.loop-i-test.true, ap length same)) (ap (λ l. slice_index l i) (sym same))
    c.in_ok-put_stale.ensures

pub returns : goal.returns
returns c = roots_all c.args.draft.now c.loop-i.i c.loop-i.found.items c.loop-i.invariant (omega (arith, c.loop-i-test.false, ap length c.roots-x-items.ensures.same))
