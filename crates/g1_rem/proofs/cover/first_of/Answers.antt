use Rattle.std.proofs.Common.{arith, refl}
use Rattle.g1_rem.proofs.Bare.{bare_first, bare_next, bare_over}
use Rattle.g1_rem.proofs.cover.first_of.Goals as goal

pub loop-region-init : goal.loop-region-init
loop-region-init c = record { same = refl; ready = c.requires.ready }

pub first_in-requires-clause-region : goal.first_in-requires-clause-region
first_in-requires-clause-region c = omega (arith, c.loop-region-test.true, c.requires.regions)

pub returns-in-Some : goal.returns-in-Some
returns-in-Some c =
    bare_first c.args.image.now c.args.from c.loop-region.region c.args.to c.in-Some.p c.loop-region-test.true c.loop-region.invariant.same c.in-Some.ensures.first

pub loop-region-preserved : goal.loop-region-preserved
loop-region-preserved c = record {
  same = bare_next c.args.image.now c.args.from c.loop-region.region c.args.to c.loop-region-test.true c.loop-region.invariant.same c.in_default.ensures.first;
  ready = c.first_in.ensures.ready c.in_default.is;
}

pub returns : goal.returns
returns c = bare_over c.args.image.now c.args.from c.loop-region.region c.args.to (omega (arith, c.loop-region-test.false)) c.loop-region.invariant.same

pub loop-region-smaller : goal.loop-region-smaller
loop-region-smaller c = omega (arith, c.loop-region-test.true)
