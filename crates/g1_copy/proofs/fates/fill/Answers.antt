use Rattle.std.proofs.Common.{◌≡◌, length, get_or, set, refl, subst, arith}
use Rattle.g1_copy.specs.Fates.{AreReplaced}
use Rattle.g1_copy.specs.declared.fates.Fate.TheVariants.{Filled}
use Rattle.g1_copy.proofs.FatesMade.{Replaced-start, Replaced-step}
use Rattle.g1_copy.proofs.fates.fill.Goals as goal

pub loop-run-init : goal.loop-run-init
loop-run-init c = Replaced-start (λ t. get_or c.args.to_space.now t 0) (λ t. Filled t) c.args.fates.now

pub loop-run-preserved : goal.loop-run-preserved
loop-run-preserved c =
    let i = c.loop-run.run in
    Replaced-step i (λ t. get_or c.args.to_space.now t 0) (λ t. Filled t) c.args.fates.now c.loop-run.fates (set c.loop-run.fates (get_or c.args.to_space.now i 0) (Filled i)) c.loop-run.invariant
    (c.requires.there i 0 c.loop-run-test.true)
    (λ t lt e. absurd (c.requires.distinct t i 0 lt c.loop-run-test.true e))
    refl

pub returns : goal.returns
returns c =
    let end : c.loop-run.run ≡ length c.args.to_space.now = omega (arith, c.loop-run-test.false, c.loop-run.auto.run-end) in
    subst (λ n. AreReplaced n (λ t. get_or c.args.to_space.now t 0) (λ t. Filled t) c.args.fates.now c.loop-run.fates) end c.loop-run.invariant

pub loop-run-smaller : goal.loop-run-smaller
loop-run-smaller c = omega (arith, c.loop-run-test.true)
