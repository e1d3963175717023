use Rattle.std.proofs.Common.{◌≡◌, length, get_or, set, refl, subst, arith}
use Rattle.g1_copy.specs.Fates.{AreReplaced}
use Rattle.g1_copy.specs.declared.fates.Fate.TheVariants.{Freed}
use Rattle.g1_copy.proofs.FatesMade.{Replaced-start, Replaced-step}
use Rattle.g1_copy.proofs.fates.free.Goals as goal

pub loop-region-init : goal.loop-region-init
loop-region-init c = Replaced-start (λ t. get_or c.args.set.now t 0) (λ t. Freed) c.args.fates.now

pub loop-region-preserved : goal.loop-region-preserved
loop-region-preserved c =
    let i = c.loop-region.region-index in
    Replaced-step i (λ t. get_or c.args.set.now t 0) (λ t. Freed) c.args.fates.now c.loop-region.fates (set c.loop-region.fates (get_or c.args.set.now i 0) Freed) c.loop-region.invariant
    (c.requires i 0 c.loop-region-test.true)
    (λ t lt e. refl)
    refl

pub returns : goal.returns
returns c =
    let end : c.loop-region.region-index ≡ length c.args.set.now = omega (arith, c.loop-region-test.false, c.loop-region.auto.region-index-end) in
    subst (λ n. AreReplaced n (λ t. get_or c.args.set.now t 0) (λ t. Freed) c.args.fates.now c.loop-region.fates) end c.loop-region.invariant

pub loop-region-smaller : goal.loop-region-smaller
loop-region-smaller c = omega (arith, c.loop-region-test.true)
