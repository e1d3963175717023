use Rattle.std.proofs.Common.{◌≡◌, [], drop, refl, sym, ◌∙◌, ap, arith}
use Rattle.std.proofs.lemmas.List.{drop_all}
use Rattle.g1_copy.specs.Slices.{patched}
use Rattle.g1_copy.proofs.InPlaceSlices.{patched_one}
use Rattle.g1_copy.proofs.filling.write_patches.Goals as goal

pub loop-slot-init : goal.loop-slot-init
loop-slot-init c = refl

pub loop-slot-preserved : goal.loop-slot-preserved
loop-slot-preserved c =
    let k = c.loop-slot.slot-index in
    c.loop-slot.invariant ∙ patched_one c.args.patches.now k c.args.start c.loop-slot.words c.loop-slot-test.true (c.requires.there k (0, 0) c.loop-slot-test.true).0

pub returns : goal.returns
returns c =
    let none : drop c.loop-slot.slot-index c.args.patches.now ≡ [] = drop_all c.loop-slot.slot-index c.args.patches.now (omega (arith, c.loop-slot-test.false)) in
    sym (c.loop-slot.invariant ∙ ap (λ ps. patched ps c.args.start c.loop-slot.words) none)

pub loop-slot-smaller : goal.loop-slot-smaller
loop-slot-smaller c = omega (arith, c.loop-slot-test.true)
