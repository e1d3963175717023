use Rattle.std.proofs.Common.{◌≡◌, ◌+◌, arith, subst}
use Rattle.std.specs.Prelude.{None, Some}
use Rattle.std.proofs.Math.Nat.{mul-le-mul_right}
use Rattle.g1_words.specs.Heap.{start}
use Rattle.g1_image.specs.Strays.{IsFirstStray, SlotsBetween}
use Rattle.g1_image.proofs.Slots.{SlotsBetween-start}
use Rattle.g1_image.proofs.StraySlots.{stray_later}
use Rattle.g1_image.proofs.strays.first_of.Goals as goal

pub loop-r-init : goal.loop-r-init
loop-r-init c = SlotsBetween-start c.args.draft.now (start c.args.draft.now c.args.from)

pub returns-in-Some : goal.returns-in-Some
returns-in-Some c =
    let h = c.args.draft.now in
    stray_later h (start h c.args.from) (start h c.loop-r.r) (start h (c.loop-r.r + 1)) (mul-le-mul_right h.geometry.w c.loop-r.auto.r) c.loop-r.invariant
    (Some c.in-Some.p) (subst (IsFirstStray h (start h c.loop-r.r) (start h (c.loop-r.r + 1))) c.in-Some.is c.first_in.ensures)

pub loop-r-preserved : goal.loop-r-preserved
loop-r-preserved c =
    let h = c.args.draft.now in
    stray_later h (start h c.args.from) (start h c.loop-r.r) (start h (c.loop-r.r + 1)) (mul-le-mul_right h.geometry.w c.loop-r.auto.r) c.loop-r.invariant
    None (subst (IsFirstStray h (start h c.loop-r.r) (start h (c.loop-r.r + 1))) c.in_default.is c.first_in.ensures)

pub returns : goal.returns
returns c =
    let h = c.args.draft.now in
    let all : c.loop-r.r ≡ c.args.to = omega (arith, c.loop-r-test.false, c.loop-r.auto.r-end c.requires.order) in
    subst (λ x. SlotsBetween h (start h c.args.from) (start h x)) all c.loop-r.invariant

pub loop-r-smaller : goal.loop-r-smaller
loop-r-smaller c = omega (arith, c.loop-r-test.true)
