use Rattle.std.proofs.Common.{◌<◌, ◌∙◌, ◌++◌, ap, sym, subst, append-nil, get_or, take, Contains, arith, length}
use Rattle.std.proofs.lemmas.List.{take_all, take_more, get_or_default}
use Rattle.g1_rem.proofs.Entering.{slot_good}
use Rattle.g1_rem.specs.Slots.{slots_on}
use Rattle.g1_copy.specs.Patches.{patch_at, patches_at}
use Rattle.g1_copy.specs.Plans.{Moving}
use Rattle.g1_copy.proofs.OnCards.{pushed_more}
use Rattle.g1_copy.proofs.patching.push_card.Goals as goal

pub push_patch-requires : goal.push_patch-requires
push_patch-requires c =
    let xs = c.as_slice-slot-items.result.now in
    let i = c.loop-slot.slot-index in
    subst (λ (m : Moving). get_or c.as_slice-slot-items.result.now c.loop-slot.slot-index 0 < length m.heap.words) c.moving.view_is
    (slot_good c.moving.inside.heap.now c.args.card (get_or c.as_slice-slot-items.result.now c.loop-slot.slot-index 0) c.moving.invariant.0
    (subst (λ l. Contains l (get_or c.as_slice-slot-items.result.now c.loop-slot.slot-index 0)) (c.as_slice-slot-items.ensures ∙ c.slots_on-slots.ensures.items)
    (i, c.loop-slot-test.true, get_or_default xs i (get_or xs i 0) 0 c.loop-slot-test.true))).0

pub loop-slot-init : goal.loop-slot-init
loop-slot-init c = sym (append-nil c.args.patches.now.items)

pub loop-slot-preserved : goal.loop-slot-preserved
loop-slot-preserved c =
    let xs = c.as_slice-slot-items.result.now in
    let i = c.loop-slot.slot-index in
    let m : Moving = c.args.moves.now in
    pushed_more (patch_at m.heap m.plan.survivors) c.args.patches.now.items c.loop-slot.patches.items c.push_patch.new.patches.items (take i xs) (get_or xs i 0) c.loop-slot.invariant
    (c.in_ok-push_patch.ensures ∙ ap (λ (v : Moving). c.loop-slot.patches.items ++ patch_at v.heap v.plan.survivors (get_or xs i 0)) c.moves.view_is)
    ∙ ap (λ ys. c.args.patches.now.items ++ patches_at m.heap m.plan.survivors ys) (sym (take_more xs i 0 c.loop-slot-test.true))

pub returns : goal.returns
returns c =
    c.loop-slot.invariant
    ∙ ap (λ ys. c.args.patches.now.items ++ patches_at c.args.moves.now.heap c.args.moves.now.plan.survivors ys)
    (take_all c.loop-slot.slot-index c.as_slice-slot-items.result.now c.loop-slot-test.false ∙ c.as_slice-slot-items.ensures ∙ c.slots_on-slots.ensures.items
    ∙ ap (λ (m : Moving). slots_on m.heap c.args.card) (c.moving.view_is ∙ c.moves.view_is))

pub loop-slot-smaller : goal.loop-slot-smaller
loop-slot-smaller c = omega (arith, c.loop-slot-test.true)
