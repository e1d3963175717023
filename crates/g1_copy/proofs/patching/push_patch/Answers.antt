use Rattle.std.proofs.Common.{◌∙◌, ◌++◌, ap, sym, arith, append-nil}
use Rattle.g1_copy.specs.Patches.{patch_at}
use Rattle.g1_copy.specs.Plans.{Moving}
use Rattle.g1_copy.proofs.Moves.{patch_moved, patch_still, place_below}
use Rattle.g1_copy.proofs.patching.push_patch.Goals as goal

pub overflow_add-place : goal.overflow_add-place
overflow_add-place c =
    let m = c.moving.inside in
    let valid = c.moving.invariant.0 in
    let low = place_below m.heap.now m.plan.now valid c.moving.invariant.1 c.args.slot c.at-word.result
    c.forward-place.result c.words.result.now.items c.words.ensures.same c.at-word.ensures c.if-word-eq0.false c.forward-place.ensures c.if-place-target.true in
    omega (arith, low, valid.limits.words_most)

pub returns-in_ok-push : goal.returns-in_ok-push
returns-in_ok-push c =
    let m = c.moving.inside in
    c.in_ok-push.ensures.items
    ∙ ap (λ z. c.args.patches.now.items ++ z) (sym (patch_moved m.heap.now m.plan.now c.moving.invariant.0 c.moving.invariant.1 c.args.slot
    c.at-word.result c.forward-place.result c.words.result.now.items c.words.ensures.same c.at-word.ensures c.if-word-eq0.false c.forward-place.ensures c.if-place-target.true)
    ∙ ap (λ (v : Moving). patch_at v.heap v.plan.survivors c.args.slot) c.moving.view_is)

pub returns-else-place-target : goal.returns-else-place-target
returns-else-place-target c =
    let m = c.moving.inside in
    sym (append-nil c.args.patches.now.items)
    ∙ ap (λ z. c.args.patches.now.items ++ z) (sym (patch_still m.heap.now m.plan.now c.moving.invariant.0 c.moving.invariant.1 c.args.slot
    c.at-word.result c.forward-place.result c.words.result.now.items c.words.ensures.same c.at-word.ensures c.if-word-eq0.false c.forward-place.ensures c.if-place-target.false)
    ∙ ap (λ (v : Moving). patch_at v.heap v.plan.survivors c.args.slot) c.moving.view_is)
