use Rattle.std.proofs.Common.{◌+◌, ◌∙◌, ap, sym, subst, get_or, slice_index}
use Rattle.g1_same.proofs.Following.{IsOn, on_start, on_step}
use Rattle.g1_same.proofs.ending.follow.Goals as goal

pub loop-slot-init : goal.loop-slot-init
loop-slot-init c =
    let h = c.args.heap.now in
    let slots = c.args.slots.now in
    subst (λ roots. IsOn h c.args.root slots 0 (slice_index roots c.args.root)) (sym c.roots.ensures)
    (on_start h c.words-words.ensures.valid c.args.root slots c.requires.0 c.requires.1)

pub loop-slot-preserved : goal.loop-slot-preserved
loop-slot-preserved c =
    let h = c.args.heap.now in
    let slots = c.args.slots.now in
    let i = c.loop-slot.slot-index in
    let x = c.loop-slot.reference in
    subst (IsOn h c.args.root slots (i + 1)) (sym (c.at-reference.ensures ∙ ap (λ words. slice_index words (x + get_or slots i 0)) c.words-words.ensures.same))
    (on_step h c.words-words.ensures.valid c.args.root slots c.requires.0 c.requires.1 i x c.loop-slot.invariant c.loop-slot-test.true)
