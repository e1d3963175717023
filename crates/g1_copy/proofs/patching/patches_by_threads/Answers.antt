use Rattle.std.proofs.Common.{◌≡◌, ◌<◌, ◌++◌, length, get_or, ap, sym, ◌∙◌, arith}
use Rattle.std.specs.Prelude.{Ok}
use Rattle.g1_work.proofs.Chunks.{all_chunks}
use Rattle.g1_copy.specs.Patches.{patches_by_card}
use Rattle.g1_copy.proofs.PatchesShared.{shared_more, shared_part}
use Rattle.g1_copy.proofs.patching.patches_by_threads.Goals as goal

pub loop-part-preserved : goal.loop-part-preserved
loop-part-preserved g c =
    let h = c.args.moves.now.heap in
    let l = c.args.moves.now.plan.survivors in
    let i = c.loop-part.part-index in
    let size = c.max-size.result in
    let lt : i < length c.in_ok-parts.parts.items = omega (arith, ap length c.deref-part-items.ensures.value, c.loop-part-test.true) in
    let call = (c.in_ok-parts.ensures.each i c.part-item.result lt).1 in
    let read : get_or c.in_ok-parts.parts.items i c.part-item.result ≡ Ok c.in-Ok.part =
    ap (λ xs. get_or xs i c.part-item.result) (sym c.deref-part-items.ensures.value) ∙ sym c.part-item.is ∙ c.in-Ok.is in
    let part = shared_part h l c.args.cards.now size (get_or c.in_ok-parts.parts.items i c.part-item.result) c.in-Ok.part call.argument.now _ read call.call call.argument_is.value in
    shared_more h l c.args.cards.now size i c.loop-part.patches.items c.in-Ok.part.items c.extend_from_slice.new.self.items c.loop-part.invariant
    part (c.in_ok-extend_from_slice-in-Ok.ensures.items ∙ ap (λ xs. c.loop-part.patches.items ++ xs) c.deref.ensures.value)

pub returns : goal.returns
returns g c =
    let whole = all_chunks c.args.cards.now c.max-size.result c.loop-part.part-index
    (omega (arith, c.max-size.ensures)) (omega (arith, ap length c.deref-part-items.ensures.value, c.loop-part-test.false, c.loop-part.auto.part-index-end, c.in_ok-parts.ensures.len)) in
    c.loop-part.invariant ∙ ap (patches_by_card c.args.moves.now.heap c.args.moves.now.plan.survivors) whole
