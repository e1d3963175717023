use Rattle.std.proofs.Common.{slice_index, sym, ap, ◌∙◌}
use Rattle.g1_image.specs.Dirty.{with_dirty_card}
use Rattle.g1_image.proofs.Dirty.{cards_more}
use Rattle.g1_image.proofs.copying.put_cards.Goals as goal

pub loop-card-preserved : goal.loop-card-preserved
loop-card-preserved c =
    let cards = c.args.cards.now in
    let i = c.loop-card.card-index in
    c.in_ok-insert.ensures.keys ∙ ap (λ l. with_dirty_card l (slice_index cards i)) c.loop-card.invariant ∙ sym (cards_more c.args.log.now.keys cards i 0 c.loop-card-test.true)
