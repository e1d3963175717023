use Rattle.std.proofs.Common.{◌∙◌, arith}
use Rattle.g1heap_cli.proofs.YoungCards.{card_more}
use Rattle.g1heap_cli.proofs.young.push_cards.Goals as goal

pub loop-card-preserved : goal.loop-card-preserved
loop-card-preserved c = record {
  order = omega (arith, c.loop-card.invariant.order);
  cards = c.in_ok-push.ensures.items ∙ card_more c.args.cards.now.items c.loop-card.cards.items c.card_of-first.result c.loop-card.card c.loop-card.invariant.order c.loop-card.invariant.cards;
}
