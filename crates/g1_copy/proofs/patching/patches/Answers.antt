use Rattle.std.proofs.Common.{◌∙◌}
use Rattle.g1_copy.proofs.OnCards.{patches_by_cards}
use Rattle.g1_copy.proofs.patching.patches.Goals as goal

-- the cards rise, so card by card is by address
pub returns-clause-ok : goal.returns-clause-ok
returns-clause-ok g c =
    c.in_ok-patches_by.ensures ∙ patches_by_cards c.args.heap.now c.args.plan.now.survivors c.args.cards.now c.valid.ensures c.requires.rising
