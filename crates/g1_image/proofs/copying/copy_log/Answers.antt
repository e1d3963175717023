use Rattle.std.proofs.Common.{ap, ◌∙◌}
use Rattle.g1_image.specs.Dirty.{with_dirty_cards}
use Rattle.g1_image.proofs.Dirty.{cards_again}
use Rattle.g1_image.proofs.copying.copy_log.Goals as goal

pub returns : goal.returns
returns c = c.in_ok-put_cards.ensures ∙ ap (λ l. with_dirty_cards l c.args.log.now) c.in_ok-copy.ensures.empty ∙ cards_again c.args.log.now c.requires
