use Rattle.g1_after.proofs.NamedByCards.{named_by_cards}
use Rattle.g1_after.proofs.laws.named_by_cards.Goals as goal

pub returns : goal.returns
returns c = named_by_cards
