use Rattle.std.proofs.Common.{refl}
use Rattle.g1_deal.specs.Rule.{begin}
use Rattle.g1_deal.proofs.dealer.Dealer.new.Goals as goal

pub of_words-requires : goal.of_words-requires
of_words-requires c = (refl, begin c.requires)
