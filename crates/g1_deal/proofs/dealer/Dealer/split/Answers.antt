use Rattle.std.proofs.Common.{rules}
use Rattle.g1_deal.proofs.Moves.{splits}
use Rattle.g1_deal.proofs.dealer.Dealer.split.Goals as goal

pub split_seat-other-requires : goal.split_seat-other-requires
split_seat-other-requires c = (search rules, search rules, splits _ _ _ (search rules))
