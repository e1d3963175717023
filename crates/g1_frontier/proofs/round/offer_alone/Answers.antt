use Rattle.std.proofs.Common.{◌∙◌}
use Rattle.g1_frontier.specs.Scope.{place_in, all_pairs_in}
use Rattle.g1_frontier.proofs.Alone.{alone_offered, alone_won}
use Rattle.g1_frontier.specs.Items.{items_of}
use Rattle.g1_frontier.proofs.round.offer_alone.Goals as goal

pub returns-clause-offered : goal.returns-clause-offered
returns-clause-offered c =
    let s = c.args.scope.now in
    let tried = c.in_ok-offer_sought.ensures in
    alone_offered c.args.claims.now (place_in s) (all_pairs_in s (items_of c.args.sought)) (record {
      number = 0;
      seat = c.args.seat;
      kept = c.empty_room.result;
    }) c.offer_sought.new.holder tried c.empty_room.ensures c.requires.seat.1 c.requires.rise
    (tried.table ∙ c.requires.seat.0) (c.settled.ensures.whole (tried.shares ∙ c.requires.seat.1))

pub returns-clause-won : goal.returns-clause-won
returns-clause-won c =
    let s = c.args.scope.now in
    let tried = c.in_ok-offer_sought.ensures in
    alone_won c.args.claims.now (place_in s) (all_pairs_in s (items_of c.args.sought)) (record {
      number = 0;
      seat = c.args.seat;
      kept = c.empty_room.result;
    }) c.offer_sought.new.holder tried c.empty_room.ensures c.requires.seat.1 c.requires.rise
    (tried.table ∙ c.requires.seat.0) (c.settled.ensures.whole (tried.shares ∙ c.requires.seat.1)) c.requires.above
