use Rattle.std.proofs.Common.{refl, ◌∷◌, []}
use Rattle.g1_frontier.proofs.Claimed.{adds}
use Rattle.g1_frontier.specs.Scope.{place_in, all_pairs_in}
use Rattle.g1_frontier.specs.Items.{items_of}
use Rattle.g1_frontier.proofs.round.round_in.Goals as goal

pub returns-then-workers-eq1-clause-ok : goal.returns-then-workers-eq1-clause-ok
returns-then-workers-eq1-clause-ok g c =
    let s = c.args.scope.now in
    let offered = c.in_ok-offer_alone.ensures.offered in record {
      table = offered.seat;
      whole = offered.whole;
      offers = adds c.args.claims.now (place_in s) (all_pairs_in s (items_of c.args.sought)) c.args.seat c.in_ok-offer_alone.field-0.0
          (c.in_ok-offer_alone.field-0.1.items ∷ []) offered c.in_ok-offer_alone.field-0.0.hand.offers refl;
      won = c.in_ok-offer_alone.ensures.won;
      settled = offered.settled;
    }

pub offer_alone-requires-clause-places : goal.offer_alone-requires-clause-places
offer_alone-requires-clause-places g c = record { scope = c.requires.scope; places = c.requires.places }

pub offer_alone-requires-clause-seat : goal.offer_alone-requires-clause-seat
offer_alone-requires-clause-seat g c = (c.requires.table, c.requires.whole)

pub offer_alone-requires-clause-items : goal.offer_alone-requires-clause-items
offer_alone-requires-clause-items g c = c.requires.items

pub offer_alone-requires-clause-ranks : goal.offer_alone-requires-clause-ranks
offer_alone-requires-clause-ranks g c = c.requires.ranks

pub offer_alone-requires-clause-rise : goal.offer_alone-requires-clause-rise
offer_alone-requires-clause-rise g c = c.requires.rise

pub offer_alone-requires-clause-above : goal.offer_alone-requires-clause-above
offer_alone-requires-clause-above g c = c.requires.above

pub offer_by_crew-requires-clause-places : goal.offer_by_crew-requires-clause-places
offer_by_crew-requires-clause-places g c κs within = record { scope = c.requires.scope; places = c.requires.places }

pub offer_by_crew-requires-clause-seat : goal.offer_by_crew-requires-clause-seat
offer_by_crew-requires-clause-seat g c κs within = (c.requires.table, c.requires.whole)

pub offer_by_crew-requires-clause-items : goal.offer_by_crew-requires-clause-items
offer_by_crew-requires-clause-items g c κs within = c.requires.items

pub offer_by_crew-requires-clause-ranks : goal.offer_by_crew-requires-clause-ranks
offer_by_crew-requires-clause-ranks g c κs within = c.requires.ranks

pub offer_by_crew-requires-clause-rise : goal.offer_by_crew-requires-clause-rise
offer_by_crew-requires-clause-rise g c κs within = c.requires.rise

pub offer_by_crew-requires-clause-above : goal.offer_by_crew-requires-clause-above
offer_by_crew-requires-clause-above g c κs within = c.requires.above

pub offer_by_crew-requires-clause-few : goal.offer_by_crew-requires-clause-few
offer_by_crew-requires-clause-few g c κs within = c.requires.few

pub returns-clause-ok : goal.returns-clause-ok
returns-clause-ok g c = c.offer_by_crew.ensures.ok

pub returns-clause-memory : goal.returns-clause-memory
returns-clause-memory g c = c.offer_by_crew.ensures.memory

pub offer_alone-requires-clause-paired : goal.offer_alone-requires-clause-paired
offer_alone-requires-clause-paired g c = c.requires.paired

pub offer_by_crew-requires-clause-paired : goal.offer_by_crew-requires-clause-paired
offer_by_crew-requires-clause-paired g c κs within = c.requires.paired
