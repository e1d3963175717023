-- What any interleaving of steps comes to.
use Rattle.std.proofs.Common.{◌<◌, min, arith}
use Rattle.g1_deal.specs.Interleaving.{NoneTwice, NoneSkipped, DrawnSoFar, FloorsHold}
use Rattle.g1_deal.proofs.Counts.{once_at, once_one, below_once}
use Rattle.g1_deal.proofs.Moves.{leads_keeps}

pub none_twice : NoneTwice
none_twice chunks cursor hands leads x =
    let d = (leads_keeps chunks cursor hands leads).draws x in let one = once_one x (min cursor chunks) in omega arith

pub none_skipped : NoneSkipped
none_skipped chunks cursor hands leads x y lt much =
    let d = (leads_keeps chunks cursor hands leads).draws x in let e = (leads_keeps chunks cursor hands leads).draws y in
    let below : y < min cursor chunks = below_once y (min cursor chunks) (omega arith) in
    let one = once_at x (min cursor chunks) (omega arith) in omega arith

pub drawn_so_far : DrawnSoFar
drawn_so_far chunks cursor hands leads = let kept = leads_keeps chunks cursor hands leads in (kept.count, kept.draws)

pub floors_hold : FloorsHold
floors_hold chunks cursor hands leads k v at =
    let kept = leads_keeps chunks cursor hands leads in let sound = kept.each k v at in (
      (λ x lt. let d = kept.draws x in let f = sound.floor_seen in let one = once_at x (min cursor chunks) (omega arith) in omega arith),
      sound.none_is_end,
    )
