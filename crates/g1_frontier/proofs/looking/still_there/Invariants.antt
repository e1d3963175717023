use Rattle.std.proofs.Common.{take}
use Rattle.g1_claim.specs.Claims.{IsSeatOf}
use Rattle.g1_frontier.specs.Scope.{place_in}
use Rattle.g1_frontier.specs.Looking.{HasLooked}
use Rattle.g1_frontier.proofs.looking.still_there.Given as goal

abbrev pub invariant-loop-pair : goal.invariant-loop-pair
invariant-loop-pair l = record {
  seat : IsSeatOf l.claims l.seat;
  looked : HasLooked (place_in l.scope) (take l.pair-index l.pairs) l.initial.seat l.seat l.kept.items;
}
