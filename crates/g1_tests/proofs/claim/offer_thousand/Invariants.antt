use Rattle.std.proofs.Common.{◌≡◌}
use Rattle.g1_claim.specs.Claims.{IsSeatOf}
use Rattle.g1_tests.proofs.claim.offer_thousand.Given as goal

abbrev pub invariant-loop-k : goal.invariant-loop-k
invariant-loop-k l = IsSeatOf l.claims l.seat × (l.seat.hand.shares ≡ 1)
