use Rattle.std.proofs.Common.{◌≡◌, take, map}
use Rattle.g1_tests.proofs.frontier.addresses.Given as goal

abbrev pub invariant-loop-pair : goal.invariant-loop-pair
invariant-loop-pair l = l.found.items ≡ map (λ q. q.1) (take l.pair-index l.won)
