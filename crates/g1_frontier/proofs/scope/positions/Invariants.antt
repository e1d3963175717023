use Rattle.std.proofs.Common.{◌≡◌, length}
use Rattle.g1_frontier.proofs.Positions.{Noted}
use Rattle.g1_frontier.proofs.scope.positions.Given as goal

abbrev pub invariant-loop-index : goal.invariant-loop-index
invariant-loop-index l = record { noted : Noted l.window l.index l.positions.items; count : length l.positions.items ≡ l.regions }
