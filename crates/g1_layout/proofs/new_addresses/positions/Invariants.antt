use Rattle.std.proofs.Common.{◌≡◌, length}
use Rattle.g1_layout.proofs.Positions.{Positioned}
use Rattle.g1_layout.proofs.new_addresses.positions.Given as goal

abbrev pub invariant-loop-i : goal.invariant-loop-i
invariant-loop-i l = record { positioned : Positioned l.set l.i l.positions.items; count : length l.positions.items ≡ l.regions }
