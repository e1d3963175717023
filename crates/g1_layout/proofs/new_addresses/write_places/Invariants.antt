use Rattle.g1_layout.specs.Words.{ArePlacedTo}
use Rattle.g1_layout.proofs.new_addresses.write_places.Given as goal

abbrev pub invariant-loop-i : goal.invariant-loop-i
invariant-loop-i l = ArePlacedTo l.geometry.w l.positions l.numbers l.survivors l.places l.i l.by_number
