use Rattle.std.proofs.Common.{◌≡◌, ◌<◌, ℕ, take, map}
use Rattle.g1_image.specs.Image.{region_of_entry}
use Rattle.g1_image.specs.Faults.{IsKnownKind}
use Rattle.g1_image.proofs.table.regions.Given as goal

abbrev pub invariant-loop-r : goal.invariant-loop-r
invariant-loop-r l = (l.regions.items ≡ map region_of_entry (take l.r l.table)) × ((q : ℕ) → q < l.r → IsKnownKind l.table q)
