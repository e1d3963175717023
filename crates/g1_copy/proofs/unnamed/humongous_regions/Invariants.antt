use Rattle.std.proofs.Common.{◌≡◌, flat_map, take}
use Rattle.g1_copy.specs.Unnamed.{humongous_regions}
use Rattle.g1_copy.proofs.unnamed.humongous_regions.Given as goal

abbrev pub invariant-loop-region : goal.invariant-loop-region
invariant-loop-region l = l.regions.items ≡ flat_map (humongous_regions l.heap) (take l.region-index l.firsts)
