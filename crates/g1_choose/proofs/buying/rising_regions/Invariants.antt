use Rattle.std.proofs.Common.{◌≡◌, map, take}
use Rattle.g1_choose.proofs.buying.rising_regions.Given as goal

abbrev pub invariant-loop-candidate : goal.invariant-loop-candidate
invariant-loop-candidate l = l.regions.items ≡ map (λ x. x.region) (take l.candidate-index l.candidates)
