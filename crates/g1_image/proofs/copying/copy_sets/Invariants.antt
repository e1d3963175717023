use Rattle.std.proofs.Common.{◌≡◌, map, take}
use Rattle.g1_image.proofs.copying.copy_sets.Given as goal

abbrev pub invariant-loop-set : goal.invariant-loop-set
invariant-loop-set l = map (λ s. s.items) l.copies.items ≡ map (λ s. s.items) (take l.set-index l.sets)
