use Rattle.std.proofs.Common.{◌≡◌, map, take}
use Rattle.g1_words.specs.Copy.{renamed}
use Rattle.g1_words.specs.Layout.{moved_to}
use Rattle.g1_copy.proofs.preparing.new_roots.Given as goal

abbrev pub invariant-loop-root : goal.invariant-loop-root
invariant-loop-root l = l.roots.items ≡ map (renamed (moved_to l.moving.plan.survivors l.moving.plan.places)) (take l.root-index l.root-items)
