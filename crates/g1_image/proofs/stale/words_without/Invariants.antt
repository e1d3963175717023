use Rattle.std.proofs.Common.{◌≡◌, ◌≤◌, take}
use Rattle.g1_image.specs.Stale.{nulled}
use Rattle.g1_image.proofs.stale.words_without.Given as goal

abbrev pub invariant-loop-stale : goal.invariant-loop-stale
invariant-loop-stale l = (l.nulled.items ≡ nulled (take l.stale-index l.found) l.fn.words.items) × (l.fn.words.laid ≤ l.nulled.laid)
