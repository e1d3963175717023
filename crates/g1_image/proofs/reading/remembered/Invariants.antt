use Rattle.std.proofs.Common.{map}
use Rattle.g1_image.specs.Faults.{RememberedFits}
use Rattle.g1_image.proofs.PrefixFree.{Came}
use Rattle.g1_image.specs.Text.{remembered_text}
use Rattle.g1_image.proofs.reading.remembered.Given as goal

abbrev pub invariant-loop-i : goal.invariant-loop-i
invariant-loop-i l = Came RememberedFits remembered_text l.bytes l._i (map (λ s. s.items) l.remembered.items) l.rest
