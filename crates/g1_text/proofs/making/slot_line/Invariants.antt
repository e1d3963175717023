use Rattle.g1_text.specs.Drafts.{content, numbers}
use Rattle.g1_text.proofs.SlotLines.{IsBelowSoFar}
use Rattle.g1_text.proofs.making.slot_line.Given as goal

abbrev pub invariant-loop-object : goal.invariant-loop-object
invariant-loop-object l = IsBelowSoFar (numbers l.draft) (content l.draft).addresses l.slot l.object-index l.number
