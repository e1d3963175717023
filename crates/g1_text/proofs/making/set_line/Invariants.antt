use Rattle.std.proofs.Common.{take}
use Rattle.g1_text.specs.Drafts.{numbers}
use Rattle.g1_text.proofs.SetLines.{IsSetLineOf}
use Rattle.g1_text.proofs.making.set_line.Given as goal

abbrev pub invariant-loop-told : goal.invariant-loop-told
invariant-loop-told l = IsSetLineOf (numbers l.draft) l.region (take l.told-index l.told-items) l.number
