use Rattle.std.proofs.Common.{◌<◌, ◌^◌, drop}
use Rattle.g1_text.proofs.Digits.{SoFar}
use Rattle.g1_text.proofs.words.whole.Given as goal

abbrev pub invariant-loop-at : goal.invariant-loop-at
invariant-loop-at l = (l.number < 2 ^ 64) × SoFar l.fn.text (drop l.at l.digits) l.number
