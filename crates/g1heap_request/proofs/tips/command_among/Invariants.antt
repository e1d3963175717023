use Rattle.g1heap_request.proofs.Tipped.{IsNoneSoFar}
use Rattle.g1heap_request.proofs.tips.command_among.Given as goal

abbrev pub invariant-loop-other : goal.invariant-loop-other
invariant-loop-other l = IsNoneSoFar l.word l.names l.other-index
