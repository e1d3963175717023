use Rattle.std.proofs.Common.{length}
use Rattle.g1_trace.proofs.Texts.{IsRead}
use Rattle.g1_trace.proofs.parsing.parse_trace.Given as goal

abbrev pub decreases-loop-rest : goal.decreases-loop-rest
decreases-loop-rest l = length l.rest

-- so many lines are read
abbrev pub invariant-loop-rest : goal.invariant-loop-rest
invariant-loop-rest l = IsRead l.bytes l.w l.k l.n l.roots l.commands.items l.rest
