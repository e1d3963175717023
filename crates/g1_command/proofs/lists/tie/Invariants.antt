use Rattle.std.proofs.Common.{drop, map}
use Rattle.g1_command.proofs.Tied.{SoFar}
use Rattle.g1_command.proofs.lists.tie.Given as goal

abbrev pub invariant-loop-place : goal.invariant-loop-place
invariant-loop-place l = SoFar (map (λ w. w.bytes.items) l.words) (map (λ w. w.bytes.items) l.tied.items) l.follows (drop l.place (map (λ w. w.bytes.items) l.words))
