use Rattle.g1_work.specs.Make.{AreMade}
use Rattle.g1_work.proofs.make.make_in_turn.Given as goal

abbrev pub invariant-loop-number : goal.invariant-loop-number
invariant-loop-number g l = AreMade (g.M.Make.makes l.maker) l.number l.made.items
