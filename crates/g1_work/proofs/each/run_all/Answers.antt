use Rattle.g1_work.proofs.each.run_all.Goals as goal

pub run_in_turn-requires-after_bounds : goal.run_in_turn-requires-after_bounds
run_in_turn-requires-after_bounds g c κs within = c.requires

pub returns-then-chunks-le1 : goal.returns-then-chunks-le1
returns-then-chunks-le1 g c = c.run_in_turn.ensures
