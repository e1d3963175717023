use Rattle.std.proofs.Common.{arith}
use Rattle.std.proofs.lemmas.Grind.{common_steps}
use Rattle.g1_text.proofs.printing.push_region_line.Goals as goal

pub returns : goal.returns
returns c = grind (arith, common_steps)
