use Rattle.g1_text.proofs.Cutting.{cut_at, uncut}
use Rattle.g1_text.proofs.reading.first_line.Goals as goal

pub returns-in-Some : goal.returns-in-Some
returns-in-Some c =
    cut_at c.args.text.now c.split_at.result.0.now c.split_at.result.1.now c.split_at-in-Some.result.1.now c.in-Some.end c.in-Some.ensures.0 c.in-Some.ensures.1
    c.split_at.ensures.front c.split_at.ensures.back c.split_at-in-Some.ensures.back

pub returns-in-None : goal.returns-in-None
returns-in-None c = uncut c.args.text.now c.in-None.ensures
