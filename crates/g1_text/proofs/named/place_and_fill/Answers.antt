use Rattle.g1_text.proofs.Holding.{told_sizes}
use Rattle.g1_text.proofs.named.place_and_fill.Goals as goal

pub returns-in-Ok-clause-carried : goal.returns-in-Ok-clause-carried
returns-in-Ok-clause-carried c = λ g read.
    let placed = c.in-Ok.ensures.placed in
    c.fill.ensures.carried g placed.0 read placed.1 (told_sizes c.args.lines.sizes g.sizes placed.0 read.sizes placed.2)
