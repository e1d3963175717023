use Rattle.g1_frontier.proofs.Pieces.{part_cut}
use Rattle.g1_frontier.proofs.sought.cut.Goals as goal

pub returns : goal.returns
returns g c = part_cut c.args.from c.args.most c.min.result c.args.list.now c.min.ensures
