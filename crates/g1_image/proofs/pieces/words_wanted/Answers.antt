use Rattle.std.proofs.Math.Nat.{min-le_left}
use Rattle.g1_image.proofs.pieces.words_wanted.Goals as goal

pub returns : goal.returns
returns c = rw c.min.ensures (min-le_left c.args.left c.saturating_sub.result)
