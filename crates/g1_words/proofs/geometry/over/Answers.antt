use Rattle.std.proofs.Common.{arith, ◌<◌, ◌/◌, ◌^◌, ap}
use Rattle.g1_words.proofs.Powers.{power_place}
use Rattle.g1_words.proofs.geometry.over.Goals as goal

pub returns : goal.returns
returns c = let small : c.args.power < 2 ^ 64 = omega arith in ap (λ d. c.args.a / d) (power_place c.args.power c.requires small).1
