use Rattle.std.proofs.Common.{ap, ◌∙◌, length}
use Rattle.g1_words.specs.Numbers.{number_at}
use Rattle.g1_words.proofs.Numbering.{number_of_all}
use Rattle.g1_words.proofs.numbers.Numbers.count.Goals as goal

pub returns : goal.returns
returns c = c.self.invariant.2 ∙ number_of_all c.self.inside.blocks.items c.self.invariant.0 ∙ ap (λ l. number_at l (length l)) c.self.view_is
