use Rattle.std.proofs.Common.{ap, sym, ◌∙◌}
use Rattle.g1judge.specs.Answered.{answer_loss}
use Rattle.g1judge.proofs.answering.of_loss.Goals as goal

pub returns-in-Slot : goal.returns-in-Slot
returns-in-Slot c = c.of_numbers-in-Slot.ensures ∙ ap answer_loss (sym c.in-Slot.is)
