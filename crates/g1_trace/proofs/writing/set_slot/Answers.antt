use Rattle.std.proofs.Common.{arith, ap, ◌∙◌}
use Rattle.g1_image.specs.Image.{Image}
use Rattle.g1_trace.proofs.LaidWords.{laid_more, word_written}
use Rattle.g1_trace.proofs.writing.set_slot.Goals as goal

pub invariant_of-image-inside-2 : goal.invariant_of-image-inside-2
invariant_of-image-inside-2 c = (
  word_written c.args.tracked.now.heap _ c.args.at c.args.value c.set.new.self.items ((λ t. (c.image-inside.view_is t).heap) ∙ ap (λ (i : Image). i.heap) (c.image.view_is ∙ c.tracked.view_is)) c.set.ensures.items c.requires.kept.image.heap,
  laid_more _ _ _ c.set.new.self.laid (omega (arith, c.set.ensures.laid)) c.image-inside.invariant.1,
)
