use Rattle.std.proofs.Common.{arith, ap, ◌∙◌}
use Rattle.g1_image.specs.Image.{Image}
use Rattle.g1_trace.proofs.LaidWords.{laid_more, word_written}
use Rattle.g1_trace.proofs.writing.set_value.Goals as goal

pub invariant_of-tracked-inside-inside : goal.invariant_of-tracked-inside-inside
invariant_of-tracked-inside-inside c = (
  word_written c.args.tracked.now.heap _ c.args.at c.args.value c.set.new.self.items ((λ t. (c.tracked-inside-inside.view_is t).0.0.heap) ∙ ap (λ (i : Image). i.heap) ((λ t. (c.tracked-inside.view_is t).image) ∙ c.tracked.view_is)) c.set.ensures.items c.requires.kept.image.heap,
  laid_more _ _ _ c.set.new.self.laid (omega (arith, c.set.ensures.laid)) c.tracked-inside-inside.invariant.1,
)
