use Rattle.std.proofs.Common.{◌∙◌, false, ap}
use Rattle.std.specs.Prelude.{replicate}
use Rattle.g1_words.specs.Geometry.{Geometry}
use Rattle.g1_explain.proofs.Marks.{marks_are}
use Rattle.g1_explain.proofs.cards.mark_regions.Goals as goal

pub returns : goal.returns
returns c = λ below.
    marks_are c.args.heap.now.geometry.n c.args.set.now c.in_ok-marks.marks c.set_each.new.self
    (c.in_ok-marks.ensures ∙ ap (λ k. replicate k false) (c.regions.ensures.value ∙ ap (λ (g : Geometry). g.n) c.geometry.ensures.same)) c.set_each.ensures below
