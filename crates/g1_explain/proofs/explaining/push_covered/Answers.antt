use Rattle.std.proofs.Common.{◌∙◌, map, sym, ap, string_bytes}
use Rattle.std.proofs.lemmas.Result.{on_ok_weaker}
use Rattle.g1_words.specs.Heap.{regions}
use Rattle.g1_image.specs.Image.{Image}
use Rattle.g1_image.specs.Cards.{refined}
use Rattle.g1_explain.proofs.StepLines.{covered_end}
use Rattle.g1_explain.proofs.explaining.push_covered.Goals as goal

pub returns : goal.returns
returns c =
    on_ok_weaker c.push_dirty.result
    (covered_end c.args.before.now c.image.result.now (string_bytes c.args.text.now) (string_bytes c.push_str.new.self) (string_bytes c.push_dirty.new.text) c.image.ensures.same c.in_ok-push_str.ensures.bytes)
    (c.push_dirty.ensures (c.remembered.ensures.refined ∙ ap (λ (j : Image). map (refined j) (regions j.heap)) (sym c.image.ensures.same)))
