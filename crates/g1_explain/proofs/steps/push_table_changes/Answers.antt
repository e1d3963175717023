use Rattle.std.proofs.Common.{◌∙◌, All, map, sym, ap, subst, string_bytes}
use Rattle.std.specs.List.Sorted.{IsStrictlyIncreasing}
use Rattle.std.proofs.lemmas.Result.{on_ok_weaker}
use Rattle.g1_words.specs.Heap.{Heap}
use Rattle.g1_image.specs.Image.{Image}
use Rattle.g1_explain.proofs.StepLines.{table_end, refined_rise}
use Rattle.g1_explain.proofs.steps.push_table_changes.Goals as goal

pub returns : goal.returns
returns c = λ rise.
    let i : Image = c.args.before.now in
    on_ok_weaker c.push_heading_changes.result
    (table_end i c.image-image.result.now c.args.prepared.now (map (λ s. s.items) c.remembered.result.now) (map (λ s. s.items) c.remembered-2.result.now) c.regions.result.now c.regions-2.result.now
    (string_bytes c.args.text.now) (string_bytes c.push_remembered.new.text) (string_bytes c.push_regions.new.text) (string_bytes c.push_heading_changes.new.text)
    c.remembered.ensures.refined c.remembered-2.ensures (c.regions.ensures ∙ ap (λ (h : Heap). h.regions) (c.heap.ensures.same ∙ ap (λ (j : Image). j.heap) c.image-image.ensures.same)) c.regions-2.ensures c.image-image.ensures.same
    (c.in_ok-push_remembered.ensures (subst (All IsStrictlyIncreasing) (sym c.remembered.ensures.refined) (refined_rise i)) (subst (All IsStrictlyIncreasing) (sym c.remembered-2.ensures) rise))
    c.in_ok-push_regions.ensures) c.push_heading_changes.ensures
