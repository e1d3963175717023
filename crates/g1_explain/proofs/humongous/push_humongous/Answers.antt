use Rattle.std.proofs.Common.{◌++◌, ◌∙◌, ap, flat_map, string_bytes}
use Rattle.std.specs.Prelude.{slice_index_or}
use Rattle.std.specs.List.{range_with_len}
use Rattle.std.proofs.lemmas.Result.{on_ok_weaker}
use Rattle.g1_words.specs.Geometry.{Geometry}
use Rattle.g1_text.specs.Lines.{text_of}
use Rattle.g1_explain.specs.declared.humongous.Keeper.TheVariants.{NoObject}
use Rattle.g1_explain.specs.Humongous.{fate_lines}
use Rattle.g1_explain.proofs.humongous.push_humongous.Goals as goal

pub returns : goal.returns
returns c =
    on_ok_weaker c.push_fates.result
    (λ e. e ∙ ap (λ k. string_bytes c.args.text.now ++ text_of (flat_map (λ r. fate_lines c.args.heap.now r (slice_index_or c.args.keepers.now r NoObject)) (range_with_len 0 k)))
    (c.regions.ensures.value ∙ ap (λ (g : Geometry). g.n) c.geometry.ensures.same)) c.push_fates.ensures
