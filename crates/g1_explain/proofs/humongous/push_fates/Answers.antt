use Rattle.std.proofs.Common.{◌++◌, ◌∙◌, ap, arith, string_bytes}
use Rattle.std.specs.Prelude.{slice_index_or}
use Rattle.g1_text.specs.Lines.{text_of}
use Rattle.g1_text.proofs.Printed.{one_number_more, lines_end}
use Rattle.g1_explain.specs.declared.humongous.Keeper.{Keeper}
use Rattle.g1_explain.specs.declared.humongous.Keeper.TheVariants.{NoObject}
use Rattle.g1_explain.specs.Humongous.{fate_lines}
use Rattle.g1_explain.proofs.humongous.push_fates.Goals as goal

pub loop-region-preserved : goal.loop-region-preserved
loop-region-preserved c =
    one_number_more (λ r. text_of (fate_lines c.args.heap.now r (slice_index_or c.args.keepers.now r NoObject))) (string_bytes c.args.text.now) (string_bytes c.loop-region.text)
    (string_bytes c.push_fate.new.text) c.loop-region.region c.loop-region.invariant
    (c.in_ok-push_fate.ensures ∙ ap (λ (k : Keeper). string_bytes c.loop-region.text ++ text_of (fate_lines c.args.heap.now c.loop-region.region k)) c.keeper_of-keeper.ensures)

pub returns : goal.returns
returns c =
    lines_end (λ r. fate_lines c.args.heap.now r (slice_index_or c.args.keepers.now r NoObject)) (string_bytes c.args.text.now) (string_bytes c.loop-region.text) c.loop-region.region
    c.args.count (omega (arith, c.loop-region-test.false, c.loop-region.auto.region-end)) c.loop-region.invariant
