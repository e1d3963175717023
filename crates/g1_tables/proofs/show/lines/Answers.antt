use Rattle.std.proofs.Common.{arith, string_bytes}
use Rattle.g1_text.specs.Lines.{line_text, region_line}
use Rattle.g1_tables.proofs.Chunks.{one_row_more}
use Rattle.g1_tables.proofs.TableText.{rows_end}
use Rattle.g1_tables.proofs.show.lines.Goals as goal

pub loop-region-preserved : goal.loop-region-preserved
loop-region-preserved c =
    one_row_more (λ r. line_text (region_line c.args.image.now r)) (string_bytes c.loop-region.text) (string_bytes c.push_row.new.text) c.args.from
    c.loop-region.region c.loop-region.auto.region c.loop-region.invariant c.in_ok-push_row.ensures

pub returns : goal.returns
returns c =
    rows_end c.args.image.now (string_bytes c.loop-region.text) c.args.from c.loop-region.region c.args.to
    (omega (arith, c.loop-region-test.false, c.loop-region.auto.region-end c.requires.order)) c.loop-region.invariant
