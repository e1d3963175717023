use Rattle.std.proofs.Common.{arith, string_bytes, length}
use Rattle.std.specs.Prelude.{min, slice_index, slice_index_or}
use Rattle.g1_words.specs.Heap.{free_region}
use Rattle.g1_text.specs.Lines.{text_of}
use Rattle.g1_explain.specs.Choosing.{excluded_lines_of}
use Rattle.g1_text.proofs.Printed.{one_number_more, lines_end}
use Rattle.g1_explain.proofs.choosing.push_excluded.Goals as goal

pub loop-number-preserved : goal.loop-number-preserved
loop-number-preserved c =
    one_number_more (λ r. text_of (excluded_lines_of r (slice_index_or c.args.regions.now r free_region) (slice_index c.args.live.now r))) (string_bytes c.args.text.now) (string_bytes c.loop-number.text)
    (string_bytes c.push_reason.new.text) c.loop-number.number c.loop-number.invariant c.in_ok-push_reason.ensures

pub returns : goal.returns
returns c =
    lines_end (λ r. excluded_lines_of r (slice_index_or c.args.regions.now r free_region) (slice_index c.args.live.now r)) (string_bytes c.args.text.now) (string_bytes c.loop-number.text) c.loop-number.number
    (min (length c.args.regions.now) (length c.args.live.now)) (omega (arith, c.loop-number-test.false, c.loop-number.auto.number-end)) c.loop-number.invariant
