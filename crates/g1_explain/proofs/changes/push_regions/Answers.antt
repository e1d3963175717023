use Rattle.std.proofs.Common.{arith, string_bytes, length}
use Rattle.std.specs.Prelude.{min}
use Rattle.g1_text.specs.Lines.{text_of}
use Rattle.g1_explain.specs.Changes.{region_changes}
use Rattle.g1_text.proofs.Printed.{one_number_more, lines_end}
use Rattle.g1_explain.proofs.changes.push_regions.Goals as goal

pub loop-number-preserved : goal.loop-number-preserved
loop-number-preserved c =
    one_number_more (λ k. text_of (region_changes c.args.before.now c.args.after.now k)) (string_bytes c.args.text.now) (string_bytes c.loop-number.text)
    (string_bytes c.push_region.new.text) c.loop-number.number c.loop-number.invariant c.in_ok-push_region.ensures

pub returns : goal.returns
returns c =
    lines_end (region_changes c.args.before.now c.args.after.now) (string_bytes c.args.text.now) (string_bytes c.loop-number.text) c.loop-number.number
    (min (length c.args.before.now) (length c.args.after.now)) (omega (arith, c.loop-number-test.false, c.loop-number.auto.number-end)) c.loop-number.invariant
