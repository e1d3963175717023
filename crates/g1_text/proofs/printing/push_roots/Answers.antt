use Rattle.std.proofs.Common.{arith, string_bytes}
use Rattle.std.specs.Prelude.{slice_index}
use Rattle.g1_text.specs.Lines.{line_text, root_line}
use Rattle.g1_text.proofs.Printed.{one_number_more, roots_end}
use Rattle.g1_text.proofs.printing.push_roots.Goals as goal

pub loop-number-preserved : goal.loop-number-preserved
loop-number-preserved c =
    one_number_more (λ m. line_text (root_line m (slice_index c.args.roots.now m))) (string_bytes c.args.text.now) (string_bytes c.loop-number.text)
    (string_bytes c.push_root.new.text) c.loop-number.number c.loop-number.invariant c.in_ok-push_root.ensures

pub returns : goal.returns
returns c =
    roots_end (string_bytes c.args.text.now) (string_bytes c.loop-number.text) c.args.roots.now c.loop-number.number
    (omega (arith, c.loop-number-test.false, c.loop-number.auto.number-end)) c.loop-number.invariant
