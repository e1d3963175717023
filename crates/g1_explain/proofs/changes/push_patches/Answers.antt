use Rattle.std.proofs.Common.{arith, string_bytes}
use Rattle.g1_text.specs.Lines.{text_of}
use Rattle.g1_explain.specs.Changes.{patch_moves}
use Rattle.g1_text.proofs.Printed.{one_more}
use Rattle.g1_explain.proofs.Parts.{parts_end}
use Rattle.g1_explain.proofs.changes.push_patches.Goals as goal

pub loop-patch-preserved : goal.loop-patch-preserved
loop-patch-preserved c =
    one_more (λ x. text_of (patch_moves c.args.heap.now x)) (string_bytes c.args.text.now) (string_bytes c.loop-patch.text) (string_bytes c.push_patch.new.text) c.args.patches.now
    c.loop-patch.patch-index (0, 0) c.loop-patch-test.true c.loop-patch.invariant c.in_ok-push_patch.ensures

pub returns : goal.returns
returns c =
    parts_end (patch_moves c.args.heap.now) (string_bytes c.args.text.now) (string_bytes c.loop-patch.text) c.args.patches.now c.loop-patch.patch-index
    (omega (arith, c.loop-patch-test.false)) c.loop-patch.invariant
