use Rattle.std.proofs.Common.{◌∷◌, string_bytes}
use Rattle.g1_text.specs.Lines.{reference_word}
use Rattle.g1_text.proofs.Printed.{one_more}
use Rattle.g1_text.proofs.printing.push_references.Goals as goal

pub loop-reference-preserved : goal.loop-reference-preserved
loop-reference-preserved c =
    one_more (λ x. 32 ∷ reference_word x) (string_bytes c.args.text.now) (string_bytes c.loop-reference.text) (string_bytes c.push_reference.new.text) c.args.references.now
    c.loop-reference.reference-index 0 c.loop-reference-test.true c.loop-reference.invariant c.in_ok-push_reference.ensures
