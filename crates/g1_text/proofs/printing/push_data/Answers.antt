use Rattle.std.proofs.Common.{◌∷◌, string_bytes}
use Rattle.std.specs.Prelude.{decimal}
use Rattle.g1_text.proofs.Printed.{one_more}
use Rattle.g1_text.proofs.printing.push_data.Goals as goal

pub loop-word-preserved : goal.loop-word-preserved
loop-word-preserved c =
    one_more (λ x. 32 ∷ decimal x) (string_bytes c.args.text.now) (string_bytes c.loop-word.text) (string_bytes c.push_field.new.text) c.args.words.now c.loop-word.word-index 0
    c.loop-word-test.true c.loop-word.invariant c.in_ok-push_field.ensures
