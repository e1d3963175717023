use Rattle.std.proofs.Common.{◌+◌, ◌∷◌, drop, sym, ◌∙◌, ap, arith}
use Rattle.std.proofs.lemmas.List.{at_drop_more}
use Rattle.g1_text.specs.Forms.{hash_behind}
use Rattle.g1_text.proofs.values.hash.Goals as goal

pub loop-at-preserved : goal.loop-at-preserved
loop-at-preserved c =
    let hash = c.loop-at.hash in
    let bytes = c.args.bytes.now in
    let at = c.loop-at.at in
    (ap (λ b. hash_behind hash (b ∷ drop (at + 1) bytes)) c.from.ensures ∙ sym (at_drop_more (hash_behind hash) bytes at 0 c.loop-at-test.true) ∙ c.loop-at.invariant.0, omega (arith, c.loop-at-test.true))
