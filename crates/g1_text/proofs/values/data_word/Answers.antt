use Rattle.std.proofs.Common.{ℕ, subst}
use Rattle.std.specs.Prelude.{MatchOption}
use Rattle.g1_text.specs.Forms.{HasPoint}
use Rattle.g1_text.proofs.DataWords.{no_form}
use Rattle.g1_text.proofs.values.data_word.Goals as goal

pub returns-in-None-clause-all : goal.returns-in-None-clause-all
returns-in-None-clause-all c = λ none data_word.
    let text = c.args.text.now in
    no_form text c.in_default.ensures.digits c.in_default-negative.ensures c.in_default-hexadecimal.ensures c.in-None.ensures
    (subst (λ o. MatchOption o ((n : ℕ) → HasPoint n text → ⊥) (λ n. HasPoint n text)) none c.with_point.ensures) data_word
