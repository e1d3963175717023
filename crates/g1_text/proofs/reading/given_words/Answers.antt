use Rattle.std.proofs.Common.{◌∷◌, [], inl, inr, ⊎_elim, refl, arith}
use Rattle.std.specs.Prelude.{codes}
use Rattle.std.proofs.lemmas.Bool.Decides.{when_true}
use Rattle.g1_text.proofs.Fronts.{dots_or_none}
use Rattle.g1_text.proofs.reading.given_words.Goals as goal

pub returns-then-given-whole-clause-form : goal.returns-then-given-whole-clause-form
returns-then-given-whole-clause-form c = λ fits. (
  omega (arith, c.if-given-whole.true, c.len-given.ensures),
  omega (arith, c.saturating_add-whole.ensures, fits),
  ⊎_elim (λ e. inl (refl, e)) (λ e. inr e)
      (dots_or_none c.take_last-open.result c.args.words.now c.take_last-open.new.self (codes ".." ∷ []) _ c.take_last-open.ensures),
)

pub returns-clause-form : goal.returns-clause-form
returns-clause-form c = λ fits. (
  c.len-given.ensures,
  omega (arith, c.saturating_add-whole.ensures, fits, c.if-given-whole-2.false),
  inr (when_true _ _ c.if-not-open.false c.take_last-open.ensures),
)
