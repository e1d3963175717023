use Rattle.std.proofs.Common.{◌∷◌, refl, sym, subst}
use Rattle.std.specs.Option.{is_some}
use Rattle.std.proofs.lemmas.Result.{on_ok_weaker}
use Rattle.g1_text.specs.Forms.{ImageHeading, ImageLine}
use Rattle.g1_text.specs.Drafts.{form_after, said}
use Rattle.g1_text.proofs.reading.begin_or_add.Goals as goal

pub returns-in-Some-clause-known : goal.returns-in-Some-clause-known
returns-in-Some-clause-known c =
    on_ok_weaker c.add.result (λ kind. (subst (λ o. form_after ImageHeading ImageLine (is_some (said o)) (c.args.first.now ∷ c.args.words)) (sym c.in-Some.is) kind, refl)) c.add.ensures.form
