use Rattle.std.specs.Prelude.{codes}
use Rattle.std.proofs.lemmas.Result.{err_from_is_err_and}
use Rattle.g1_text.specs.Forms.{Cards}
use Rattle.g1_text.specs.Short.{TellsCards}
use Rattle.g1_text.proofs.Fronts.{begins_with}
use Rattle.g1_text.proofs.Spelled.{behind_word}
use Rattle.g1_text.proofs.draft.Draft.add_dirty.Goals as goal

pub returns-in_err-add_cards-clause-short : goal.returns-in_err-add_cards-clause-short
returns-in_err-add_cards-clause-short c = λ cards after h takes.
    let left = err_from_is_err_and c.from_residual.result c.from_residual.ensures.1 in
    rw (left.1, left.2) (c.in_err-add_cards.ensures.short cards (behind_word (codes "dirty") (codes "dirty") (TellsCards cards) h))

pub returns-clause-form : goal.returns-clause-form
returns-clause-form c = begins_with (codes "dirty") Cards c.args.words c.in_ok-add_cards.ensures.form
