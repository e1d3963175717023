use Rattle.std.proofs.Common.{inl, inr, refl}
use Rattle.std.proofs.lemmas.Result.{err_from_is_err_and}
use Rattle.g1_words.specs.declared.fault.Stand.TheVariants as stand
use Rattle.g1_image.proofs.cards.check_cards.Goals as goal

pub returns-in_err-cards-clause-err : goal.returns-in_err-cards-clause-err
returns-in_err-cards-clause-err c =
    let left = err_from_is_err_and c.from_residual.result c.from_residual.ensures.1 in
    rw (left.1, left.2) (inl refl)

pub put_log-requires-clause-count : goal.put_log-requires-clause-count
put_log-requires-clause-count c = c.requires.log

pub returns-in_err-put_log-clause-err : goal.returns-in_err-put_log-clause-err
returns-in_err-put_log-clause-err c =
    let left = err_from_is_err_and c.from_residual-in_err-put_log.result c.from_residual-in_err-put_log.ensures.1 in
    rw (left.1, left.2) (elim c.in_err-put_log.ensures.err [ inl memory ↦ inl memory | inr first ↦ inr (stand.Dirty first.0, first.1, first.2) ])

pub check_remembered-requires-clause-one_each : goal.check_remembered-requires-clause-one_each
check_remembered-requires-clause-one_each c = c.requires.one_each

pub check_remembered-requires-clause-counts : goal.check_remembered-requires-clause-counts
check_remembered-requires-clause-counts c = c.requires.counts

pub returns-in_err-check_remembered-clause-err : goal.returns-in_err-check_remembered-clause-err
returns-in_err-check_remembered-clause-err c =
    let left = err_from_is_err_and c.from_residual-in_err-check_remembered.result c.from_residual-in_err-check_remembered.ensures.1 in
    let first = c.in_err-check_remembered.ensures.err in
    rw (left.1, left.2) (inr (stand.Region first.0, first.1, (c.in_ok-put_log.ensures.ok.1, first.2)))

pub returns-clause-log : goal.returns-clause-log
returns-clause-log c = c.in_ok-put_log.ensures.ok

pub returns-clause-sets : goal.returns-clause-sets
returns-clause-sets c = c.in_ok-check_remembered.ensures.ok
