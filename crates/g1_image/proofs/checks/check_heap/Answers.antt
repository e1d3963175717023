use Rattle.std.proofs.Common.{inl, inr, sym, subst}
use Rattle.std.proofs.lemmas.Result.{err_from_is_err_and}
use Rattle.g1_image.specs.Faults.{HeapFault}
use Rattle.g1_image.specs.Checks.{HeapMayFail}
use Rattle.g1_image.proofs.Told.{if_err}
use Rattle.g1_image.proofs.checks.check_heap.Goals as goal

pub returns-in_err-marks-clause-err : goal.returns-in_err-marks-clause-err
returns-in_err-marks-clause-err c =
    let p = err_from_is_err_and c.from_residual.result c.from_residual.ensures.1 in
    rw (p.1, p.2) (elim c.in_err-marks.ensures.err [ inl memory ↦ inl memory | inr shape ↦ inr (subst (HeapFault c.args.draft.now) (sym shape.1) shape.2) ])

pub check_references-requires : goal.check_references-requires
check_references-requires c = c.in_ok-marks.ensures.ok

pub returns-clause-ok : goal.returns-clause-ok
returns-clause-ok c = c.check_references.ensures.ok

pub returns-clause-err : goal.returns-clause-err
returns-clause-err c = if_err c.check_references.result (HeapFault c.args.draft.now) (HeapMayFail c.args.draft.now) (λ e h. inr h) c.check_references.ensures.err
