use Rattle.std.proofs.Common.{sym, subst}
use Rattle.std.proofs.lemmas.Result.{err_from_is_err_and, on_ok_weaker}
use Rattle.g1_image.specs.Checks.{IsStrayFault}
use Rattle.g1_image.specs.Faults.{HeapFault}
use Rattle.g1_image.proofs.Told.{if_err}
use Rattle.g1_image.proofs.checks.check_references.Goals as goal

pub check_roots-requires : goal.check_roots-requires
check_roots-requires c = c.requires.starts

pub returns-in_err-check_roots-clause-err : goal.returns-in_err-check_roots-clause-err
returns-in_err-check_roots-clause-err c =
    let p = err_from_is_err_and c.from_residual.result c.from_residual.ensures.1 in
    let h = c.in_err-check_roots.ensures.err in
    rw (p.1, p.2) (subst (HeapFault c.args.draft.now) (sym h.1) (c.requires.shaped, h.2))

pub check_slots-requires : goal.check_slots-requires
check_slots-requires c = c.requires

pub returns-clause-ok : goal.returns-clause-ok
returns-clause-ok c = on_ok_weaker c.check_slots.result (λ s. record { shaped = c.requires.shaped; roots = c.in_ok-check_roots.ensures.ok; slots = s }) c.check_slots.ensures.ok

pub returns-clause-err : goal.returns-clause-err
returns-clause-err c =
    if_err c.check_slots.result (IsStrayFault c.args.draft.now) (HeapFault c.args.draft.now)
    (λ e h. subst (HeapFault c.args.draft.now) (sym h.1) (c.requires.shaped, c.in_ok-check_roots.ensures.ok, h.2)) c.check_slots.ensures.err
