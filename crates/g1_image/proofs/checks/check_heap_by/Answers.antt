use Rattle.std.proofs.Common.{inl, inr, sym, subst, ◌⊎◌, ◌≡◌}
use Rattle.std.proofs.lemmas.Result.{err_from_is_err_and, on_ok_weaker}
use Rattle.g1_words.specs.declared.fault.Fault.TheVariants as fault
use Rattle.g1_image.specs.Checks.{HeapMayFail, IsStrayFault}
use Rattle.g1_image.specs.Faults.{HeapFault}
use Rattle.g1_image.proofs.Told.{if_err}
use Rattle.g1_image.proofs.checks.check_heap_by.Goals as goal

pub returns-in_err-marks-clause-err : goal.returns-in_err-marks-clause-err
returns-in_err-marks-clause-err g c =
    let p = err_from_is_err_and c.from_residual.result c.from_residual.ensures.1 in
    rw (p.1, p.2) (elim c.in_err-marks.ensures.err [ inl memory ↦ inl memory | inr shape ↦ inr (subst (HeapFault c.args.draft.now) (sym shape.1) shape.2) ])

pub check_roots-requires : goal.check_roots-requires
check_roots-requires g c = c.in_ok-marks.ensures.ok.starts

pub returns-in_err-check_roots-clause-err : goal.returns-in_err-check_roots-clause-err
returns-in_err-check_roots-clause-err g c =
    let p = err_from_is_err_and c.from_residual-in_err-check_roots.result c.from_residual-in_err-check_roots.ensures.1 in
    let h = c.in_err-check_roots.ensures.err in
    rw (p.1, p.2) (inr (subst (HeapFault c.args.draft.now) (sym h.1) (c.in_ok-marks.ensures.ok.shaped, h.2)))

pub returns-clause-ok : goal.returns-clause-ok
returns-clause-ok g c =
    on_ok_weaker c.check_slots_by.result (λ s. record { shaped = c.in_ok-marks.ensures.ok.shaped; roots = c.in_ok-check_roots.ensures.ok; slots = s }) c.check_slots_by.ensures.ok

pub returns-clause-err : goal.returns-clause-err
returns-clause-err g c =
    let h = c.args.draft.now in
    if_err c.check_slots_by.result (λ e. (e ≡ fault.Memory) ⊎ IsStrayFault h e) (HeapMayFail h)
    (λ e f. elim f [
      | inl memory ↦ inl memory
      | inr stray ↦ inr (subst (HeapFault h) (sym stray.1) (c.in_ok-marks.ensures.ok.shaped, c.in_ok-check_roots.ensures.ok, stray.2))
    ]) c.check_slots_by.ensures.err
