use Rattle.std.proofs.Common.{◌*◌, refl, subst}
use Rattle.g1_image.specs.Strays.{IsFirstStray}
use Rattle.g1_image.proofs.StraySlots.{no_stray, stray_breach}
use Rattle.g1_image.proofs.strays.fault_of.Goals as goal

pub returns-in-Some-clause-err : goal.returns-in-Some-clause-err
returns-in-Some-clause-err c =
    let h = c.args.draft.now in
    (c.in-Some.p, refl, stray_breach h c.in-Some.p (subst (IsFirstStray h 0 (h.geometry.n * h.geometry.w)) c.in-Some.is c.requires))

pub returns-in-None-clause-ok : goal.returns-in-None-clause-ok
returns-in-None-clause-ok c =
    let h = c.args.draft.now in
    no_stray h (subst (IsFirstStray h 0 (h.geometry.n * h.geometry.w)) c.in-None.is c.requires)
