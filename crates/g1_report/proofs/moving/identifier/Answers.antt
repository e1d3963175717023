use Rattle.std.proofs.Common.{sym, ap, subst, ◌∙◌}
use Rattle.std.specs.Prelude.{IfSome}
use Rattle.g1_report.specs.Program.{AreInOrder, names_told, program_of}
use Rattle.g1_report.specs.Wording.{identifier}
use Rattle.g1_report.proofs.moving.identifier.Goals as goal

pub returns-in-Some : goal.returns-in-Some
returns-in-Some c = λ h.
    let order : AreInOrder (program_of c.in-Some.names.now) = subst (λ o. IfSome (names_told o) AreInOrder) c.in-Some.is h in
    c.identifier_in.ensures order ∙ ap (λ o. identifier (names_told o) c.args.heap.now c.args.address) (sym c.in-Some.is)

pub returns-in-None : goal.returns-in-None
returns-in-None c = λ h. ap (λ o. identifier (names_told o) c.args.heap.now c.args.address) (sym c.in-None.is)
