use Rattle.std.proofs.Common.{sym, ap, subst, ◌∙◌}
use Rattle.std.specs.Prelude.{IfSome}
use Rattle.g1_report.specs.Program.{AreInOrder, names_told, program_of}
use Rattle.g1_report.specs.Wording.{has_moved, names_differ}
use Rattle.g1_report.specs.Given.{compared}
use Rattle.g1_report.proofs.moving.has_moved.Goals as goal

-- by identifiers
pub returns-in-Some : goal.returns-in-Some
returns-in-Some c = λ h.
    let order : AreInOrder (program_of c.in-Some.names.now) = subst (λ o. IfSome (names_told o) AreInOrder) c.in-Some.is h.names_after in
    let old = c.identifier.ensures h.names in
    let new = c.identifier_in.ensures order in
    c.differ.ensures ∙ (λ i. names_differ (old i) (new i)) ∙ ap (λ o. has_moved (compared c.args.sides) (names_told o) c.args.before c.args.after) (sym c.in-Some.is)

-- by what the files have
pub returns-in-None : goal.returns-in-None
returns-in-None c = λ h.
    c.is_elsewhere.ensures h.in_order ∙ ap (λ o. has_moved (compared c.args.sides) (names_told o) c.args.before c.args.after) (sym c.in-None.is)
