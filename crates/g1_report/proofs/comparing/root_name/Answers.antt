use Rattle.std.proofs.Common.{sym, ap, ◌∙◌}
use Rattle.std.specs.Prelude.{option_and_then}
use Rattle.g1_report.specs.Program.{root_name}
use Rattle.g1_report.specs.Wording.{told, name_of}
use Rattle.g1_report.specs.Given.{compared}
use Rattle.g1_report.proofs.Told.{or_some, or_none}
use Rattle.g1_report.proofs.comparing.root_name.Goals as goal

pub returns-in-Some : goal.returns-in-Some
returns-in-Some c = λ h.
    let s = compared c.args.sides in
    let n = c.args.root in
    or_some (option_and_then (λ p. root_name p n) s.names) (name_of s.roots n) c.in-Some.name.now (ap told (sym c.in-Some.is) ∙ c.named_root.ensures h.names)

pub returns-in-None : goal.returns-in-None
returns-in-None c = λ h.
    let s = compared c.args.sides in
    let n = c.args.root in
    or_none (option_and_then (λ p. root_name p n) s.names) (name_of s.roots n) (told c.value_at.result) (ap told (sym c.in-None.is) ∙ c.named_root.ensures h.names)
    (ap told (c.value_at.ensures h.in_order.roots))
