use Rattle.std.proofs.Common.{refl, sym, ap, subst, ◌∙◌}
use Rattle.std.specs.Prelude.{IfSome, option_map, option_and_then}
use Rattle.g1_report.specs.Program.{program_of, at_name, kind_said, kind_by_line, text_lines, RiseByNumber}
use Rattle.g1_report.proofs.Named.{value_found}
use Rattle.g1_report.proofs.names.Names.kind_at.Goals as goal

pub returns-in-Some : goal.returns-in-Some
returns-in-Some c = λ h.
    let p = program_of c.args.self.now in
    let at = c.args.address in
    let labels = c.in-Some.labels in
    let rise = subst (λ o. IfSome (option_map (λ l. text_lines l.now) o) RiseByNumber) c.in-Some.is h.labels_before in
    c.kind_named.ensures h
    ∙ ap (option_and_then (at_name p.named)) (value_found (λ b. b.now) at labels.now labels.now refl rise c.value_at.result c.value_at.ensures)
    ∙ ap (λ o. kind_by_line (option_map (λ l. text_lines l.now) o) p at) (sym c.in-Some.is)

pub returns-in-None : goal.returns-in-None
returns-in-None c = λ h.
    let p = program_of c.args.self.now in
    let at = c.args.address in
    value_found kind_said at c.args.self.now.objects.items c.as_slice.result.now c.as_slice.ensures.value h.objects c.value_at-in-None.result c.value_at-in-None.ensures
    ∙ ap (λ o. kind_by_line (option_map (λ l. text_lines l.now) o) p at) (sym c.in-None.is)
