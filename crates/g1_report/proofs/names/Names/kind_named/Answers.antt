use Rattle.std.proofs.Common.{sym, ap, ◌∙◌}
use Rattle.std.specs.Prelude.{option_and_then}
use Rattle.g1_report.specs.Program.{program_of, at_name, kind_told, kind_said}
use Rattle.g1_report.specs.Program.{text_told}
use Rattle.g1_report.proofs.Named.{named_entry_is}
use Rattle.g1_report.proofs.names.Names.kind_named.Goals as goal

pub returns-in-Some : goal.returns-in-Some
returns-in-Some c = λ h.
    let p = program_of c.args.self.now in
    ap kind_told c.copied.ensures
    ∙ named_entry_is kind_said c.in-Some.name.now c.args.self.now.named.items c.as_slice.result.now c.as_slice.ensures.value h.named c.entry_named.result c.entry_named.ensures
    ∙ ap (λ o. option_and_then (at_name p.named) (text_told o)) (sym c.in-Some.is)
