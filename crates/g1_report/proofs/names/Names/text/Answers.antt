use Rattle.std.proofs.Common.{ap, ◌∙◌}
use Rattle.std.specs.Prelude.{Some}
use Rattle.g1_report.specs.Program.{texts}
use Rattle.g1_report.proofs.Named.{entry_found, entry_missing}
use Rattle.g1_report.proofs.names.Names.text.Goals as goal

pub returns-in-Some : goal.returns-in-Some
returns-in-Some c = λ h.
    ap (λ l. Some (texts l)) c.as_slice-in-Some.ensures.value
    ∙ entry_found (λ v. texts v.items) c.args.word c.args.self.now.texts.items c.as_slice.result.now c.as_slice.ensures.value h.texts c.entry_at.result c.in-Some.text c.in-Some.is c.entry_at.ensures

pub returns-in-None : goal.returns-in-None
returns-in-None c = λ h.
    entry_missing (λ v. texts v.items) c.args.word c.args.self.now.texts.items c.as_slice.result.now c.as_slice.ensures.value h.texts c.entry_at.result c.in-None.is c.entry_at.ensures
