use Rattle.std.proofs.Common.{ap, ◌∙◌}
use Rattle.std.specs.Prelude.{Some}
use Rattle.g1_report.specs.Program.{texts}
use Rattle.g1_report.proofs.Named.{named_entry_found, named_entry_missing}
use Rattle.g1_report.proofs.names.Names.words_of_type.Goals as goal

pub returns-in-Some : goal.returns-in-Some
returns-in-Some c = λ h.
    ap (λ l. Some (texts l)) c.as_slice-in-Some.ensures.value
    ∙ named_entry_found (λ v. texts v.items) c.args.name.now c.args.self.now.types.items c.as_slice.result.now c.as_slice.ensures.value h.types c.entry_named.result c.in-Some.words c.in-Some.is c.entry_named.ensures

pub returns-in-None : goal.returns-in-None
returns-in-None c = λ h.
    named_entry_missing (λ v. texts v.items) c.args.name.now c.args.self.now.types.items c.as_slice.result.now c.as_slice.ensures.value h.types c.entry_named.result c.in-None.is c.entry_named.ensures
