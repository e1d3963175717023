use Rattle.std.proofs.Common.{◌≡◌, ℕ, List, Some, None, Ok, subst}
use Rattle.std.specs.Prelude.{IfNone}
use Rattle.std.proofs.lemmas.Result.{IfOk-at_ok}
use Rattle.g1_words.specs.declared.fault.Place.{Place}
use Rattle.g1_words.specs.declared.fault.Fault.TheVariants as fault
use Rattle.g1_image.specs.Faults.{FaultWithin}
use Rattle.g1_image.specs.Source.{HoldsOfLeft}
use Rattle.g1heap_cli.specs.SideReasons.{HasOtherFault}
use Rattle.g1heap_cli.proofs.SideRead.{of_known, for_fault}
use Rattle.g1heap_cli.proofs.StaleFaults.{other_stays}
use Rattle.g1heap_cli.proofs.files.found_with.Goals as goal

-- another fault beside the stale words
pub returns-in-Ok-None-clause-refused : goal.returns-in-Ok-None-clause-refused
returns-in-Ok-None-clause-refused c =
    let limits = c.args.limits in
    let bytes = c.args.bytes.now in
    let Beside : List ℕ → Type 0 = λ xs. (p : Place) → FaultWithin limits xs (fault.Reference p) → HasOtherFault limits xs in
    let none : c.without_stale.result ≡ Ok None = cc in
    let other = of_known bytes Beside (IfOk-at_ok (λ o. IfNone o (HoldsOfLeft (Some bytes) Beside)) none c.without_stale.ensures.other) in
    for_fault limits c.args.name.now bytes c.args.fault c.of_bytes.result c.requires
    (λ x. other c.in-Reference.field-0 (subst (FaultWithin limits bytes) c.in-Reference.is x)) c.of_bytes.ensures

pub returns-in_default : goal.returns-in_default
returns-in_default c = record {
  content = tt;
  refused = for_fault c.args.limits c.args.name.now c.args.bytes.now c.args.fault c.of_bytes-in_default.result c.requires
      (other_stays c.args.limits c.args.bytes.now c.args.fault c.in_default.not-Reference) c.of_bytes-in_default.ensures;
}
