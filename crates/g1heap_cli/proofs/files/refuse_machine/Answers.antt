use Rattle.std.proofs.Common.{◌≡◌, inr, true, refl, sym, subst}
use Rattle.g1heap_cli.specs.Refusals.{is_of_machine}
use Rattle.g1heap_cli.proofs.files.refuse_machine.Goals as goal

pub returns-in-Device-clause-refused : goal.returns-in-Device-clause-refused
returns-in-Device-clause-refused c = inr (c.args.fault, subst (λ x. is_of_machine x ≡ true) (sym c.in-Device.is) refl, c.of_device.ensures)
