use Rattle.std.proofs.Common.{refl}
use Rattle.g1_words.specs.declared.fault.Fault.TheVariants as fault
use Rattle.g1_text.specs.declared.expected.Wrong.TheVariants as wrong
use Rattle.g1heap_cli.proofs.commands.make_named.Goals as goal

pub returns-in_default-clause-refused : goal.returns-in_default-clause-refused
returns-in_default-clause-refused c = (wrong.Fault fault.Memory, refl, refl)
