use Rattle.std.proofs.Common.{None, Some, sym, subst}
use Rattle.std.specs.Prelude.{codes}
use Rattle.clap.specs.Words.{found_of}
use Rattle.g1_command.proofs.Got.{none_got, one_got}
use Rattle.g1heap_request.specs.Asks.{AreSizesIfGiven}
use Rattle.g1heap_request.specs.Wrong.HasWrongValue.{no_sizes}
use Rattle.g1heap_request.proofs.dump.sizes_of.Goals as goal

pub returns-in_default-clause-sizes : goal.returns-in_default-clause-sizes
returns-in_default-clause-sizes c =
    subst (λ o. AreSizesIfGiven o None) (sym (none_got (found_of c.args.values.now) (codes "sizes") c.get_str.result c.get_str.ensures c.in_default.is)) tt

pub returns-in-Some-sizes_in-clause-sizes : goal.returns-in-Some-sizes_in-clause-sizes
returns-in-Some-sizes_in-clause-sizes c =
    subst (λ o. AreSizesIfGiven o (Some c.in-Some-sizes_in.sizes)) (sym (one_got (found_of c.args.values.now) (codes "sizes") c.get_str.result c.get_str.ensures c.in-Some.text c.in-Some.is)) c.in-Some-sizes_in.ensures

pub returns-in_ok-message-in-None-clause-refused : goal.returns-in_ok-message-in-None-clause-refused
returns-in_ok-message-in-None-clause-refused c =
    no_sizes c.in-Some.text.now (one_got (found_of c.args.values.now) (codes "sizes") c.get_str.result c.get_str.ensures c.in-Some.text c.in-Some.is) c.in-None.ensures
