use Rattle.std.proofs.Common.{◌∙◌, Some, sym, ap}
use Rattle.clap.specs.Words.{found_of}
use Rattle.g1_command.proofs.Got.{none_got, one_got}
use Rattle.g1heap_request.proofs.options.name_if_given.Goals as goal

pub returns-in-None : goal.returns-in-None
returns-in-None c = sym (none_got (found_of c.args.values.now) c.args.argument.now.id.now c.get_str.result c.get_str.ensures c.in-None.is)

pub returns-in_ok-from_str-in-Some : goal.returns-in_ok-from_str-in-Some
returns-in_ok-from_str-in-Some c =
    ap Some c.in_ok-from_str-in-Some.ensures.ok ∙ sym (one_got (found_of c.args.values.now) c.args.argument.now.id.now c.get_str.result c.get_str.ensures c.in-Some.name c.in-Some.is)
