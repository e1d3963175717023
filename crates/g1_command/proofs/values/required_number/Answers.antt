use Rattle.clap.specs.Words.{found_of}
use Rattle.g1_command.proofs.Got.{zero_got, number_got, no_number_got}
use Rattle.g1_command.proofs.values.required_number.Goals as goal

pub returns-in-None-clause-number : goal.returns-in-None-clause-number
returns-in-None-clause-number c = zero_got (found_of c.args.values.now) c.args.argument.now.id.now c.get_str.result c.get_str.ensures c.in-None.is

pub returns-in-Some-clause-number : goal.returns-in-Some-clause-number
returns-in-Some-clause-number c =
    number_got (found_of c.args.values.now) c.args.argument.now.id.now c.get_str.result c.get_str.ensures c.in-Some.text c.in-Some.is c.number_in.result c.number_in.ensures.number

pub returns-in-Some-clause-refused : goal.returns-in-Some-clause-refused
returns-in-Some-clause-refused c =
    no_number_got (found_of c.args.values.now) c.args.argument.now.id.now c.get_str.result c.get_str.ensures c.in-Some.text c.in-Some.is c.number_in.result c.number_in.ensures.refused
