use Rattle.std.proofs.Common.{◌∙◌, Some, inl, inr, ap}
use Rattle.std.specs.Prelude.{codes}
use Rattle.clap.specs.Words.{found_of}
use Rattle.g1_command.proofs.Got.{none_got, one_got}
use Rattle.g1heap_request.specs.Wrong.HasWrongValue.{no_limits}
use Rattle.g1heap_request.proofs.options.limits_of.Goals as goal

pub returns-in-None-clause-limits : goal.returns-in-None-clause-limits
returns-in-None-clause-limits c = inl (none_got (found_of c.args.values.now) (codes "limits") c.get_str.result c.get_str.ensures c.in-None.is)

pub returns-in-Some-wide-clause-limits : goal.returns-in-Some-wide-clause-limits
returns-in-Some-wide-clause-limits c =
    let one = c.in-Some-wide in
    inr (one_got (found_of c.args.values.now) (codes "limits") c.get_str.result c.get_str.ensures one.field-0 one.is ∙ ap Some one.is-wide)

pub returns-in-Some-specification-clause-limits : goal.returns-in-Some-specification-clause-limits
returns-in-Some-specification-clause-limits c =
    let one = c.in-Some-specification in
    one_got (found_of c.args.values.now) (codes "limits") c.get_str.result c.get_str.ensures one.field-0 one.is ∙ ap Some one.is-specification

pub returns-in_ok-from_str-in-Some-clause-refused : goal.returns-in_ok-from_str-in-Some-clause-refused
returns-in_ok-from_str-in-Some-clause-refused c =
    let one = c.in-Some in
    no_limits one.field-0.now (one_got (found_of c.args.values.now) (codes "limits") c.get_str.result c.get_str.ensures one.field-0 one.is) one.not-wide one.not-specification
