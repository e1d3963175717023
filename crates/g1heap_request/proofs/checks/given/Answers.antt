use Rattle.std.proofs.Common.{◌∙◌}
use Rattle.clap.specs.Words.{found_of}
use Rattle.g1heap_request.proofs.Got.{given_got}
use Rattle.g1heap_request.proofs.checks.given.Goals as goal

pub returns : goal.returns
returns c = c.is_some.ensures ∙ given_got (found_of c.args.values.now) c.args.argument.now.id.now c.get_str.result c.get_str.ensures
