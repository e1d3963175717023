use Rattle.std.proofs.Common.{subst}
use Rattle.std.specs.Prelude.{IfOk, codes}
use Rattle.clap.specs.Words.{found_of}
use Rattle.g1heap_request.specs.Values.{GoesTo}
use Rattle.g1heap_request.proofs.Got.{first_got}
use Rattle.g1heap_request.proofs.options.output_of.Goals as goal

pub returns : goal.returns
returns c =
    subst (λ o. IfOk c.of_name.result (GoesTo o)) (first_got (found_of c.args.values.now) (codes "output") c.get_str.result c.get_str.ensures) c.of_name.ensures
