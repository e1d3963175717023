use Rattle.std.specs.Prelude.{codes}
use Rattle.clap.specs.Words.{found_of}
use Rattle.g1heap_request.proofs.Got.{flag_got}
use Rattle.std.proofs.lemmas.Result.{err_from_is_err_and}
use Rattle.g1_command.proofs.Got.{because_so}
use Rattle.g1heap_request.specs.Wrong.HasWrongValue.{alone}
use Rattle.g1heap_request.specs.Together.LacksAnother.{fill}
use Rattle.g1heap_request.proofs.options.fill_of.Goals as goal

pub returns-clause-fill : goal.returns-clause-fill
returns-clause-fill c = flag_got (found_of c.args.values.now) (codes "fill") c.get_flag.result c.get_flag.ensures.none c.get_flag.ensures.value c.get_flag.ensures.other

pub returns-in_err-need_for_flag-clause-refused : goal.returns-in_err-need_for_flag-clause-refused
returns-in_err-need_for_flag-clause-refused c =
    let p = err_from_is_err_and c.from_residual.result c.from_residual.ensures.1 in
    rw (p.1, p.2) (because_so (λ k. alone (fill k.0 k.1)) c.in_err-need_for_flag.field-0.0 c.in_err-need_for_flag.ensures.refused)
