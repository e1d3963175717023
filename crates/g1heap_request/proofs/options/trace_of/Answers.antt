use Rattle.std.proofs.Common.{refl}
use Rattle.std.specs.Prelude.{codes}
use Rattle.clap.specs.Words.{found_of, rows_of}
use Rattle.g1heap_request.proofs.Got.{flag_got}
use Rattle.std.proofs.lemmas.Result.{err_from_is_err_and}
use Rattle.g1_command.proofs.Got.{because_so}
use Rattle.g1heap_request.proofs.Reasons.{no_cost}
use Rattle.g1heap_request.proofs.options.trace_of.Goals as goal

pub returns-clause-asks : goal.returns-clause-asks
returns-clause-asks c = (
  refl,
  record {
    name = c.in_ok-name_of.ensures;
    cost = c.in_ok-cost_of.ensures.cost;
    live = flag_got (found_of c.args.values.now) (codes "live") c.get_flag.result c.get_flag.ensures.none c.get_flag.ensures.value c.get_flag.ensures.other;
    numbered = flag_got (found_of c.args.values.now) (codes "numbered") c.get_flag-2.result c.get_flag-2.ensures.none c.get_flag-2.ensures.value c.get_flag-2.ensures.other;
    explain = flag_got (found_of c.args.values.now) (codes "explain") c.get_flag-3.result c.get_flag-3.ensures.none c.get_flag-3.ensures.value c.get_flag-3.ensures.other;
    image = c.in_ok-image_after_of.ensures.image;
    apart = c.in_ok-image_after_of.ensures.apart;
  },
)

pub returns-in_err-cost_of-clause-refused : goal.returns-in_err-cost_of-clause-refused
returns-in_err-cost_of-clause-refused c =
    let p = err_from_is_err_and c.from_residual-in_err-cost_of.result c.from_residual-in_err-cost_of.ensures.1 in
    rw (p.1, p.2) (because_so (no_cost (rows_of (found_of c.args.values.now))) c.in_err-cost_of.field-0.0 c.in_err-cost_of.ensures.refused)
