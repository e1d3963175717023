use Rattle.std.proofs.Common.{refl}
use Rattle.std.specs.Prelude.{codes}
use Rattle.clap.specs.Words.{found_of, rows_of}
use Rattle.g1heap_request.proofs.Got.{flag_got}
use Rattle.std.proofs.lemmas.Result.{err_from_is_err_and}
use Rattle.g1_command.proofs.Got.{because_so}
use Rattle.g1heap_request.specs.Wrong.HasWrongValue.{together}
use Rattle.g1heap_request.specs.Together.AreTogether.{map_and_names}
use Rattle.g1heap_request.proofs.Reasons.{no_budget, no_cost}
use Rattle.g1heap_request.proofs.options.explain_of.Goals as goal

pub returns-clause-asks : goal.returns-clause-asks
returns-clause-asks c = (
  refl,
  record {
    image = c.in_ok-image_of.ensures.image;
    cost = c.in_ok-cost_of.ensures.cost;
    budget = c.in_ok-number.ensures.number;
    set = c.in_ok-set_of.ensures.set;
    map = flag_got (found_of c.args.values.now) (codes "map") c.get_flag.result c.get_flag.ensures.none c.get_flag.ensures.value c.get_flag.ensures.other;
    choice = c.in_ok-check_choice.ensures.choice;
    map_or_names = c.in_ok-exclude_flag.ensures.apart;
    once = c.in_ok-names_beside.ensures.once;
    names = c.in_ok-names_beside.ensures.names;
    output = c.in_ok-output_of.ensures;
  },
)

pub returns-in_err-check_choice-clause-refused : goal.returns-in_err-check_choice-clause-refused
returns-in_err-check_choice-clause-refused c =
    let p = err_from_is_err_and c.from_residual.result c.from_residual.ensures.1 in
    rw (p.1, p.2) (because_so (λ k. together k) c.in_err-check_choice.field-0.0 c.in_err-check_choice.ensures.refused)

pub returns-in_err-exclude_flag-clause-refused : goal.returns-in_err-exclude_flag-clause-refused
returns-in_err-exclude_flag-clause-refused c =
    let p = err_from_is_err_and c.from_residual-in_err-exclude_flag.result c.from_residual-in_err-exclude_flag.ensures.1 in
    rw (p.1, p.2) (because_so (λ k. together (map_and_names k.0 k.1)) c.in_err-exclude_flag.field-0.0 c.in_err-exclude_flag.ensures.refused)

pub returns-in_err-cost_of-clause-refused : goal.returns-in_err-cost_of-clause-refused
returns-in_err-cost_of-clause-refused c =
    let p = err_from_is_err_and c.from_residual-in_err-cost_of.result c.from_residual-in_err-cost_of.ensures.1 in
    rw (p.1, p.2) (because_so (no_cost (rows_of (found_of c.args.values.now))) c.in_err-cost_of.field-0.0 c.in_err-cost_of.ensures.refused)

pub returns-in_err-number-clause-refused : goal.returns-in_err-number-clause-refused
returns-in_err-number-clause-refused c =
    let p = err_from_is_err_and c.from_residual-in_err-number.result c.from_residual-in_err-number.ensures.1 in
    rw (p.1, p.2) (because_so (no_budget (rows_of (found_of c.args.values.now))) c.in_err-number.field-0.0 c.in_err-number.ensures.refused)
