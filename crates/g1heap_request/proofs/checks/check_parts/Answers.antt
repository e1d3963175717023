use Rattle.std.proofs.lemmas.Result.{err_from_is_err_and}
use Rattle.g1_command.proofs.Got.{because_so}
use Rattle.g1heap_request.specs.Together.AreTogether.{hex_and_summary, object_and_region, summary_and_object, summary_and_region}
use Rattle.g1heap_request.proofs.Checked.{refused_so, with_last}
use Rattle.g1heap_request.proofs.checks.check_parts.Goals as goal

pub returns-in_err-exclude_flags-clause-refused : goal.returns-in_err-exclude_flags-clause-refused
returns-in_err-exclude_flags-clause-refused c =
    let p = err_from_is_err_and c.from_residual.result c.from_residual.ensures.1 in
    rw (p.1, p.2) (because_so (λ k. hex_and_summary k.0 k.1) c.in_err-exclude_flags.field-0.0 c.in_err-exclude_flags.ensures.refused)

pub returns-in_err-exclude_values-clause-refused : goal.returns-in_err-exclude_values-clause-refused
returns-in_err-exclude_values-clause-refused c =
    let p = err_from_is_err_and c.from_residual-in_err-exclude_values.result c.from_residual-in_err-exclude_values.ensures.1 in
    rw (p.1, p.2) (because_so (λ k. object_and_region k.0 k.1) c.in_err-exclude_values.field-0.0 c.in_err-exclude_values.ensures.refused)

pub returns-in_err-exclude_flag-clause-refused : goal.returns-in_err-exclude_flag-clause-refused
returns-in_err-exclude_flag-clause-refused c =
    let p = err_from_is_err_and c.from_residual-in_err-exclude_flag.result c.from_residual-in_err-exclude_flag.ensures.1 in
    rw (p.1, p.2) (because_so (λ k. summary_and_region k.0 k.1) c.in_err-exclude_flag.field-0.0 c.in_err-exclude_flag.ensures.refused)

pub returns-clause-refused : goal.returns-clause-refused
returns-clause-refused c = refused_so (λ k. summary_and_object k.0 k.1) c.exclude_flag-2.result c.exclude_flag-2.ensures.refused

pub returns-clause-printed : goal.returns-clause-printed
returns-clause-printed c =
    with_last (λ last. record {
      object_or_region = c.in_ok-exclude_values.ensures.apart;
      summary_or_region = c.in_ok-exclude_flag.ensures.apart;
      summary_or_object = last;
      hex_or_summary = c.in_ok-exclude_flags.ensures.apart;
    }) c.exclude_flag-2.result c.exclude_flag-2.ensures.apart
