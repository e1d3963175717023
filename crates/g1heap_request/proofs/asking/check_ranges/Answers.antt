use Rattle.std.specs.Prelude.{codes}
use Rattle.std.proofs.lemmas.Result.{err_from_is_err_and}
use Rattle.clap.specs.Words.{found_of, rows_of}
use Rattle.g1_command.proofs.Got.{because_so}
use Rattle.g1heap_request.proofs.Checked.{refused_so, with_last}
use Rattle.g1heap_request.proofs.Reasons.{are_workers, bad_byte, bad_card, bad_chunk, bad_dirty, bad_fixed, bad_workers, is_chunk, may_cost}
use Rattle.g1heap_request.proofs.asking.check_ranges.Goals as goal

pub returns-in_err-check_range-clause-refused : goal.returns-in_err-check_range-clause-refused
returns-in_err-check_range-clause-refused c =
    let p = err_from_is_err_and c.from_residual.result c.from_residual.ensures.1 in
    rw (p.1, p.2) (because_so (bad_workers (rows_of (found_of c.args.values.now))) c.in_err-check_range.field-0.0 c.in_err-check_range.ensures.refused)

pub returns-in_err-check_range-2-clause-refused : goal.returns-in_err-check_range-2-clause-refused
returns-in_err-check_range-2-clause-refused c =
    let p = err_from_is_err_and c.from_residual-in_err-check_range-2.result c.from_residual-in_err-check_range-2.ensures.1 in
    rw (p.1, p.2) (because_so (bad_chunk (rows_of (found_of c.args.values.now))) c.in_err-check_range-2.field-0.0 c.in_err-check_range-2.ensures.refused)

pub returns-in_err-check_range-3-clause-refused : goal.returns-in_err-check_range-3-clause-refused
returns-in_err-check_range-3-clause-refused c =
    let p = err_from_is_err_and c.from_residual-in_err-check_range-3.result c.from_residual-in_err-check_range-3.ensures.1 in
    rw (p.1, p.2) (because_so (bad_fixed (rows_of (found_of c.args.values.now))) c.in_err-check_range-3.field-0.0 c.in_err-check_range-3.ensures.refused)

pub returns-in_err-check_range-4-clause-refused : goal.returns-in_err-check_range-4-clause-refused
returns-in_err-check_range-4-clause-refused c =
    let p = err_from_is_err_and c.from_residual-in_err-check_range-4.result c.from_residual-in_err-check_range-4.ensures.1 in
    rw (p.1, p.2) (because_so (bad_dirty (rows_of (found_of c.args.values.now))) c.in_err-check_range-4.field-0.0 c.in_err-check_range-4.ensures.refused)

pub returns-in_err-check_range-5-clause-refused : goal.returns-in_err-check_range-5-clause-refused
returns-in_err-check_range-5-clause-refused c =
    let p = err_from_is_err_and c.from_residual-in_err-check_range-5.result c.from_residual-in_err-check_range-5.ensures.1 in
    rw (p.1, p.2) (because_so (bad_card (rows_of (found_of c.args.values.now))) c.in_err-check_range-5.field-0.0 c.in_err-check_range-5.ensures.refused)

pub returns-clause-refused : goal.returns-clause-refused
returns-clause-refused c = refused_so (bad_byte (rows_of (found_of c.args.values.now))) c.check_range-6.result c.check_range-6.ensures.refused

pub returns-clause-within : goal.returns-clause-within
returns-clause-within c =
    let rows = rows_of (found_of c.args.values.now) in
    with_last (λ last. record {
      workers = are_workers rows c.in_ok-check_range.ensures.within;
      chunk = is_chunk rows c.in_ok-check_range-2.ensures.within;
      fixed = may_cost rows (codes "fixed") c.in_ok-check_range-3.ensures.within;
      dirty = may_cost rows (codes "dirty") c.in_ok-check_range-4.ensures.within;
      card = may_cost rows (codes "card") c.in_ok-check_range-5.ensures.within;
      byte = may_cost rows (codes "byte") last;
    }) c.check_range-6.result c.check_range-6.ensures.within
