use Rattle.std.proofs.Common.{subst}
use Rattle.std.specs.Prelude.{codes}
use Rattle.clap.specs.Words.{first_of, found_of, rows_of}
use Rattle.g1_command.specs.Values.{IfGiven, IsNumber, IsRegion}
use Rattle.g1heap_request.specs.Values.{IsFlag}
use Rattle.g1heap_request.proofs.Got.{flag_got, not_given}
use Rattle.std.proofs.lemmas.Result.{err_from_is_err_and}
use Rattle.g1_command.proofs.Got.{because_so}
use Rattle.g1heap_request.specs.Wrong.HasWrongValue.{no_region, together}
use Rattle.g1heap_request.proofs.Reasons.{no_object}
use Rattle.g1heap_request.proofs.options.part_of.Goals as goal

pub returns-then-get_flag-clause-part : goal.returns-then-get_flag-clause-part
returns-then-get_flag-clause-part c =
    let found = found_of c.args.values.now in
    let told = c.get_flag.ensures in
    subst (IsFlag (rows_of found) (codes "summary")) c.if-get_flag.true (flag_got found (codes "summary") c.get_flag.result told.none told.value told.other)

pub returns-in-Some-clause-part : goal.returns-in-Some-clause-part
returns-in-Some-clause-part c =
    let found = found_of c.args.values.now in
    let told = c.get_flag.ensures in (
      subst (IsFlag (rows_of found) (codes "summary")) c.if-get_flag.false (flag_got found (codes "summary") c.get_flag.result told.none told.value told.other),
      subst (IfGiven IsRegion (first_of (codes "region") (rows_of found))) c.in-Some.is c.in_ok-region.ensures.region,
    )

pub returns-in-Some-2-clause-part : goal.returns-in-Some-2-clause-part
returns-in-Some-2-clause-part c =
    let found = found_of c.args.values.now in
    let told = c.get_flag.ensures in (
      subst (IsFlag (rows_of found) (codes "summary")) c.if-get_flag.false (flag_got found (codes "summary") c.get_flag.result told.none told.value told.other),
      not_given IsRegion (first_of (codes "region") (rows_of found)) c.in_ok-region.field-0 c.in_default.is c.in_ok-region.ensures.region,
      subst (IfGiven IsNumber (first_of (codes "object") (rows_of found))) c.in-Some-2.is c.in_ok-address.ensures.number,
    )

pub returns-in-None-clause-part : goal.returns-in-None-clause-part
returns-in-None-clause-part c =
    let found = found_of c.args.values.now in
    let told = c.get_flag.ensures in (
      subst (IsFlag (rows_of found) (codes "summary")) c.if-get_flag.false (flag_got found (codes "summary") c.get_flag.result told.none told.value told.other),
      not_given IsRegion (first_of (codes "region") (rows_of found)) c.in_ok-region.field-0 c.in_default.is c.in_ok-region.ensures.region,
      not_given IsNumber (first_of (codes "object") (rows_of found)) c.in_ok-address.field-0 c.in-None.is c.in_ok-address.ensures.number,
    )

pub returns-in_err-check_parts-clause-refused : goal.returns-in_err-check_parts-clause-refused
returns-in_err-check_parts-clause-refused c =
    let p = err_from_is_err_and c.from_residual.result c.from_residual.ensures.1 in
    rw (p.1, p.2) (because_so (λ k. together k) c.in_err-check_parts.field-0.0 c.in_err-check_parts.ensures.refused)

pub returns-in_err-region-clause-refused : goal.returns-in_err-region-clause-refused
returns-in_err-region-clause-refused c =
    let p = err_from_is_err_and c.from_residual-in_err-region.result c.from_residual-in_err-region.ensures.1 in
    rw (p.1, p.2) (because_so (λ k. no_region k) c.in_err-region.field-0.0 c.in_err-region.ensures.refused)

pub returns-in_err-address-clause-refused : goal.returns-in_err-address-clause-refused
returns-in_err-address-clause-refused c =
    let p = err_from_is_err_and c.from_residual-in_err-address.result c.from_residual-in_err-address.ensures.1 in
    rw (p.1, p.2) (because_so (no_object (rows_of (found_of c.args.values.now))) c.in_err-address.field-0.0 c.in_err-address.ensures.refused)
