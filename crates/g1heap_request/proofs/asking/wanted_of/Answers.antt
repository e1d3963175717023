use Rattle.std.proofs.Common.{◌≡◌, ◌≢◌, rules, subst}
use Rattle.std.specs.Prelude.{codes}
use Rattle.clap.specs.Words.{found_of, rows_of}
use Rattle.g1heap_request.specs.Values.{IsFlag}
use Rattle.g1heap_request.proofs.Got.{flag_got}
use Rattle.std.proofs.lemmas.Result.{err_from_is_err_and}
use Rattle.g1_command.proofs.Got.{because_so}
use Rattle.g1heap_request.specs.Wrong.HasWrongValue.{together}
use Rattle.g1heap_request.proofs.Reasons.{no_option, no_sharing}
use Rattle.g1heap_request.proofs.asking.wanted_of.Goals as goal

pub returns-then-eq-clause-wanted : goal.returns-then-eq-clause-wanted
returns-then-eq-clause-wanted c =
    let numbers = c.in_ok-pause.ensures.pause.0 in
    let named : c.args.name.now ≡ codes "pause" = search rules in
    (named, record { sharing = numbers.sharing; cost = numbers.cost; budget = numbers.budget }, c.in_ok-pause-2.ensures.set, c.in_ok-check_choice.ensures.choice)

pub returns-then-get_flag-clause-wanted : goal.returns-then-get_flag-clause-wanted
returns-then-get_flag-clause-wanted c =
    let found = found_of c.args.values.now in
    let told = c.get_flag.ensures in
    let other : c.args.name.now ≢ codes "pause" = search rules in (
      other,
      subst (IsFlag (rows_of found) (codes "repack")) c.if-get_flag.true (flag_got found (codes "repack") c.get_flag.result told.none told.value told.other),
      c.in_ok-sharing.ensures.sharing,
    )

pub returns-clause-wanted : goal.returns-clause-wanted
returns-clause-wanted c =
    let found = found_of c.args.values.now in
    let told = c.get_flag.ensures in
    let other : c.args.name.now ≢ codes "pause" = search rules in
    (other, subst (IsFlag (rows_of found) (codes "repack")) c.if-get_flag.false (flag_got found (codes "repack") c.get_flag.result told.none told.value told.other))

pub returns-in_err-check_choice-clause-refused : goal.returns-in_err-check_choice-clause-refused
returns-in_err-check_choice-clause-refused c =
    let p = err_from_is_err_and c.from_residual.result c.from_residual.ensures.1 in
    rw (p.1, p.2) (because_so (λ k. together k) c.in_err-check_choice.field-0.0 c.in_err-check_choice.ensures.refused)

pub returns-in_err-pause-clause-refused : goal.returns-in_err-pause-clause-refused
returns-in_err-pause-clause-refused c =
    let p = err_from_is_err_and c.from_residual-in_err-pause.result c.from_residual-in_err-pause.ensures.1 in
    rw (p.1, p.2) (because_so (no_option (rows_of (found_of c.args.values.now))) c.in_err-pause.field-0.0 c.in_err-pause.ensures.refused)

pub returns-in_err-sharing-clause-refused : goal.returns-in_err-sharing-clause-refused
returns-in_err-sharing-clause-refused c =
    let p = err_from_is_err_and c.from_residual-in_err-sharing.result c.from_residual-in_err-sharing.ensures.1 in
    rw (p.1, p.2) (because_so (no_sharing (rows_of (found_of c.args.values.now))) c.in_err-sharing.field-0.0 c.in_err-sharing.ensures.refused)
