use Rattle.std.proofs.Common.{inr, refl, ◌<◌, length, arith}
use Rattle.std.proofs.lemmas.Result.{err_from_is_err_and}
use Rattle.std.proofs.lemmas.Bool.Decides.{nat_tests}
use Rattle.g1_answers.specs.Numbers.{by_number, by_choice}
use Rattle.g1_answers.proofs.Ranges.{has_both, refused_by_number}
use Rattle.g1_answers.proofs.question.pause_settings.Goals as goal

pub returns-in_err-settings-in-Some-clause-refused : goal.returns-in_err-settings-in-Some-clause-refused
returns-in_err-settings-in-Some-clause-refused c =
    let p = err_from_is_err_and c.from_residual-in_err-settings-in-Some.result c.from_residual-in_err-settings-in-Some.ensures.1 in
    let bad = c.in_err-settings-in-Some.ensures.refused in
    rw (p.1, p.2) (inr (bad.0, by_number bad.1, bad.2))

pub returns-in_ok-regions-in-None-clause-refused : goal.returns-in_ok-regions-in-None-clause-refused
returns-in_ok-regions-in-None-clause-refused c = refused_by_number c.args.pause.now _ c.settings_with.result c.settings_with.ensures.refused

pub returns-else-is_empty-clause-refused : goal.returns-else-is_empty-clause-refused
returns-else-is_empty-clause-refused c =
    let many : 0 < length c.args.pause.now.regions.items = grind (arith, nat_tests, c.if-is_empty.ensures, c.args.pause.now.regions.ok.0) in
    inr (4, by_choice c.in_ok-settings-in-Some.ensures.taken (has_both c.args.pause.now c.in-Some.budget c.in-Some.is many), refl)
