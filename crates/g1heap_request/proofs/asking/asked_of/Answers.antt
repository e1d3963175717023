use Rattle.std.proofs.Common.{subst}
use Rattle.std.specs.Prelude.{MatchOption}
use Rattle.clap.specs.Words.{found_of, rows_of}
use Rattle.g1_answers.specs.Asked.{IsQuestionOf}
use Rattle.g1heap_request.specs.Asks.{MakesImage, MakesNoImage}
use Rattle.std.proofs.lemmas.Result.{err_from_is_err_and}
use Rattle.g1_command.proofs.Got.{because_so}
use Rattle.g1heap_request.proofs.Reasons.{asked_in_ranges, in_ranges, made_in_ranges, no_option}
use Rattle.g1heap_request.specs.Wrong.IsRefused.{by_value}
use Rattle.g1heap_request.proofs.asking.asked_of.Goals as goal

pub returns-in-Some-clause-asks : goal.returns-in-Some-clause-asks
returns-in-Some-clause-asks c =
    let rows = rows_of (found_of c.args.values.now) in
    let name = c.args.name.now in
    let made = subst (λ o. MatchOption o (MakesNoImage name rows) (MakesImage name rows)) c.in-Some.is c.in_ok-wanted.ensures.wanted in
    (c.in_ok-image_of.ensures.image, made, c.in_ok-check_ranges.ensures.within, c.in_ok-output_of.ensures)

pub returns-in_default-2-clause-asks : goal.returns-in_default-2-clause-asks
returns-in_default-2-clause-asks c =
    let rows = rows_of (found_of c.args.values.now) in
    let name = c.args.name.now in
    let made = subst (λ o. MatchOption o (MakesNoImage name rows) (MakesImage name rows)) c.in_default.is c.in_ok-wanted.ensures.wanted in
    (made.0, subst (IsQuestionOf name rows) c.in_default-2.is c.in_ok-question.ensures.question)

pub returns-clause-asks : goal.returns-clause-asks
returns-clause-asks c =
    let rows = rows_of (found_of c.args.values.now) in
    let name = c.args.name.now in
    let made = subst (λ o. MatchOption o (MakesNoImage name rows) (MakesImage name rows)) c.in_default.is c.in_ok-wanted.ensures.wanted in
    (made.1, c.in_ok-image_of-2.ensures.image, subst (IsQuestionOf name rows) c.in-Some-2.is c.in_ok-question.ensures.question, c.in_ok-check_ranges-2.ensures.within, c.in_ok-output_of-2.ensures)

pub returns-in_err-wanted-clause-refused : goal.returns-in_err-wanted-clause-refused
returns-in_err-wanted-clause-refused c =
    let p = err_from_is_err_and c.from_residual.result c.from_residual.ensures.1 in
    rw (p.1, p.2) (because_so (λ k. by_value k) c.in_err-wanted.field-0.0 c.in_err-wanted.ensures.refused)

pub returns-in_err-question-clause-refused : goal.returns-in_err-question-clause-refused
returns-in_err-question-clause-refused c =
    let p = err_from_is_err_and c.from_residual-in_err-question.result c.from_residual-in_err-question.ensures.1 in
    rw (p.1, p.2) (because_so (λ k. by_value (no_option (rows_of (found_of c.args.values.now)) k)) c.in_err-question.field-0.0 c.in_err-question.ensures.refused)

pub returns-in_err-image_of-clause-refused : goal.returns-in_err-image_of-clause-refused
returns-in_err-image_of-clause-refused c =
    let p = err_from_is_err_and c.from_residual-in_err-image_of.result c.from_residual-in_err-image_of.ensures.1 in
    rw (p.1, p.2) (because_so (λ k. by_value k) c.in_err-image_of.field-0.0 c.in_err-image_of.ensures.refused)

pub returns-in_err-image_of-2-clause-refused : goal.returns-in_err-image_of-2-clause-refused
returns-in_err-image_of-2-clause-refused c =
    let p = err_from_is_err_and c.from_residual-in_err-image_of-2.result c.from_residual-in_err-image_of-2.ensures.1 in
    rw (p.1, p.2) (because_so (λ k. by_value k) c.in_err-image_of-2.field-0.0 c.in_err-image_of-2.ensures.refused)

pub returns-in_err-check_ranges-clause-refused : goal.returns-in_err-check_ranges-clause-refused
returns-in_err-check_ranges-clause-refused c =
    let rows = rows_of (found_of c.args.values.now) in
    let name = c.args.name.now in
    let made = subst (λ o. MatchOption o (MakesNoImage name rows) (MakesImage name rows)) c.in-Some.is c.in_ok-wanted.ensures.wanted in
    let p = err_from_is_err_and c.from_residual-in_err-check_ranges.result c.from_residual-in_err-check_ranges.ensures.1 in
    rw (p.1, p.2) (because_so (in_ranges name rows (made_in_ranges name rows c.in-Some.wanted made)) c.in_err-check_ranges.field-0.0 c.in_err-check_ranges.ensures.refused)

pub returns-in_err-check_ranges-2-clause-refused : goal.returns-in_err-check_ranges-2-clause-refused
returns-in_err-check_ranges-2-clause-refused c =
    let rows = rows_of (found_of c.args.values.now) in
    let name = c.args.name.now in
    let asked = subst (IsQuestionOf name rows) c.in-Some-2.is c.in_ok-question.ensures.question in
    let p = err_from_is_err_and c.from_residual-in_err-check_ranges-2.result c.from_residual-in_err-check_ranges-2.ensures.1 in
    rw (p.1, p.2) (because_so (in_ranges name rows (asked_in_ranges name rows c.in-Some-2.question asked)) c.in_err-check_ranges-2.field-0.0 c.in_err-check_ranges-2.ensures.refused)
