use Rattle.std.proofs.Common.{rules, ◌≡◌, inr, false, refl, sym, ◌∙◌, ap, subst}
use Rattle.std.specs.Option.{is_some}
use Rattle.std.proofs.lemmas.Bool.{false≢true}
use Rattle.g1_text.specs.Reading.{parts_of, lines_in}
use Rattle.g1_text.specs.Late.{numbers_in}
use Rattle.g1_text.specs.Forms.{ImageHeading, ImageLine}
use Rattle.g1_text.specs.Short.{Closes}
use Rattle.g1_text.specs.Drafts.{said, numbers_read, AreTaken}
use Rattle.g1_text.proofs.Turns.{some_one}
use Rattle.g1_text.proofs.Formed.{meant_text}
use Rattle.g1_text.specs.Reported.{IsReported}
use Rattle.g1_text.proofs.Refusing.{reported, last_line_is}
use Rattle.g1_text.proofs.reading.read.Goals as goal

pub returns-in_default-clause-says : goal.returns-in_default-clause-says
returns-in_default-clause-says c = λ lines told after has all closed. absurd (false≢true (ap is_some (sym (ap said c.in_default.is) ∙ c.in_ok-parts.ensures.says lines told has all)))

pub returns-clause-says : goal.returns-clause-says
returns-clause-says c = λ lines told after has all closed.
    let e = some_one (sym (ap said c.in-Some.is) ∙ c.in_ok-parts.ensures.says lines told has all) in
    c.in_ok-close.ensures.closes after (subst (λ s. Closes s after) (sym e) closed)

pub returns-clause-known : goal.returns-clause-known
returns-clause-known c =
    let lines = c.in_ok-parts.ensures.known in
    meant_text ImageHeading ImageLine c.args.text.now
    (lines.0, subst (λ o. AreTaken ImageHeading ImageLine false (lines_in c.args.text.now) (is_some (said o))) c.in-Some.is lines.1)

pub returns-in_err-parts-clause-reports : goal.returns-in_err-parts-clause-reports
returns-in_err-parts-clause-reports c =
    let out : IsReported c.args.text.now c.in_err-parts.field-0.0 = reported c.args.text.now c.in_err-parts.field-0.0 (c.in_err-parts.ensures.reports refl) in
    search rules

pub returns-in_default-clause-reports : goal.returns-in_default-clause-reports
returns-in_default-clause-reports c =
    let bytes = c.args.text.now in
    let lines = c.in_ok-parts.ensures.known in
    let taken = subst (λ o. AreTaken ImageHeading ImageLine false (lines_in bytes) (is_some (said o))) c.in_default.is lines.1 in
    subst (IsReported bytes) (sym (c.at.ensures.number _ refl)) (inr (last_line_is bytes c.in_ok-parts.parts c.last_line.result (c.in_ok-parts.ensures.count refl) lines.0 taken c.last_line.ensures))

pub returns-clause-lines : goal.returns-clause-lines
returns-clause-lines c =
    let lines = subst (λ o. numbers_read o ≡ numbers_in (parts_of c.args.text.now)) c.in-Some.is (c.in_ok-parts.ensures.lines refl) in
    c.in_ok-close.ensures.lines ∙ lines
