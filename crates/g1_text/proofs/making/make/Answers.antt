use Rattle.std.proofs.Common.{rules, sym, ◌∙◌, ap, subst}
use Rattle.std.specs.Prelude.{◌≡◌, [], Some, None, IfOk, OnOk, All}
use Rattle.g1_image.specs.Parts.{CountsFit}
use Rattle.g1_text.specs.Content.{Content, file_with}
use Rattle.g1_text.specs.Covered.{IsToldBy}
use Rattle.g1_text.specs.Counted.{IsMadeOf}
use Rattle.g1_text.proofs.Counted.{uncovered}
use Rattle.g1_text.proofs.FullText.{full_text_says}
use Rattle.g1_text.proofs.Results.{on_ok}
use Rattle.g1_text.proofs.Telling.{tell_all, tells_image, closes}
use Rattle.g1_text.specs.Reading.{lines_in}
use Rattle.g1_text.specs.Drafts.{content, numbers}
use Rattle.g1_text.specs.Reported.{Reports}
use Rattle.g1_text.proofs.Refusing.{reports_early, all_late}
use Rattle.g1_text.proofs.making.make.Goals as goal

pub returns-in_err-draft-clause-whole : goal.returns-in_err-draft-clause-whole
returns-in_err-draft-clause-whole c = λ i good e.
    let s = tells_image c.args.text.now i (full_text_says i good c.args.text.now e) in
    let out = c.in_err-draft.ensures.says s.lines s.told s.content s.has s.tells s.closed in
    search rules

pub returns-in_err-draft-clause-says : goal.returns-in_err-draft-clause-says
returns-in_err-draft-clause-says c = λ i says.
    let s = tells_image c.args.text.now i says in
    let out = c.in_err-draft.ensures.says s.lines s.told s.content s.has s.tells s.closed in
    search rules

pub returns-in_err-draft-clause-tells : goal.returns-in_err-draft-clause-tells
returns-in_err-draft-clause-tells c = λ i s.
    let out = c.in_err-draft.ensures.says s.lines s.told s.content s.has s.tells s.closed in
    search rules

pub returns-clause-whole : goal.returns-clause-whole
returns-clause-whole c = λ i good e.
    let s = tells_image c.args.text.now i (full_text_says i good c.args.text.now e) in
    c.finish.ensures.text i (subst (λ x. IsToldBy x i) (sym (c.in_ok-draft.ensures.says s.lines s.told s.content s.has s.tells s.closed)) s.is)

pub returns-clause-says : goal.returns-clause-says
returns-clause-says c = λ i says.
    let s = tells_image c.args.text.now i says in
    c.finish.ensures.text i (subst (λ x. IsToldBy x i) (sym (c.in_ok-draft.ensures.says s.lines s.told s.content s.has s.tells s.closed)) s.is)

pub returns-clause-tells : goal.returns-clause-tells
returns-clause-tells c = λ i s.
    c.finish.ensures.text i (subst (λ x. IsToldBy x i) (sym (c.in_ok-draft.ensures.says s.lines s.told s.content s.has s.tells s.closed)) s.is)

pub returns-clause-only : goal.returns-clause-only
returns-clause-only c = λ lines d has says closed fit.
    let same = c.in_ok-draft.ensures.says lines d d has (tell_all None (Some d) lines says) (closes d closed) in
    let plain = ap (λ (s : Content). s.covered) same ∙ uncovered d lines says in
    subst (λ s. IfOk c.finish.result (λ v. IsMadeOf s v.items)) same (c.finish.ensures.only plain (subst (λ s. CountsFit (file_with s)) (sym same) fit))

pub returns-clause-counted : goal.returns-clause-counted
returns-clause-counted c = λ lines told d has tells closed uncovered_now fit.
    let same = c.in_ok-draft.ensures.says lines told d has tells closed in
    let plain = ap (λ (s : Content). s.covered) same ∙ uncovered_now in
    subst (λ s. IfOk c.finish.result (λ v. IsMadeOf s v.items)) same (c.finish.ensures.only plain (subst (λ s. CountsFit (file_with s)) (sym same) fit))

pub returns-clause-alone : goal.returns-clause-alone
returns-clause-alone c = λ lines told d has tells closed covered.
    let same = c.in_ok-draft.ensures.says lines told d has tells closed in
    let now = ap (λ (s : Content). s.covered) same ∙ covered in
    subst (λ s. OnOk c.finish.result (All (λ cards. cards ≡ []) s.remembered)) same (c.finish.ensures.alone now)

pub returns-clause-known : goal.returns-clause-known
returns-clause-known c = on_ok c.finish.result c.in_ok-draft.ensures.known

pub returns-in_err-draft-clause-reports : goal.returns-in_err-draft-clause-reports
returns-in_err-draft-clause-reports c =
    let out : Reports c.args.text.now c.in_err-draft.field-0.0 = reports_early c.args.text.now c.in_err-draft.field-0.0 c.in_err-draft.ensures.reports in
    search rules

pub returns-clause-reports : goal.returns-clause-reports
returns-clause-reports c =
    let draft = c.in_ok-draft.draft in
    all_late c.args.text.now (numbers draft) (content draft) c.in_ok-draft.ensures.known c.in_ok-draft.ensures.lines (λ told after has tells closed. c.in_ok-draft.ensures.says (lines_in c.args.text.now) told after has tells closed)
    c.finish.result c.finish.ensures.fault c.finish.ensures.late c.finish.ensures.covered
