use Rattle.std.proofs.Common.{◌++◌, ◌∙◌, sym, ap, string_bytes}
use Rattle.std.proofs.lemmas.Result.{on_ok_weaker}
use Rattle.g1_report.specs.Program.{texts_told}
use Rattle.g1_report.specs.Wording.{name_of, named_value_text}
use Rattle.g1_report.proofs.comparing.push_named_value.Goals as goal

pub returns-in-Some : goal.returns-in-Some
returns-in-Some c = λ h.
    let old = string_bytes c.args.text.now in
    let word = c.args.word in
    let said = name_of c.args.texts.now.entries word in
    on_ok_weaker c.push_text.result (λ e. e ∙ ap (λ words. old ++ named_value_text words said word) (ap texts_told (sym c.in-Some.is) ∙ c.text.ensures h)) c.push_text.ensures

pub returns-in-None : goal.returns-in-None
returns-in-None c = λ h.
    let old = string_bytes c.args.text.now in
    let word = c.args.word in
    let said = name_of c.args.texts.now.entries word in
    on_ok_weaker c.push_unnamed_value.result (λ e. e ∙ ap (λ words. old ++ named_value_text words said word) (ap texts_told (sym c.in-None.is) ∙ c.text.ensures h)) c.push_unnamed_value.ensures
