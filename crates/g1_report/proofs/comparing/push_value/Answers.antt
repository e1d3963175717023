use Rattle.std.proofs.Common.{◌++◌, ◌∙◌, ap, string_bytes}
use Rattle.std.proofs.lemmas.Result.{on_ok_weaker}
use Rattle.g1_report.specs.Program.{names_told}
use Rattle.g1_report.specs.Wording.{value_text}
use Rattle.g1_report.proofs.Joined.{joined}
use Rattle.g1_report.proofs.Programs.{given, missing, given_in_order}
use Rattle.g1_report.proofs.comparing.push_value.Goals as goal

pub returns-in-Some : goal.returns-in-Some
returns-in-Some c = λ h.
    let names = c.args.names in
    let now = string_bytes c.push_str.new.self in
    let new = string_bytes c.push_named_value.new.text in
    let word = c.args.word in
    on_ok_weaker c.push_named_value.result
    (λ e. joined (string_bytes c.args.text.now) now new c.args.lead.now (value_text (names_told names) c.args.texts.now.entries word) c.in_ok-push_str.ensures.bytes
    (e ∙ ap (λ names. now ++ value_text names c.args.texts.now.entries word) (given names c.in-Some.names c.in-Some.is)))
    (c.push_named_value.ensures (given_in_order names c.in-Some.names c.in-Some.is h))

pub returns-in-None : goal.returns-in-None
returns-in-None c = λ h.
    let names = c.args.names in
    let now = string_bytes c.push_str.new.self in
    let new = string_bytes c.push_plain_value.new.text in
    let word = c.args.word in
    on_ok_weaker c.push_plain_value.result
    (λ e. joined (string_bytes c.args.text.now) now new c.args.lead.now (value_text (names_told names) c.args.texts.now.entries word) c.in_ok-push_str.ensures.bytes
    (e ∙ ap (λ names. now ++ value_text names c.args.texts.now.entries word) (missing names c.in-None.is)))
    c.push_plain_value.ensures
