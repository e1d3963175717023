use Rattle.std.proofs.Common.{◌++◌, ◌∙◌, ap, string_bytes}
use Rattle.std.proofs.lemmas.Result.{on_ok_weaker}
use Rattle.g1_report.specs.Wording.{root_text_of, name_of_root, slots_text}
use Rattle.g1_report.specs.Given.{compared}
use Rattle.g1_report.proofs.Joined.{joined}
use Rattle.g1_report.proofs.Programs.{given, missing, given_in_order}
use Rattle.g1_report.proofs.comparing.push_path.Goals as goal

pub returns-in-Some : goal.returns-in-Some
returns-in-Some c = λ h.
    let s = compared c.args.sides in
    let root = c.args.path.0 in
    let slots = c.args.path.1.now in
    let now = string_bytes c.push_root.new.text in
    let new = string_bytes c.push_named_slots.new.text in
    on_ok_weaker c.push_named_slots.result
    (λ e. joined (string_bytes c.args.text.now) now new (root_text_of (name_of_root s.names s.roots root) root) (slots_text s.names s.before root slots) (c.in_ok-push_root.ensures h)
    (e ∙ ap (λ names. now ++ slots_text names s.before root slots) (given c.args.sides.names c.in-Some.names c.in-Some.is)))
    (c.push_named_slots.ensures (given_in_order c.args.sides.names c.in-Some.names c.in-Some.is h.names))

pub returns-in-None : goal.returns-in-None
returns-in-None c = λ h.
    let s = compared c.args.sides in
    let root = c.args.path.0 in
    let slots = c.args.path.1.now in
    let now = string_bytes c.push_root.new.text in
    let new = string_bytes c.push_slots.new.text in
    on_ok_weaker c.push_slots.result
    (λ e. joined (string_bytes c.args.text.now) now new (root_text_of (name_of_root s.names s.roots root) root) (slots_text s.names s.before root slots) (c.in_ok-push_root.ensures h)
    (e ∙ ap (λ names. now ++ slots_text names s.before root slots) (missing c.args.sides.names c.in-None.is)))
    c.push_slots.ensures
