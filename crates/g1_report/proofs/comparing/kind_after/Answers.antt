use Rattle.std.proofs.Common.{sym, ap, ◌∙◌}
use Rattle.std.specs.Prelude.{option_map}
use Rattle.g1_report.specs.Program.{WordsOf, object_of, or_else, words_text}
use Rattle.g1_report.specs.Wording.{own_kind, like_kind}
use Rattle.g1_report.specs.Given.{compared}
use Rattle.g1_report.proofs.Told.{then_some, then_none}
use Rattle.g1_report.proofs.comparing.kind_after.Goals as goal

pub returns-in-Some : goal.returns-in-Some
returns-in-Some c = λ h.
    let s = compared c.args.sides in
    then_some (λ (o : WordsOf). or_else (own_kind s o) (like_kind s o)) (object_of s.after c.args.word) _ _ (ap (option_map words_text) (sym c.in-Some.is) ∙ c.object_of.ensures c.requires)
    (c.kind_of.ensures h)

pub returns-in-None : goal.returns-in-None
returns-in-None c = λ h.
    let s = compared c.args.sides in
    then_none (λ (o : WordsOf). or_else (own_kind s o) (like_kind s o)) (object_of s.after c.args.word) (ap (option_map words_text) (sym c.in-None.is) ∙ c.object_of.ensures c.requires)
