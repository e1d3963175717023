use Rattle.std.proofs.Common.{sym, ap, ◌∙◌}
use Rattle.g1_report.specs.Program.{kind_told, kind_said, words_text}
use Rattle.g1_report.specs.Wording.{own_kind, like_kind}
use Rattle.g1_report.specs.Given.{compared}
use Rattle.g1_report.proofs.Told.{or_some, or_none}
use Rattle.g1_report.proofs.comparing.kind_of.Goals as goal

pub returns-in-Some : goal.returns-in-Some
returns-in-Some c = λ h.
    let s = compared c.args.sides in
    let o = words_text c.args.object.now in
    or_some (own_kind s o) (like_kind s o) (kind_said c.in-Some.kind) (ap kind_told (sym c.in-Some.is) ∙ c.own_kind.ensures h)

pub returns-in-None : goal.returns-in-None
returns-in-None c = λ h.
    let s = compared c.args.sides in
    let o = words_text c.args.object.now in
    or_none (own_kind s o) (like_kind s o) (kind_told c.like_kind.result) (ap kind_told (sym c.in-None.is) ∙ c.own_kind.ensures h) (c.like_kind.ensures h)
