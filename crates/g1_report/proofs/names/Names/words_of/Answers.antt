use Rattle.std.proofs.Common.{sym, ap, ◌∙◌}
use Rattle.g1_report.specs.Program.{program_of, at_name, kind_told, kind_of_object, words_text}
use Rattle.g1_report.proofs.Told.{then_some, then_none}
use Rattle.g1_report.proofs.names.Names.words_of.Goals as goal

pub returns-in-Some : goal.returns-in-Some
returns-in-Some c = λ h.
    let p = program_of c.args.self.now in
    then_some (λ kind. at_name p.types kind.name) (kind_of_object p (words_text c.args.object.now)) _ _ (ap kind_told (sym c.in-Some.is) ∙ c.object.ensures h) (c.words_of_type.ensures h)

pub returns-in-None : goal.returns-in-None
returns-in-None c = λ h.
    let p = program_of c.args.self.now in
    then_none (λ kind. at_name p.types kind.name) (kind_of_object p (words_text c.args.object.now)) (ap kind_told (sym c.in-None.is) ∙ c.object.ensures h)
