use Rattle.g1_report.specs.Program.{names_told, kind_of_object, words_text}
use Rattle.g1_report.proofs.Told.{then_some, then_none}
use Rattle.g1_report.proofs.Programs.{given, missing, given_in_order}
use Rattle.g1_report.proofs.comparing.own_kind.Goals as goal

pub returns-in-Some : goal.returns-in-Some
returns-in-Some c = λ h.
    let names = c.args.sides.names_after in
    then_some (λ p. kind_of_object p (words_text c.args.object.now)) (names_told names) _ _ (given names c.in-Some.names c.in-Some.is)
    (c.object.ensures (given_in_order names c.in-Some.names c.in-Some.is h.names_after))

pub returns-in-None : goal.returns-in-None
returns-in-None c = λ h.
    let names = c.args.sides.names_after in
    then_none (λ p. kind_of_object p (words_text c.args.object.now)) (names_told names) (missing names c.in-None.is)
