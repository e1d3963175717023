use Rattle.g1_report.specs.Program.{names_told, kind_by_label, words_text}
use Rattle.g1_report.proofs.Told.{then_some, then_none}
use Rattle.g1_report.proofs.Programs.{given, missing, given_in_order}
use Rattle.g1_report.proofs.comparing.like_kind.Goals as goal

pub returns-in-Some : goal.returns-in-Some
returns-in-Some c = λ h.
    let names = c.args.sides.names in
    then_some (λ p. kind_by_label p (words_text c.args.object.now).data_words) (names_told names) _ _ (given names c.in-Some.names c.in-Some.is)
    (c.kind_labelled.ensures (given_in_order names c.in-Some.names c.in-Some.is h.names))

pub returns-in-None : goal.returns-in-None
returns-in-None c = λ h.
    let names = c.args.sides.names in
    then_none (λ p. kind_by_label p (words_text c.args.object.now).data_words) (names_told names) (missing names c.in-None.is)
