use Rattle.std.proofs.Common.{ap, ◌∙◌}
use Rattle.std.specs.Prelude.{option_and_then}
use Rattle.g1_report.specs.Program.{ProgramNames, WordsOf, program_of, names_told, object_of, data_name}
use Rattle.g1_report.proofs.Told.{then_some, then_none}
use Rattle.g1_report.proofs.Programs.{given, missing, given_in_order}
use Rattle.g1_report.proofs.comparing.word_name.Goals as goal

pub returns-in-Some : goal.returns-in-Some
returns-in-Some c = λ h.
    let names = c.args.sides.names in
    let k = c.args.word in
    let object = object_of c.args.sides.heaps.before.now c.args.reference in
    then_some (λ (p : ProgramNames). option_and_then (λ (o : WordsOf). data_name p o k) object) (names_told names) _ _ (given names c.in-Some.names c.in-Some.is)
    (c.data_in.ensures (given_in_order names c.in-Some.names c.in-Some.is h.names) ∙ ap (option_and_then (λ (o : WordsOf). data_name (program_of c.in-Some.names.now) o k)) (c.object_of.ensures c.requires))

pub returns-in-None : goal.returns-in-None
returns-in-None c = λ h.
    let names = c.args.sides.names in
    let object = object_of c.args.sides.heaps.before.now c.args.reference in
    then_none (λ (p : ProgramNames). option_and_then (λ (o : WordsOf). data_name p o c.args.word) object) (names_told names) (missing names c.in-None.is)
