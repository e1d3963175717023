use Rattle.std.proofs.Common.{ap, ◌∙◌}
use Rattle.std.specs.Prelude.{option_and_then}
use Rattle.g1_report.specs.Program.{ProgramNames, program_of, names_told, object_of, kind_of_object}
use Rattle.g1_report.proofs.Told.{then_some, then_none}
use Rattle.g1_report.proofs.Programs.{given, missing, given_in_order}
use Rattle.g1_report.proofs.comparing.kind_before.Goals as goal

pub returns-in-Some : goal.returns-in-Some
returns-in-Some c = λ h.
    let names = c.args.sides.names in
    let word = c.args.word in
    let before = c.args.sides.heaps.before.now in
    then_some (λ (p : ProgramNames). option_and_then (kind_of_object p) (object_of before word)) (names_told names) _ _ (given names c.in-Some.names c.in-Some.is)
    (c.kind_in.ensures (given_in_order names c.in-Some.names c.in-Some.is h.names) ∙ ap (option_and_then (kind_of_object (program_of c.in-Some.names.now))) (c.object_of.ensures c.requires))

pub returns-in-None : goal.returns-in-None
returns-in-None c = λ h.
    let names = c.args.sides.names in
    then_none (λ (p : ProgramNames). option_and_then (kind_of_object p) (object_of c.args.sides.heaps.before.now c.args.word)) (names_told names) (missing names c.in-None.is)
