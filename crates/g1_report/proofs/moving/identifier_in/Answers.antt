use Rattle.std.proofs.Common.{sym, ap, ◌∙◌}
use Rattle.std.specs.Prelude.{option_map, option_and_then}
use Rattle.std.proofs.lemmas.Option.{same_Some}
use Rattle.g1_report.specs.Program.{kind_of_object, program_of, words_at, words_text}
use Rattle.g1_report.specs.Wording.{identifier_of}
use Rattle.g1_report.proofs.Joined.{never}
use Rattle.g1_report.proofs.moving.identifier_in.Goals as goal

pub returns-in-Some : goal.returns-in-Some
returns-in-Some c = λ h.
    let object = words_at c.args.heap.now c.args.address in
    let is = ap (option_map words_text) (sym c.in-Some.is) ∙ c.words_at.ensures c.requires in
    c.identifier_of.ensures ∙ ap (option_and_then identifier_of) (c.object.ensures h ∙ ap (kind_of_object (program_of c.args.names.now)) (same_Some (words_text c.in-Some.object) object is))

-- an object is there
pub returns-in-None : goal.returns-in-None
returns-in-None c = λ h. never _ _ (words_at c.args.heap.now c.args.address) (ap (option_map words_text) c.in-None.is) (c.words_at.ensures c.requires)
