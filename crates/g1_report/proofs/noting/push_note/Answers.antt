use Rattle.std.proofs.Common.{◌≡◌, ◌++◌, ap, subst, ◌∙◌, arith, Ok, string_bytes}
use Rattle.std.specs.Prelude.{OnOk}
use Rattle.std.proofs.lemmas.Iterator.Consumers.{map_from_collect}
use Rattle.std.proofs.lemmas.Iterator.Splits.{YieldsList-from_str_split}
use Rattle.g1_report.specs.Program.{program_of, texts}
use Rattle.g1_report.specs.Noted.{SpeaksOfObject, line_note}
use Rattle.g1_report.proofs.noting.push_note.Goals as goal

pub returns : goal.returns
returns c = λ order.
    let p = program_of c.args.names.now in
    let h = c.args.heap.now in
    let road = YieldsList-from_str_split 32 c.args.line.now (omega arith) c.split.ensures.text c.split.ensures.has_more c.split.ensures.pattern in
    let same = map_from_collect {E = Unit {0}} (Ok c.in_ok-words.words) c.in_ok-words.ensures.ran road in
    subst (λ ws. SpeaksOfObject h ws → OnOk c.push_words_note.result (string_bytes c.push_words_note.new.text ≡ string_bytes c.args.text.now ++ line_note p h ws))
    (ap texts c.as_slice.ensures.value ∙ same) (c.push_words_note.ensures order)
