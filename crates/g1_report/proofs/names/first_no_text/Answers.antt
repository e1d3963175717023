use Rattle.std.proofs.Common.{length, sym, ap, ◌∙◌, arith}
use Rattle.std.specs.Str.Lossy.{utf8_valid_len}
use Rattle.std.proofs.lemmas.Iterator.Consumers.{count_from_yields_List}
use Rattle.std.proofs.lemmas.Iterator.Splits.{YieldsList-from_str_split}
use Rattle.g1_text.specs.Reading.{parts_of}
use Rattle.g1_report.proofs.SaysNothing.{front_is}
use Rattle.g1_report.proofs.names.first_no_text.Goals as goal

pub returns-in-Some : goal.returns-in-Some
returns-in-Some c =
    let bytes = c.args.bytes.now in
    let steps = c.in-Some.ensures.steps in
    let front = front_is c.in-Some.chunk.valid.now _ bytes (utf8_valid_len bytes) (sym c.utf8_chunks.ensures.rest ∙ steps.0) (steps.3.0 ∙ ap utf8_valid_len c.utf8_chunks.ensures.rest) in
    count_from_yields_List c.split.result c.count.result c.count.ensures.ran (YieldsList-from_str_split 10 c.valid.result.now (omega arith) c.split.ensures.text c.split.ensures.has_more c.split.ensures.pattern)
    ∙ ap (λ v. length (parts_of v)) (c.valid.ensures ∙ front)
