use Rattle.std.proofs.Common.{◌+◌, get_or, ◌∙◌, ap}
use Rattle.std.proofs.lemmas.Result.{err_from_is_err_and}
use Rattle.g1_trace.proofs.Told.{say_range, say_done}
use Rattle.g1_trace.proofs.answering.answer_say.Goals as goal

pub returns-in_err-check_index : goal.returns-in_err-check_index
returns-in_err-check_index c =
    let s = c.in_ok-source in
    let e = c.in_err-check_index in
    let p = err_from_is_err_and c.from_residual-in_err-check_index.result c.from_residual-in_err-check_index.ensures.1 in
    rw (p.1, p.2) (say_range c.args.heap.now c.args.root c.args.word s.source s.ensures.root s.ensures.object s.ensures.named
    e.field-0.0 e.ensures.refused)

pub returns : goal.returns
returns c =
    let s = c.in_ok-source in
    c.number.ensures ∙ say_done c.args.heap.now c.args.root c.args.word s.source s.ensures.root s.ensures.object s.ensures.named
    _ c.in_ok-check_index.ensures.below (c.at-value.ensures ∙ ap (λ ws. get_or ws (s.source.at + 1 + s.source.refs + c.args.word) 0) c.words.ensures.same)
