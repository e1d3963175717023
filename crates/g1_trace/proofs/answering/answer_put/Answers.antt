use Rattle.std.proofs.Common.{◌∙◌}
use Rattle.std.proofs.lemmas.Result.{err_from_is_err_and}
use Rattle.g1_trace.proofs.Told.{put_range, put_done}
use Rattle.g1_trace.proofs.answering.answer_put.Goals as goal

pub returns-in_err-check_index : goal.returns-in_err-check_index
returns-in_err-check_index c =
    let t = c.in_ok-target in
    let e = c.in_err-check_index in
    let p = err_from_is_err_and c.from_residual-in_err-check_index.result c.from_residual-in_err-check_index.ensures.1 in
    rw (p.1, p.2) (put_range c.args.heap.now c.args.root c.args.from c.args.slot t.target t.ensures.root c.in_ok-value.ensures.root t.ensures.object
    e.field-0.0 t.ensures.named e.ensures.refused)

pub returns : goal.returns
returns c =
    let t = c.in_ok-target in
    c.done.ensures ∙ put_done c.args.heap.now c.args.root c.args.from c.args.slot t.target t.ensures.root c.in_ok-value.ensures.root t.ensures.object
    _ t.ensures.named c.in_ok-check_index.ensures.below c.in_ok-value.ensures.value
