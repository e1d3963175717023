use Rattle.std.proofs.Common.{◌∙◌}
use Rattle.std.proofs.lemmas.Result.{err_from_is_err_and}
use Rattle.g1_trace.proofs.Told.{set_range, set_done}
use Rattle.g1_trace.proofs.answering.answer_set.Goals as goal

pub returns-in_err-check_index : goal.returns-in_err-check_index
returns-in_err-check_index c =
    let t = c.in_ok-target in
    let e = c.in_err-check_index in
    let p = err_from_is_err_and c.from_residual-in_err-check_index.result c.from_residual-in_err-check_index.ensures.1 in
    rw (p.1, p.2) (set_range c.args.heap.now c.args.root c.args.word t.target t.ensures.root t.ensures.object t.ensures.named
    e.field-0.0 c.args.value e.ensures.refused)

pub returns : goal.returns
returns c =
    let t = c.in_ok-target in
    c.done.ensures ∙ set_done c.args.heap.now c.args.root c.args.word t.target t.ensures.root t.ensures.object t.ensures.named
    c.args.value c.in_ok-check_index.ensures.below
