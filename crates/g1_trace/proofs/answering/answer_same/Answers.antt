use Rattle.std.proofs.Common.{◌∙◌}
use Rattle.g1_trace.proofs.Told.{same_done}
use Rattle.g1_trace.proofs.answering.answer_same.Goals as goal

pub returns : goal.returns
returns c =
    let value = c.in_ok-value in
    let other = c.in_ok-other_value in
    c.number.ensures
    ∙ same_done c.args.heap.now c.args.root c.args.other value.ensures.root other.ensures.root value.value other.other_value _ value.ensures.value other.ensures.value c.from.ensures
