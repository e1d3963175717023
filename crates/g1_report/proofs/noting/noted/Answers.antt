use Rattle.std.proofs.Common.{length, sym, ap, subst, ◌∙◌, arith, string_bytes}
use Rattle.std.specs.Prelude.{flat_map}
use Rattle.std.proofs.lemmas.Iterator.Consumers.{YieldsList-at, YieldsList-turn, YieldsList-end}
use Rattle.std.proofs.lemmas.Iterator.Splits.{YieldsList-from_str_split}
use Rattle.g1_report.specs.Program.{program_of}
use Rattle.g1_report.specs.Noted.{SpeaksOfObject, noted_line, spaced_words}
use Rattle.g1_report.proofs.NotedLines.{next_line}
use Rattle.g1_report.proofs.noting.noted.Goals as goal

pub loop-line-preserved : goal.loop-line-preserved
loop-line-preserved c = λ order speaks.
    let p = program_of c.args.names.now in
    let h = c.args.heap.now in
    let road = YieldsList-at c.into_iter-line-iterator.ensures.into_iter_gives
    (YieldsList-from_str_split 10 c.args.lines.now (omega arith) c.split-line-items.ensures.text c.split-line-items.ensures.has_more c.split-line-items.ensures.pattern) in
    let turn = YieldsList-turn road c.loop-line.yielded _ c.loop-line.yielded_by _ _ c.in-Some.line c.in-Some.is c.next.ensures.steps in
    let here = subst (λ l. SpeaksOfObject h (spaced_words l)) (sym turn.1) (speaks (length c.loop-line.yielded) c.in-Some.line.now turn.0) in
    next_line (noted_line p h) c.loop-line.yielded c.in-Some.line (string_bytes c.loop-line.text) (string_bytes c.push_line.new.text) (c.loop-line.invariant order speaks) (c.in_ok-push_line.ensures order here)

pub returns : goal.returns
returns c = λ order speaks.
    let p = program_of c.args.names.now in
    let h = c.args.heap.now in
    let road = YieldsList-at c.into_iter-line-iterator.ensures.into_iter_gives
    (YieldsList-from_str_split 10 c.args.lines.now (omega arith) c.split-line-items.ensures.text c.split-line-items.ensures.has_more c.split-line-items.ensures.pattern) in
    let end = YieldsList-end road c.loop-line.yielded _ c.loop-line.yielded_by _ _ c.in-None.is c.next.ensures.steps in
    c.loop-line.invariant order speaks ∙ ap (flat_map (noted_line p h)) end.0
