use Rattle.std.proofs.Common.{inl, inr, ◌+◌, ◌^◌, ◌<◌, refl, sym, ◌∙◌, subst, arith}
use Rattle.g1_image.specs.Source.{HoldsOfLeft}
use Rattle.g1_command.specs.Lines.{left_of}
use Rattle.g1heap_cli.proofs.TraceReached.{Reached, nothing_left, reached_end, reached_failed, reached_gone, reached_more, reached_refused, reached_start, reached_written}
use Rattle.g1heap_cli.proofs.TraceRefused.{read_failed, reached_kept, reached_unfinished, reached_untaken}
use Rattle.g1heap_cli.proofs.tracing.answer_all.Goals as goal
use Rattle.g1heap_cli.proofs.tracing.answer_all.Goals.{then-is_live+in-Ok-eq0, else-is_live}

pub loop-number-init : goal.loop-number-init
loop-number-init g c = record { live = c.is_live-is_live.ensures; reached = reached_start _ _ _ _ c.requires.start }

pub finish-requires : goal.finish-requires
finish-requires g c = record { kept = reached_kept _ _ _ _ _ _ _ c.loop-number.invariant.reached }

-- behind the last line
pub returns-in-Ok-false-clause-sends : goal.returns-in-Ok-false-clause-sends
returns-in-Ok-false-clause-sends g c =
    let none = nothing_left _ _ _ _ _ c.in-Ok-false.ensures.line c.in-Ok-false.field-0-test in
    reached_end _ _ _ _ _ _ _ c.loop-number.invariant.reached none _ _ c.finish.ensures.sends

pub returns-in-Ok-false-clause-refused : goal.returns-in-Ok-false-clause-refused
returns-in-Ok-false-clause-refused g c =
    let none = nothing_left _ _ _ _ _ c.in-Ok-false.ensures.line c.in-Ok-false.field-0-test in
    reached_unfinished _ _ _ _ _ _ _ c.loop-number.invariant.reached _ none c.finish.ensures.refused

-- the line is not read
pub returns-in-Err-clause-sends : goal.returns-in-Err-clause-sends
returns-in-Err-clause-sends g c = reached_refused _ _ _ _ _ _ _ c.loop-number.invariant.reached _ _

pub returns-in-Err-clause-refused : goal.returns-in-Err-clause-refused
returns-in-Err-clause-refused g c = read_failed c.args.job.now.trace.now (HoldsOfLeft (left_of g.R.Read.remaining c.args.lines.now)) c.in-Err.fault c.in-Err.ensures.fault

-- the line is refused
pub returns-in-Err-take_line-clause-sends : goal.returns-in-Err-take_line-clause-sends
returns-in-Err-take_line-clause-sends g c = reached_refused _ _ _ _ _ _ _ c.loop-number.invariant.reached _ _

pub returns-in-Err-take_line-clause-refused : goal.returns-in-Err-take_line-clause-refused
returns-in-Err-take_line-clause-refused g c =
    reached_untaken _ _ _ _ _ _ _ c.loop-number.invariant.reached _ _ _ _ _ c.clear.ensures.items c.as_slice.ensures.value c.in-Ok-true.field-0-test c.in-Ok-true.ensures.line _
    c.in-Err-take_line.ensures.refused

-- the reader of the replies went away
pub returns-in-Ok-write_made-clause-sends : goal.returns-in-Ok-write_made-clause-sends
returns-in-Ok-write_made-clause-sends g c =
    let bound : c.loop-number.number < 2 ^ 64 = omega (arith, c.loop-number-test.true) in
    let more = reached_more _ _ _ _ _ _ _ _ _ _ _ _ _ c.loop-number.invariant.reached bound c.clear.ensures.items c.as_slice.ensures.value c.in-Ok-true.ensures.line c.in-Ok.ensures.taken in
    reached_gone _ _ _ _ _ _ _ more (sym c.is_live-is_live.ensures ∙ c.if-is_live.true) _ _ _ c.in-Ok-write_made.status-test.1 c.in-Ok-write_made.ensures.sent

-- what is made is not written
pub returns-in-Err-write_made-clause-sends : goal.returns-in-Err-write_made-clause-sends
returns-in-Err-write_made-clause-sends g c =
    let bound : c.loop-number.number < 2 ^ 64 = omega (arith, c.loop-number-test.true) in
    let more = reached_more _ _ _ _ _ _ _ _ _ _ _ _ _ c.loop-number.invariant.reached bound c.clear.ensures.items c.as_slice.ensures.value c.in-Ok-true.ensures.line c.in-Ok.ensures.taken in
    reached_failed _ _ _ _ _ _ _ more (sym c.is_live-is_live.ensures ∙ c.if-is_live.true) _ _ _ c.in-Err-write_made.ensures.sent

pub returns-in-Err-write_made-clause-refused : goal.returns-in-Err-write_made-clause-refused
returns-in-Err-write_made-clause-refused g c = inr (inr (inr (inr c.in-Err-write_made.ensures.refused)))

pub loop-number-preserved : goal.loop-number-preserved
loop-number-preserved g c =
    let bound : c.loop-number.number < 2 ^ 64 = omega (arith, c.loop-number-test.true) in
    let more = reached_more _ _ _ _ _ _ _ _ _ _ _ _ _ c.loop-number.invariant.reached bound c.clear.ensures.items c.as_slice.ensures.value c.in-Ok-true.ensures.line c.in-Ok.ensures.taken in
    let trace = c.args.job.now.trace.now in
    let known = left_of g.R.Read.remaining c.args.lines.now in
    let next = left_of g.R.Read.remaining c.read_into.new.self in
    let old = g.W.Write.contents c.args.writer.now in
    let contents = g.W.Write.contents in
    elim c.if-is_live.branch [
      | then-is_live+in-Ok-eq0 w ↦ record {
        live = c.is_live-is_live.ensures;
        reached = subst (λ x. Reached trace known next old (contents x) c.if-is_live.state (c.loop-number.number + 1)) (sym w.writer-is)
            (subst (λ x. Reached trace known next old (contents w.write_made.new.writer) x (c.loop-number.number + 1)) (sym w.state-is)
            (reached_written _ _ _ _ _ _ _ more (sym c.is_live-is_live.ensures ∙ w.if-is_live.true) _ _ _ w.in-Ok-eq0.field-0-test w.write_made.ensures.session w.in-Ok-eq0.ensures.done w.in-Ok-eq0.ensures.sent));
      }
      | else-is_live w ↦ record {
        live = c.is_live-is_live.ensures;
        reached = subst (λ x. Reached trace known next old (contents x) c.if-is_live.state (c.loop-number.number + 1)) (sym w.writer-is)
            (subst (λ x. Reached trace known next old (contents c.loop-number.writer) x (c.loop-number.number + 1)) (sym w.state-is) more);
      }
    ]

pub returns-clause-sends : goal.returns-clause-sends
returns-clause-sends g c = reached_refused _ _ _ _ _ _ _ c.loop-number.invariant.reached _ _

pub returns-clause-refused : goal.returns-clause-refused
returns-clause-refused g c = inl refl
