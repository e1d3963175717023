use Rattle.std.proofs.Common.{subst, ◌<◌, ◌≤◌, ◌-◌, length, drop, arith, ◌∙◌, length-take-le, length-drop}
use Rattle.std.proofs.lemmas.List.{take_all}
use Rattle.std.proofs.lemmas.Result.{err_from_is_err_and}
use Rattle.std.specs.Io.KnownBytes.{Appends}
use Rattle.g1_image.proofs.sink.write_all.Goals as goal
use Rattle.g1_words.proofs.Written.{appends_part}

pub loop-at-preserved : goal.loop-at-preserved
loop-at-preserved g c =
    let n = c.in_ok-at.field-0 in let xs = c.args.bytes.now in let at = c.loop-at.at in
    let le : n ≤ length xs - at = omega (arith, c.in_ok-at.ensures.bound.0, length-take-le (length xs - at) (drop at xs) (omega (arith, length-drop at xs))) in
    record {
      part = omega arith;
      bytes = appends_part _ _ _ xs at n le c.loop-at.invariant.bytes c.in_ok-at.ensures.bytes;
      mark = c.in_ok-at.ensures.mark ∙ c.loop-at.invariant.mark;
    }

pub loop-at-smaller : goal.loop-at-smaller
loop-at-smaller g c =
    let xs = c.args.bytes.now in
    let some : 0 < c.in_ok-at.field-0 = c.in_ok-at.ensures.bound.1 (omega (arith, c.loop-at-test.true, length-drop c.loop-at.at xs)) in
    omega (arith, c.loop-at-test.true, some)

pub returns-clause-ok : goal.returns-clause-ok
returns-clause-ok g c =
    subst (λ l. Appends (g.S.Sink.written c.args.sink.now) (g.S.Sink.written c.loop-at.sink) l) (take_all c.loop-at.at c.args.bytes.now c.loop-at-test.false) c.loop-at.invariant.bytes

pub returns-clause-mark : goal.returns-clause-mark
returns-clause-mark g c = c.loop-at.invariant.mark

pub returns-in_err-at-clause-mark : goal.returns-in_err-at-clause-mark
returns-in_err-at-clause-mark g c =
    let same = err_from_is_err_and c.from_residual.result c.from_residual.ensures.1 in
    rw same.1 c.in_err-at.ensures.mark
