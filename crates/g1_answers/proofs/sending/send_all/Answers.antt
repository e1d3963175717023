use Rattle.std.proofs.Common.{◌<◌, ◌≤◌, ◌-◌, length, drop, arith, length-take-le, length-drop}
use Rattle.g1_answers.proofs.sending.send_all.Goals as goal
use Rattle.g1_words.proofs.Written.{appends_part}

pub loop-at-preserved : goal.loop-at-preserved
loop-at-preserved g c =
    let n = c.in-Ok.count in let xs = c.args.bytes.now in let at = c.loop-at.at in
    let le : n ≤ length xs - at = omega (arith, c.in-Ok.ensures.bound.0, length-take-le (length xs - at) (drop at xs) (omega (arith, length-drop at xs))) in
    record {
      part = omega arith;
      bytes = appends_part _ _ _ xs at n le c.loop-at.invariant.bytes c.in-Ok.ensures.bytes;
    }

pub loop-at-smaller : goal.loop-at-smaller
loop-at-smaller g c =
    let xs = c.args.bytes.now in
    let some : 0 < c.in-Ok.count = c.in-Ok.ensures.bound.1 (omega (arith, c.loop-at-test.true, length-drop c.loop-at.at xs)) in
    omega (arith, c.loop-at-test.true, some)
