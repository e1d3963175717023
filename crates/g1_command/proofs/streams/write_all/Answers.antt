use Rattle.std.proofs.Common.{◌≤◌, ◌-◌, length, drop, arith, length-take-le, length-drop}
use Rattle.g1_command.proofs.streams.write_all.Goals as goal
use Rattle.g1_words.proofs.Written.{appends_part}

pub loop-at-preserved : goal.loop-at-preserved
loop-at-preserved g c =
    let n = c.in-Ok.count in let xs = c.args.bytes.now in let at = c.loop-at.at in
    let le : n ≤ length xs - at = omega (arith, c.in-Ok.ensures.bound, length-take-le (length xs - at) (drop at xs) (omega (arith, length-drop at xs))) in
    record {
      part = omega arith;
      bytes = appends_part _ _ _ xs at n le c.loop-at.invariant.bytes c.in-Ok.ensures.bytes;
    }
