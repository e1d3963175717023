use Rattle.std.proofs.Common.{arith, ◌≤◌, length, ap, ◌∙◌, ◌++◌}
use Rattle.std.proofs.Math.Nat.{min-le_left}
use Rattle.std.proofs.lemmas.Result.{err_from_is_err_and}
use Rattle.g1_image.specs.Text.{words_of}
use Rattle.g1_image.specs.Ahead.{waiting}
use Rattle.g1_image.proofs.Laid.{skipped_fails, pushed_none, pushed_more, pushed_all}
use Rattle.g1_image.proofs.pieces.push_next.Goals as goal

pub loop-left-init : goal.loop-left-init
loop-left-init g c = record { known = c.requires.known; part = pushed_none _ _ c.args.count c.args.out.now.items }

pub returns-in_err-here-clause-err : goal.returns-in_err-here-clause-err
returns-in_err-here-clause-err g c =
    let left = err_from_is_err_and c.from_residual.result c.from_residual.ensures.1 in
    rw (left.1, left.2) (skipped_fails _ _ _ _ _ c.args.count c.loop-left.left c.in_err-here.field-0.0 c.loop-left.invariant.part.skipped c.loop-left-test.true c.in_err-here.ensures.err)

pub returns-in_err-push_read-clause-err : goal.returns-in_err-push_read-clause-err
returns-in_err-push_read-clause-err g c =
    let left = err_from_is_err_and c.from_residual-in_err-push_read.result c.from_residual-in_err-push_read.ensures.1 in
    rw (left.1, left.2) (c.in_ok-here.ensures.mark ∙ c.loop-left.invariant.part.skipped.takes.mark)

pub returns-clause-ok : goal.returns-clause-ok
returns-clause-ok g c = pushed_all _ _ _ _ c.args.count c.loop-left.left c.args.out.now.items c.loop-left.out.items c.loop-left.invariant.part c.loop-left-test.false

pub loop-left-preserved : goal.loop-left-preserved
loop-left-preserved g c =
    let count = c.in_ok-here.ensures.count in
    let few : c.min.result ≤ c.loop-left.left = rw c.min.ensures (min-le_left c.loop-left.left 512) in
    let now = c.words_ahead.new.ahead in
    let here = c.in_ok-here.here in
    record {
      known = c.pass.ensures.end _ c.words_ahead.ensures.known;
      part = pushed_more _ _ _ _ _ (g.S.Source.left c.words_ahead.new.source) c.args.count c.loop-left.left here (waiting now)
          (waiting c.pass.new.self) c.args.out.now.items c.loop-left.out.items c.push_read.new.out.items
          c.loop-left.invariant.part c.in_ok-here.ensures.mark c.in_ok-here.ensures.kept
          c.in_ok-here.ensures.are_bytes (omega (arith, count.1, few)) count.2 c.pass.ensures.left (c.in_ok-push_read.ensures ∙ ap (λ b. c.loop-left.out.items ++ words_of here b) c.bytes.ensures.same);
    }

pub words_ahead-requires-clause-some : goal.words_ahead-requires-clause-some
words_ahead-requires-clause-some g c = omega (arith, c.min.ensures, c.loop-left-test.true)

pub words_ahead-requires-clause-known : goal.words_ahead-requires-clause-known
words_ahead-requires-clause-known g c = c.loop-left.invariant.known

pub returns-in_err-here-clause-known : goal.returns-in_err-here-clause-known
returns-in_err-here-clause-known g c = c.words_ahead.ensures.known

pub push_read-requires-clause-few : goal.push_read-requires-clause-few
push_read-requires-clause-few g c = omega (arith, c.in_ok-here.ensures.count.1, c.min.ensures)

pub push_read-requires-clause-there : goal.push_read-requires-clause-there
push_read-requires-clause-there g c = omega (arith, c.in_ok-here.ensures.count.2, ap length c.bytes.ensures.same)

pub returns-in_err-push_read-clause-known : goal.returns-in_err-push_read-clause-known
returns-in_err-push_read-clause-known g c = c.words_ahead.ensures.known

pub loop-left-smaller : goal.loop-left-smaller
loop-left-smaller g c = omega (arith, c.in_ok-here.ensures.count.0, c.in_ok-here.ensures.count.1, c.min.ensures)

pub returns-clause-known : goal.returns-clause-known
returns-clause-known g c = c.loop-left.invariant.known

pub pass-requires : goal.pass-requires
pass-requires g c = c.in_ok-here.ensures.count.2
