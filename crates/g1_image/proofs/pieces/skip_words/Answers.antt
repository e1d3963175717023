use Rattle.std.proofs.Common.{arith}
use Rattle.std.proofs.lemmas.Result.{err_from_is_err_and}
use Rattle.g1_image.specs.Ahead.{waiting}
use Rattle.g1_image.proofs.Laid.{skipped_none, skipped_more, skipped_all, skipped_fails}
use Rattle.g1_image.proofs.pieces.skip_words.Goals as goal

pub loop-left-init : goal.loop-left-init
loop-left-init g c = record { known = c.requires.known; part = skipped_none _ _ c.args.count }

pub returns-in_err-here-clause-err : goal.returns-in_err-here-clause-err
returns-in_err-here-clause-err g c =
    let left = err_from_is_err_and c.from_residual.result c.from_residual.ensures.1 in
    rw (left.1, left.2) (skipped_fails _ _ _ _ _ c.args.count c.loop-left.left c.in_err-here.field-0.0 c.loop-left.invariant.part c.loop-left-test.true c.in_err-here.ensures.err)

pub returns-clause-ok : goal.returns-clause-ok
returns-clause-ok g c = skipped_all _ _ _ _ c.args.count c.loop-left.left c.loop-left.invariant.part c.loop-left-test.false

pub loop-left-preserved : goal.loop-left-preserved
loop-left-preserved g c =
    let count = c.in_ok-here.ensures.count in
    let now = c.words_ahead.new.ahead in
    record {
      known = c.pass.ensures.end _ c.words_ahead.ensures.known;
      part = skipped_more _ _ _ _ _ (g.S.Source.left c.words_ahead.new.source) c.args.count c.loop-left.left c.in_ok-here.here (waiting now)
          (waiting c.pass.new.self) c.loop-left.invariant.part c.in_ok-here.ensures.mark c.in_ok-here.ensures.kept
          c.in_ok-here.ensures.are_bytes count.1 count.2 c.pass.ensures.left;
    }

pub words_ahead-requires-clause-some : goal.words_ahead-requires-clause-some
words_ahead-requires-clause-some g c = c.loop-left-test.true

pub words_ahead-requires-clause-known : goal.words_ahead-requires-clause-known
words_ahead-requires-clause-known g c = c.loop-left.invariant.known

pub returns-in_err-here-clause-known : goal.returns-in_err-here-clause-known
returns-in_err-here-clause-known g c = c.words_ahead.ensures.known

pub returns-clause-known : goal.returns-clause-known
returns-clause-known g c = c.loop-left.invariant.known

pub pass-requires : goal.pass-requires
pass-requires g c = c.in_ok-here.ensures.count.2

pub loop-left-smaller : goal.loop-left-smaller
loop-left-smaller g c = omega (arith, c.in_ok-here.ensures.count.0, c.in_ok-here.ensures.count.1)

pub overflow_sub-left : goal.overflow_sub-left
overflow_sub-left g c = c.in_ok-here.ensures.count.1
