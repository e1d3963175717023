use Rattle.std.proofs.Common.{length, refl, sym, ap, ◌∙◌, arith, length-take-le}
use Rattle.std.proofs.lemmas.List.{drop_all}
use Rattle.std.proofs.lemmas.Result.{err_from_is_err_and}
use Rattle.g1_words.specs.Heap.{free_region}
use Rattle.g1_image.specs.Text.{words_text}
use Rattle.g1_image.specs.Image.{used_words}
use Rattle.g1_image.specs.Sink.{unsent}
use Rattle.std.proofs.Math.Nat.{add-mul}
use Rattle.g1_image.proofs.Used.{used_next}
use Rattle.g1_image.proofs.Reached.{take_least, drop_least, region_left}
use Rattle.g1_image.proofs.Sent.{sending_none, sending_all, sending_more, sending_fails}
use Rattle.g1_image.proofs.encoding.send_used.Goals as goal

pub loop-r-init : goal.loop-r-init
loop-r-init g c =
    record {
      part = sending_none (g.S.Sink.written c.args.sink.now) (unsent c.args.behind.now) (words_text (used_words c.args.width c.args.regions.now c.args.words.now));
      mark = refl;
      rows = omega arith;
    }

pub returns-in_err-send-clause-err : goal.returns-in_err-send-clause-err
returns-in_err-send-clause-err g c =
    let i = c.loop-r.r-index in
    let same = err_from_is_err_and c.from_residual.result c.from_residual.ensures.1 in
    rw (same.1, same.2) (sending_fails _ _ _ _ _ _ _ _ _ _ c.loop-r.invariant.part
    (used_next c.args.width i c.args.regions.now free_region c.split_at.result.1.now c.split_at.result.0.now c.loop-r.rest.now (omega arith)
    (c.requires.tops i free_region (omega arith)) (c.split_at.ensures.front ∙ take_least c.min.result c.args.width c.loop-r.rest.now c.min.ensures) (c.split_at.ensures.back ∙ drop_least c.min.result c.args.width c.loop-r.rest.now c.min.ensures))
    c.in_err-send.ensures.err)

pub returns-in_err-send-clause-mark : goal.returns-in_err-send-clause-mark
returns-in_err-send-clause-mark g c =
    let same = err_from_is_err_and c.from_residual.result c.from_residual.ensures.1 in
    rw same.1 c.in_err-send.ensures.mark

pub returns-clause-ok : goal.returns-clause-ok
returns-clause-ok g c =
    sending_all _ _ _ _ _ _ c.loop-r.invariant.part (ap (λ l. words_text (used_words c.args.width l c.loop-r.rest.now)) (drop_all c.loop-r.r-index c.args.regions.now c.loop-r-test.false))

pub loop-r-preserved : goal.loop-r-preserved
loop-r-preserved g c =
    let i = c.loop-r.r-index in
    record {
      part = sending_more _ _ _ _ _ _ _ _ _ _ c.loop-r.invariant.part
          (used_next c.args.width i c.args.regions.now free_region c.split_at.result.1.now c.split_at.result.0.now c.loop-r.rest.now (omega arith)
          (c.requires.tops i free_region (omega arith)) (c.split_at.ensures.front ∙ take_least c.min.result c.args.width c.loop-r.rest.now c.min.ensures) (c.split_at.ensures.back ∙ drop_least c.min.result c.args.width c.loop-r.rest.now c.min.ensures))
          c.in_ok-send.ensures.ok;
      mark = c.in_ok-send.ensures.mark ∙ c.loop-r.invariant.mark;
      rows = omega (arith, c.split_at.ensures.back_len, c.loop-r.invariant.rows, c.min.ensures, add-mul i 1 c.args.width);
    }

pub loop-r-smaller : goal.loop-r-smaller
loop-r-smaller g c = omega (arith, c.loop-r-test.true)

pub slice_bounds-send-end : goal.slice_bounds-send-end
slice_bounds-send-end g c =
    let i = c.loop-r.r-index in
    let fits = region_left c.args.width i (length c.loop-r.rest.now) (length c.args.words.now) c.args.regions.now c.requires.laid (omega (arith, c.loop-r-test.true))
    (c.requires.tops i free_region (omega (arith, c.loop-r-test.true))) c.loop-r.invariant.rows in
    sym (length-take-le _ c.split_at.result.0.now (omega (arith, fits, c.requires.tops i free_region (omega (arith, c.loop-r-test.true)), c.split_at.ensures.front_len, c.min.ensures)))
