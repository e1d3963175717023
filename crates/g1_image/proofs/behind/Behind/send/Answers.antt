use Rattle.std.proofs.Common.{◌≡◌, sym, [], ◌++◌, ap, refl, ◌∙◌, arith}
use Rattle.std.proofs.lemmas.List.{take-append-drop}
use Rattle.std.proofs.lemmas.Grind.{flat_map-append}
use Rattle.std.proofs.lemmas.Result.{err_from_is_err_and}
use Rattle.g1_image.specs.Text.{u64, words_text}
use Rattle.g1_image.proofs.Sent.{sent_waits, sent_more, sending_none, sending_more, sending_fails}
use Rattle.g1_image.proofs.behind.Behind.send.Goals as goal

pub loop-rest-init : goal.loop-rest-init
loop-rest-init g c = record { part = sending_none _ _ _; mark = refl }

pub returns-in_err-make_room-clause-mark : goal.returns-in_err-make_room-clause-mark
returns-in_err-make_room-clause-mark g c =
    let same = err_from_is_err_and c.from_residual.result c.from_residual.ensures.1 in
    rw same.1 c.in_err-make_room.ensures.mark

pub returns-in_err-make_room-clause-err : goal.returns-in_err-make_room-clause-err
returns-in_err-make_room-clause-err g c =
    let same = err_from_is_err_and c.from_residual.result c.from_residual.ensures.1 in
    rw (same.1, same.2) (sending_fails _ _ _ _ _ (words_text c.args.words.now) (words_text c.loop-rest.rest.now) [] (words_text c.loop-rest.rest.now)
    _ c.loop-rest.invariant.part refl c.in_err-make_room.ensures.err)

pub loop-rest-preserved : goal.loop-rest-preserved
loop-rest-preserved g c =
    let front = c.split_at.result.0.now in
    let after = c.split_at.result.1.now in
    let whole : c.loop-rest.rest.now ≡ front ++ after = sym (take-append-drop c.min-count.result c.loop-rest.rest.now) ∙ sym (λ t. c.split_at.ensures.front t ++ c.split_at.ensures.back t) in
    let parts : words_text c.loop-rest.rest.now ≡ words_text front ++ words_text after = ap (λ l. words_text l) whole ∙ flat_map-append u64 front after in
    record {
      part = sending_more _ _ _ _ _ _ (words_text c.args.words.now) _ (words_text front) (words_text after) c.loop-rest.invariant.part parts
          (sent_more _ _ _ _ _ _ _ _ c.in_ok-make_room.ensures.ok (sent_waits _ _ (words_text front) _ c.put.ensures));
      mark = c.in_ok-make_room.ensures.mark ∙ c.loop-rest.invariant.mark;
    }

pub split_at-requires : goal.split_at-requires
split_at-requires g c = omega (arith, c.min-count.ensures)

pub put-requires : goal.put-requires
put-requires g c = omega (arith, c.min-count.ensures, c.split_at.ensures.front_len, c.in_ok-make_room.ensures.room)
