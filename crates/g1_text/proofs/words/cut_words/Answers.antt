use Rattle.std.proofs.Common.{◌<◌, ◌++◌, length, map, Bor, List, ℕ, ap, ◌∙◌, arith}
use Rattle.std.proofs.lemmas.Str.{IsCharBoundary-from_drop}
use Rattle.g1_text.specs.Reading.{words_in}
use Rattle.g1_text.proofs.WordEnds.{IsWordEnd, found, end_boundary, next_boundary, word_more, word_less}
use Rattle.g1_text.proofs.words.cut_words.Goals.{then-at-end+in_ok-push, else-at-end}
use Rattle.g1_text.proofs.words.cut_words.Goals as goal

pub loop-at-init : goal.loop-at-init
loop-at-init c =
    let line = c.args.line.now in
    (ap (λ (ws : List (Bor (List ℕ))). map (λ t. t.now) ws ++ words_in line) c.clear.ensures.items, λ le. IsCharBoundary-from_drop line 0 le c.utf8.line)

pub range-requires-clause-end_boundary : goal.range-requires-clause-end_boundary
range-requires-clause-end_boundary c =
    let line = c.args.line.now in
    end_boundary line c.loop-at.at c.word_end-end.result
    (found line c.as_bytes-bytes.result.now c.loop-at.at c.word_end-end.result c.as_bytes-bytes.ensures.value c.loop-at-test.true c.word_end-end.ensures)

pub loop-at-preserved : goal.loop-at-preserved
loop-at-preserved c =
    let line = c.args.line.now in
    let at = c.loop-at.at in
    let end = c.word_end-end.result in
    let words = c.loop-at.words.items in
    let same = c.as_bytes-bytes.ensures.value in
    let stop : IsWordEnd line at end = found line c.as_bytes-bytes.result.now at end same c.loop-at-test.true c.word_end-end.ensures in
    let some : at < length line = omega (arith, c.loop-at-test.true, ap length same) in (
      elim c.if-at-end.branch [
        | then-at-end+in_ok-push w ↦
            word_more line at end stop words c.loop-at.invariant.0 c.if-at-end.words.items w.range.result w.if-at-end.true w.range.ensures.value (ap (λ v. v.items) w.words-is ∙ w.in_ok-push.ensures.items)
        | else-at-end w ↦ word_less line at end stop words c.loop-at.invariant.0 c.if-at-end.words.items (omega (arith, w.if-at-end.false)) some (ap (λ v. v.items) w.words-is)
      ],
      λ le. next_boundary line at end stop c.utf8.line le,
    )
