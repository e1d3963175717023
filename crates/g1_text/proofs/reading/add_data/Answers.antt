use Rattle.std.proofs.Common.{◌≡◌, ◌+◌, ◌<◌, [], ◌∷◌, ◌++◌, length, get_or, drop, take, append-nil, append_assoc, sym, ◌∙◌, ap, subst, arith}
use Rattle.std.proofs.lemmas.List.{take_more, take_all}
use Rattle.g1_text.proofs.Results.{ok_one, not_both}
use Rattle.std.proofs.lemmas.Slice.Zip.{AllZip-long}
use Rattle.g1_text.proofs.Pushing.{zip_at}
use Rattle.g1_text.proofs.Spelled.{next_word, no_word}
use Rattle.g1_text.specs.Forms.{IsDataWord, StandsFor, HasValues}
use Rattle.g1_text.proofs.Fronts.{none_read, one_more_read, many_read, no_values, one_more_value}
use Rattle.g1_text.proofs.reading.add_data.Goals as goal

pub returns-in_err-word-clause-full : goal.returns-in_err-word-clause-full
returns-in_err-word-clause-full c = λ xs front rest count all e.
    let i = c.loop.counter in
    let kept = c.loop.invariant.0 xs front rest count all e in
    let lt : i < length xs = omega (arith, count, c.loop-test.true) in
    let there : i < length front = let l = AllZip-long StandsFor xs front all in omega (arith, l, lt) in
    absurd (not_both c.in_err-word.was (c.value.ensures.full (get_or xs i 0) (get_or front i []) (drop (i + 1) front ++ rest) (zip_at StandsFor xs front i 0 [] all lt) (kept.0 ∙ next_word front rest i there)).0)

pub loop-preserved : goal.loop-preserved
loop-preserved c = (
  (λ xs front rest count all e.
      let i = c.loop.counter in
      let kept = c.loop.invariant.0 xs front rest count all e in
      let lt : i < length xs = omega (arith, count, c.loop-test.true) in
      let there : i < length front = let l = AllZip-long StandsFor xs front all in omega (arith, l, lt) in
      let read = c.value.ensures.full (get_or xs i 0) (get_or front i []) (drop (i + 1) front ++ rest) (zip_at StandsFor xs front i 0 [] all lt) (kept.0 ∙ next_word front rest i there) in
      let same = ok_one c.in_ok-word.was read.0 in (
        read.1,
        c.in_ok-push.ensures.items ∙ ap (λ ys. ys ++ c.in_ok-word.word ∷ []) kept.1 ∙ append_assoc c.args.content.now.items (take i xs) (c.in_ok-word.word ∷ [])
            ∙ ap (λ ys. c.args.content.now.items ++ ys) (ap (λ x. take i xs ++ x ∷ []) same ∙ sym (take_more xs i 0 lt)),
      )),
  one_more_read IsDataWord c.loop.counter c.loop.invariant.1 (c.in_ok-word.ensures.form.0, c.in_ok-word.ensures.form.1, (c.in_ok-word.word, c.in_ok-word.ensures.form.2)),
  omega (arith, c.loop-test.true),
  (
    c.loop.invariant.3.0 ++ c.in_ok-word.word ∷ [],
    one_more_value c.loop.counter c.in_ok-word.word c.loop.invariant.3.0 c.loop.invariant.3.1 c.in_ok-word.ensures.form,
    c.in_ok-push.ensures.items ∙ ap (λ ys. ys ++ c.in_ok-word.word ∷ []) c.loop.invariant.3.2 ∙ append_assoc c.args.content.now.items c.loop.invariant.3.0 (c.in_ok-word.word ∷ []),
  ),
)

pub returns-clause-full : goal.returns-clause-full
returns-clause-full c = λ xs front rest count all e.
    let i = c.loop.counter in
    let kept = c.loop.invariant.0 xs front rest count all e in (
      kept.0 ∙ no_word front rest i (let l = AllZip-long StandsFor xs front all in omega (arith, l, count, c.loop-test.false)),
      kept.1 ∙ ap (λ ys. c.args.content.now.items ++ ys) (take_all i xs (omega (arith, count, c.loop-test.false))),
    )

pub loop-init : goal.loop-init
loop-init c = ((λ xs front rest count all e. (e, sym (append-nil c.args.content.now.items))), none_read IsDataWord c.args.words.now, omega arith, ([], no_values c.args.words.now, sym (append-nil c.args.content.now.items)))

pub returns-clause-form : goal.returns-clause-form
returns-clause-form c = many_read IsDataWord c.loop.counter c.args.count (omega (arith, c.loop.invariant.2, c.loop-test.false)) c.loop.invariant.1

pub returns-clause-stands : goal.returns-clause-stands
returns-clause-stands c =
    let all : c.loop.counter ≡ c.args.count = omega (arith, c.loop.invariant.2, c.loop-test.false) in
    let read = c.loop.invariant.3 in
    (read.0, subst (λ n. HasValues n read.0 c.args.words.now c.loop.words) all read.1, read.2)
