use Rattle.std.proofs.Common.{◌+◌, ◌<◌, [], ◌∷◌, ◌++◌, length, get_or, drop, take, append-nil, append_assoc, sym, ◌∙◌, ap, arith}
use Rattle.std.proofs.lemmas.List.{take_more, take_all}
use Rattle.g1_text.proofs.Results.{ok_one, not_both}
use Rattle.std.proofs.lemmas.Slice.Zip.{AllZip-long}
use Rattle.g1_text.proofs.Pushing.{zip_at}
use Rattle.g1_text.proofs.Spelled.{next_word, no_word}
use Rattle.g1_text.specs.Forms.{IsReferenceWord, Denotes}
use Rattle.g1_text.proofs.Fronts.{none_read, one_more_read, many_read}
use Rattle.g1_text.proofs.reading.add_references.Goals as goal

pub returns-in_err-reference-clause-full : goal.returns-in_err-reference-clause-full
returns-in_err-reference-clause-full c = λ xs front rest count all e.
    let i = c.loop.counter in
    let kept = c.loop.invariant.0 xs front rest count all e in
    let lt : i < length xs = omega (arith, count, c.loop-test.true) in
    let there : i < length front = let l = AllZip-long Denotes xs front all in omega (arith, l, lt) in
    absurd (not_both c.in_err-reference.was (c.reference.ensures.full (get_or xs i 0) (get_or front i []) (drop (i + 1) front ++ rest) (zip_at Denotes xs front i 0 [] all lt) (kept.0 ∙ next_word front rest i there)).0)

pub loop-preserved : goal.loop-preserved
loop-preserved c = (
  (λ xs front rest count all e.
      let i = c.loop.counter in
      let kept = c.loop.invariant.0 xs front rest count all e in
      let lt : i < length xs = omega (arith, count, c.loop-test.true) in
      let there : i < length front = let l = AllZip-long Denotes xs front all in omega (arith, l, lt) in
      let read = c.reference.ensures.full (get_or xs i 0) (get_or front i []) (drop (i + 1) front ++ rest) (zip_at Denotes xs front i 0 [] all lt) (kept.0 ∙ next_word front rest i there) in
      let same = ok_one c.in_ok-reference.was read.0 in (
        read.1,
        c.in_ok-push.ensures.items ∙ ap (λ ys. ys ++ c.in_ok-reference.reference ∷ []) kept.1 ∙ append_assoc c.args.content.now.items (take i xs) (c.in_ok-reference.reference ∷ [])
            ∙ ap (λ ys. c.args.content.now.items ++ ys) (ap (λ x. take i xs ++ x ∷ []) same ∙ sym (take_more xs i 0 lt)),
      )),
  one_more_read IsReferenceWord c.loop.counter c.loop.invariant.1 (c.in_ok-reference.ensures.digits.0, c.in_ok-reference.ensures.digits.1, (c.in_ok-reference.reference, c.in_ok-reference.ensures.digits.2)),
  omega (arith, c.loop-test.true),
)

pub returns-clause-full : goal.returns-clause-full
returns-clause-full c = λ xs front rest count all e.
    let i = c.loop.counter in
    let kept = c.loop.invariant.0 xs front rest count all e in (
      kept.0 ∙ no_word front rest i (let l = AllZip-long Denotes xs front all in omega (arith, l, count, c.loop-test.false)),
      kept.1 ∙ ap (λ ys. c.args.content.now.items ++ ys) (take_all i xs (omega (arith, count, c.loop-test.false))),
    )

pub loop-init : goal.loop-init
loop-init c = ((λ xs front rest count all e. (e, sym (append-nil c.args.content.now.items))), none_read IsReferenceWord c.args.words.now, omega arith)

pub returns-clause-form : goal.returns-clause-form
returns-clause-form c = many_read IsReferenceWord c.loop.counter c.args.count (omega (arith, c.loop.invariant.2, c.loop-test.false)) c.loop.invariant.1
