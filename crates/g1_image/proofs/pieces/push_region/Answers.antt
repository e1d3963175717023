use Rattle.std.proofs.Common.{◌≡◌, ◌≤◌, ◌*◌, ◌+◌, ◌-◌, ◌∙◌, [], ◌++◌, length, min, arith, sym, ap, length-append}
use Rattle.std.proofs.lemmas.Result.{err_from_is_err_and}
use Rattle.g1_image.specs.Text.{words_of}
use Rattle.g1_image.specs.Ahead.{region_words}
use Rattle.g1_image.specs.Growing.{laid_words}
use Rattle.g1_image.proofs.Taken.{takes_none, takes_more, fails_after}
use Rattle.g1_image.proofs.Laid.{region_laid, none_laid}
use Rattle.g1_image.proofs.Words.{length-words_of}
use Rattle.g1_image.proofs.pieces.push_region.Goals as goal

pub returns-then-top-eq0-clause-ok : goal.returns-then-top-eq0-clause-ok
returns-then-top-eq0-clause-ok g c =
    let laid = c.args.laid.now in
    let none : c.args.top ≡ 0 = c.if-top-eq0.true in
    ([], takes_none _ _, omega (arith, none), none_laid laid.words.items laid.zeros c.args.w ∙ ap (λ t. laid_words laid ++ region_words c.args.w t []) (sym none))

pub returns-clause-ok : goal.returns-clause-ok
returns-clause-ok g c =
    let w = c.args.w in
    let top = c.args.top in
    let used = c.min-used.result in
    let is : used ≡ min top w = c.min-used.ensures in
    let gap = c.in_ok-push_gap.ensures in
    let first = c.in_ok-push_next.ensures.ok in
    let second = c.in_ok-skip_words.ensures.ok in (
      first.0 ++ second.0,
      takes_more _ _ _ _ _ _ [] (first.0 ++ second.0) gap.none (takes_more _ _ _ _ _ _ first.0 second.0 first.1 second.1),
      omega (arith, length-append first.0 second.0, first.2, second.2, is),
      region_laid w top used (laid_words c.args.laid.now) c.push_next.new.out.items first.0 second.0 is first.2 (first.3 ∙ ap (λ x. x ++ words_of used first.0) gap.words),
    )

pub returns-then-top-eq0-clause-known : goal.returns-then-top-eq0-clause-known
returns-then-top-eq0-clause-known g c = c.requires.known

pub push_gap-requires-clause-known : goal.push_gap-requires-clause-known
push_gap-requires-clause-known g c = c.requires.known

pub push_gap-requires-clause-small : goal.push_gap-requires-clause-small
push_gap-requires-clause-small g c = omega (arith, c.words_wanted.ensures, c.requires.small)

pub returns-in_err-push_gap-clause-known : goal.returns-in_err-push_gap-clause-known
returns-in_err-push_gap-clause-known g c = c.push_gap.ensures.known

pub returns-in_err-push_gap-clause-err : goal.returns-in_err-push_gap-clause-err
returns-in_err-push_gap-clause-err g c =
    let left = err_from_is_err_and c.from_residual.result c.from_residual.ensures.1 in
    rw (left.1, left.2) (fails_after _ _ _ _ _ [] (8 * c.words_wanted.result) (8 * c.args.words.left) c.in_err-push_gap.field-0.0 (takes_none _ _) c.in_err-push_gap.ensures.err (omega (arith, c.words_wanted.ensures)))

pub returns-in_err-push_next-clause-known : goal.returns-in_err-push_next-clause-known
returns-in_err-push_next-clause-known g c = c.push_next.ensures.known

pub returns-in_err-push_next-clause-err : goal.returns-in_err-push_next-clause-err
returns-in_err-push_next-clause-err g c =
    let used = c.min-used.result in
    let most : 8 * used ≤ 8 * c.args.words.left = omega (arith, c.min-used.ensures, c.requires.there) in
    let left = err_from_is_err_and c.from_residual-in_err-push_next.result c.from_residual-in_err-push_next.ensures.1 in
    rw (left.1, left.2) (fails_after _ _ _ _ _ [] (8 * used) (8 * c.args.words.left) c.in_err-push_next.field-0.0 c.in_ok-push_gap.ensures.none c.in_err-push_next.ensures.err (omega (arith, most)))

pub returns-in_err-skip_words-clause-known : goal.returns-in_err-skip_words-clause-known
returns-in_err-skip_words-clause-known g c = c.skip_words.ensures.known

pub returns-in_err-skip_words-clause-err : goal.returns-in_err-skip_words-clause-err
returns-in_err-skip_words-clause-err g c =
    let used = c.min-used.result in
    let first = c.in_ok-push_next.ensures.ok in
    let most : length first.0 + 8 * (c.args.top - used) ≤ 8 * c.args.words.left = omega (arith, c.min-used.ensures, first.2, c.requires.there) in
    let left = err_from_is_err_and c.from_residual-in_err-skip_words.result c.from_residual-in_err-skip_words.ensures.1 in
    rw (left.1, left.2) (fails_after _ _ _ _ _ first.0 (8 * (c.args.top - used)) (8 * c.args.words.left) c.in_err-skip_words.field-0.0
    (takes_more _ _ _ _ _ _ [] first.0 c.in_ok-push_gap.ensures.none first.1) c.in_err-skip_words.ensures.err most)

pub returns-clause-known : goal.returns-clause-known
returns-clause-known g c = c.skip_words.ensures.known

pub returns-clause-zeros : goal.returns-clause-zeros
returns-clause-zeros g c = omega arith

pub returns-clause-used : goal.returns-clause-used
returns-clause-used g c = λ i small few.
    let used = c.min-used.result in
    let first = c.in_ok-push_next.ensures.ok in
    let grown : length c.push_next.new.out.items ≡ length (laid_words c.args.laid.now) + used =
    ap length (first.3 ∙ ap (λ x. x ++ words_of used first.0) c.in_ok-push_gap.ensures.words) ∙ length-append (laid_words c.args.laid.now) (words_of used first.0)
    ∙ ap (λ k. length (laid_words c.args.laid.now) + k) (length-words_of used first.0) in
    omega (arith, grown, c.min-used.ensures, small, few)
