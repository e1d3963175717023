use Rattle.std.proofs.Common.{refl, ◌∙◌, ap, subst, arith}
use Rattle.std.proofs.lemmas.Result.{err_from_is_err_and}
use Rattle.g1_words.specs.declared.region.Kind.TheVariants.{Continuation}
use Rattle.g1_text.specs.Content.{Content, with_region}
use Rattle.g1_text.specs.Drafts.{content, Becomes}
use Rattle.g1_text.proofs.Skipping.{more_left, none_left, goes_from}
use Rattle.g1_text.proofs.draft.Draft.continue_run_to.Goals as goal

pub loop-init : goal.loop-init
loop-init c = record { lines = refl; goes = λ on d e goes. (on, goes, omega (arith, c.len-counter.ensures, e)) }

pub returns-in_err-continue_next-clause-goes : goal.returns-in_err-continue_next-clause-goes
returns-in_err-continue_next-clause-goes c = λ on d e goes some.
    let k = c.loop.invariant.goes on d e goes in
    let m = more_left (content c.loop.self) d k.0 (omega (arith, k.2, c.loop-test.true)) k.1 in
    let left = err_from_is_err_and c.from_residual.result c.from_residual.ensures.1 in
    rw (left.1, left.2) (c.in_err-continue_next.ensures.says m.2)

pub loop-preserved : goal.loop-preserved
loop-preserved c = record {
  lines = c.in_ok-continue_next.ensures.lines ∙ c.loop.invariant.lines;
  goes = λ on d e goes.
      let k = c.loop.invariant.goes on d e goes in
      let m = more_left (content c.loop.self) d k.0 (omega (arith, k.2, c.loop-test.true)) k.1 in
      (m.0, goes_from d m.0 (c.in_ok-continue_next.ensures.says m.2) m.3, omega (arith, k.2, m.1));
}

pub returns-clause-goes : goal.returns-clause-goes
returns-clause-goes c = λ on d e goes some.
    let k = c.loop.invariant.goes on d e goes in
    let same = none_left k.0 (omega (arith, k.2, c.loop-test.false)) k.1 in
    let words = ap (λ (x : Content). x.beyond) same in
    subst (λ (x : Content). Becomes c.continue_next-2.result (content c.continue_next-2.new.self) (with_region x Continuation)) same (c.continue_next-2.ensures.says (omega (arith, words, some)))
