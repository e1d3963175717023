use Rattle.std.proofs.Common.{◌≡◌, inl, inr, refl, ◌∙◌, true, false, below_more, arith}
use Rattle.std.proofs.lemmas.List.{take_all}
use Rattle.std.proofs.lemmas.Result.{err_from_is_err_and}
use Rattle.g1_image.proofs.Logs.{was_there, is_fresh, put}
use Rattle.g1_image.proofs.cards.put_log.Goals as goal

pub loop-i-init : goal.loop-i-init
loop-i-init c = (c.requires.none, λ q lt. absurd (omega arith))

pub returns-then-not-is_used-clause-err : goal.returns-then-not-is_used-clause-err
returns-then-not-is_used-clause-err c =
    inr (c.loop-i.i, refl, record { within = c.loop-i-test.true; breach = λ g. let clash : false ≡ true = c.if-not-is_used.ensures.1 g.0 in cc; before = c.loop-i.invariant.1 })

pub returns-in_err-added-clause-err : goal.returns-in_err-added-clause-err
returns-in_err-added-clause-err c =
    let left = err_from_is_err_and c.from_residual.result c.from_residual.ensures.1 in
    rw (left.1, left.2) (inl refl)

pub returns-then-not-added-clause-err : goal.returns-then-not-added-clause-err
returns-then-not-added-clause-err c =
    let w = was_there c.args.log.now c.loop-i.cards.keys c.loop-i.i c.in_ok-added.added c.loop-i-test.true c.loop-i.invariant.0 c.in_ok-added.ensures.added c.if-not-added.true in
    inr (c.loop-i.i, refl, record { within = c.loop-i-test.true; breach = λ g. g.1 w.0 w.1 w.2; before = c.loop-i.invariant.1 })

pub loop-i-preserved : goal.loop-i-preserved
loop-i-preserved c = (
  put c.args.log.now c.loop-i.cards.keys c.loop-i.i c.in_ok-added.added c.loop-i-test.true c.loop-i.invariant.0 c.in_ok-added.ensures.added
      c.if-not-added.false c.insert.new.self.keys c.in_ok-added.ensures.keys,
  below_more _ _ c.loop-i.invariant.1 (
    c.if-not-is_used.ensures.0 refl,
    is_fresh c.args.log.now c.loop-i.cards.keys c.loop-i.i c.in_ok-added.added c.loop-i-test.true
        c.loop-i.invariant.0 c.in_ok-added.ensures.added c.if-not-added.false,
  ),
)

pub loop-i-smaller : goal.loop-i-smaller
loop-i-smaller c = omega (arith, c.loop-i-test.true)

pub returns-clause-ok : goal.returns-clause-ok
returns-clause-ok c = (c.loop-i.invariant.0 ∙ take_all c.loop-i.i c.args.log.now c.loop-i-test.false, λ i lt. c.loop-i.invariant.1 i (omega (arith, c.loop-i-test.false)))
