use Rattle.std.proofs.Common.{ap, arith}
use Rattle.g1_choose.specs.declared.candidate.Candidate.{Candidate}
use Rattle.g1_choose.proofs.Budget.{bought_by_walk}
use Rattle.g1_choose.proofs.buying.buy.Goals as goal

pub returns-then-total-from : goal.returns-then-total-from
returns-then-total-from c =
    let i = c.loop-candidate.candidate-index in
    let kept = c.loop-candidate.invariant in
    let cost = ap (λ (x : Candidate). x.cost) c.candidate-item.is in
    bought_by_walk c.args.parameters.now c.args.d c.args.budget i c.args.order.now c.candidate-item.result
    record { taken = c.loop-candidate.taken; total = c.loop-candidate.spent } (omega (arith, c.loop-candidate-test.true))
    kept.taken kept.counted kept.paid (λ lt. omega (arith, c.if-total-from.true, cost))

pub loop-candidate-smaller : goal.loop-candidate-smaller
loop-candidate-smaller c = omega (arith, c.loop-candidate-test.true)
