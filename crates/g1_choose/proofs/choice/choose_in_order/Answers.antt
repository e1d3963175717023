use Rattle.std.proofs.Common.{ℕ, List, map, take, subst}
use Rattle.g1_choose.specs.declared.candidate.Candidate.{Candidate}
use Rattle.g1_choose.specs.declared.buying.Purchase.{Purchase}
use Rattle.g1_choose.specs.Bought.{IsPaid, AreRegionsOf}
use Rattle.g1_choose.proofs.Budget.{chosen_from_paid}
use Rattle.g1_choose.proofs.choice.choose_in_order.Goals as goal

pub returns-clause-ok : goal.returns-clause-ok
returns-clause-ok c =
    let parameters = c.args.parameters.now in
    let remembered : List (List ℕ) = map (λ s. s.items) c.args.remembered.now in
    let order : List Candidate = c.in_ok-order.order.items in
    let purchase : Purchase = c.buy-purchase.result in
    let paid : IsPaid parameters c.args.d c.args.budget order purchase.taken =
    subst (λ xs. IsPaid parameters c.args.d c.args.budget xs purchase.taken) c.deref.ensures.value c.buy-purchase.ensures.paid in
    chosen_from_paid parameters c.args.heap.now remembered c.args.live.now c.args.d c.args.budget purchase.taken order c.in_ok-regions.regions.items c.in_ok-order.ensures.ok paid
    (subst (λ xs. AreRegionsOf (take purchase.taken xs) c.in_ok-regions.regions.items) c.deref-2.ensures.value c.in_ok-regions.ensures.ok)
