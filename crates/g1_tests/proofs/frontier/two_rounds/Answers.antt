use Rattle.std.proofs.Common.{arith, ap, ◌<◌, ℕ, Vec, Global}
use Rattle.g1_frontier.proofs.Leading.{remembered_one_each, one_leads_in}
use Rattle.g1_tests.proofs.frontier.two_rounds.Goals as goal

pub index-requires : goal.index-requires
index-requires g c =
    let all = remembered_one_each (λ (s : Vec ℕ Global). s.items) _ c.image.result.now c.heap-heap.result.now c.in_ok-remembered.remembered.items
    c.image.ensures.same c.heap-heap.ensures.same c.in_ok-remembered.ensures.ok in
    omega (arith, all, c.in_ok-remembered.remembered.ok, c.if-regions-lt2.false, c.regions.ensures.value, ap (λ q. q.n) c.geometry.ensures.same)

pub both_rounds-requires-clause-cards : goal.both_rounds-requires-clause-cards
both_rounds-requires-clause-cards g c κs within =
    let lt : 1 < c.heap-heap.result.now.geometry.n = omega (arith, c.if-regions-lt2.false, c.regions.ensures.value, ap (λ q. q.n) c.geometry.ensures.same) in
    (one_leads_in (λ (s : Vec ℕ Global). s.items) _ c.image.result.now c.heap-heap.result.now c.in_ok-remembered.remembered.items c.image.ensures.same
    c.heap-heap.ensures.same c.in_ok-remembered.ensures.ok 1 c.index.result.now c.as_slice-cards.result.now c.heap-heap.ensures.valid
    c.image.ensures.covered lt c.index.ensures c.as_slice-cards.ensures.value).0

pub both_rounds-requires-clause-outside : goal.both_rounds-requires-clause-outside
both_rounds-requires-clause-outside g c κs within =
    let lt : 1 < c.heap-heap.result.now.geometry.n = omega (arith, c.if-regions-lt2.false, c.regions.ensures.value, ap (λ q. q.n) c.geometry.ensures.same) in
    (one_leads_in (λ (s : Vec ℕ Global). s.items) _ c.image.result.now c.heap-heap.result.now c.in_ok-remembered.remembered.items c.image.ensures.same
    c.heap-heap.ensures.same c.in_ok-remembered.ensures.ok 1 c.index.result.now c.as_slice-cards.result.now c.heap-heap.ensures.valid
    c.image.ensures.covered lt c.index.ensures c.as_slice-cards.ensures.value).1

pub both_rounds-requires-clause-lead_in : goal.both_rounds-requires-clause-lead_in
both_rounds-requires-clause-lead_in g c κs within =
    let lt : 1 < c.heap-heap.result.now.geometry.n = omega (arith, c.if-regions-lt2.false, c.regions.ensures.value, ap (λ q. q.n) c.geometry.ensures.same) in
    (one_leads_in (λ (s : Vec ℕ Global). s.items) _ c.image.result.now c.heap-heap.result.now c.in_ok-remembered.remembered.items c.image.ensures.same
    c.heap-heap.ensures.same c.in_ok-remembered.ensures.ok 1 c.index.result.now c.as_slice-cards.result.now c.heap-heap.ensures.valid
    c.image.ensures.covered lt c.index.ensures c.as_slice-cards.ensures.value).2
