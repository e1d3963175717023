use Rattle.std.proofs.Common.{◌≡◌, ◌≤◌, ◌/◌, ◌∙◌, ap, arith}
use Rattle.g1_words.specs.Geometry.{Geometry}
use Rattle.g1_words.specs.Heap.{Heap, region_of}
use Rattle.g1_explain.proofs.Outside.{beyond_reason}
use Rattle.g1_explain.proofs.keeping.dead_reason.Goals as goal

pub returns-then-number-regions-clause-reason : goal.returns-then-number-regions-clause-reason
returns-then-number-regions-clause-reason g c =
    let h : Heap = c.args.walkable.now.heap in
    let same = c.heap-heap.ensures.same in
    let number : c.region_of-number.result ≡ region_of h c.args.at = c.region_of-number.ensures ∙ ap (λ (q : Geometry). c.args.at / q.w) (c.geometry.ensures.same ∙ ap (λ (g : Heap). g.geometry) same) in
    let count : c.regions.result ≡ h.geometry.n = c.regions.ensures.value ∙ ap (λ (q : Geometry). q.n) (c.geometry-2.ensures.same ∙ ap (λ (g : Heap). g.geometry) same) in
    let beyond : h.geometry.n ≤ region_of h c.args.at = omega (arith, c.if-number-regions.true, number, count) in
    beyond_reason c.args.walkable.now c.heap-heap.ensures.valid.heap c.args.at beyond c.requires.dead
