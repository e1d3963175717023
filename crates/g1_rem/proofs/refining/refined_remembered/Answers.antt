use Rattle.std.proofs.Common.{◌∙◌, ap}
use Rattle.g1_words.specs.Heap.{Heap}
use Rattle.g1_rem.proofs.Entering.{refined_each}
use Rattle.g1_rem.proofs.refining.refined_remembered.Goals as goal

pub returns-clause-ok : goal.returns-clause-ok
returns-clause-ok g c =
    let n = c.regions-regions.ensures.value ∙ ap (λ g. g.n) c.geometry.ensures.same ∙ ap (λ (h : Heap). h.geometry.n) c.heap.ensures.same in
    refined_each c.args.image.now c.regions-regions.result c.make_each.result n c.make_each.ensures.ok
