use Rattle.std.proofs.Common.{◌∙◌, ap, map}
use Rattle.g1_copy.proofs.RememberedJoined.{joined_each}
use Rattle.g1_copy.proofs.remembering.join_all.Goals as goal

pub returns-clause-ok : goal.returns-clause-ok
returns-clause-ok g c =
    let j = c.args.joining.now in
    let n = c.regions-regions.ensures.value ∙ ap (λ g. g.n) c.geometry.ensures.same in
    joined_each j.heap.now j.fates.now (map (λ s. s.items) j.remembered.now) (map (λ s. s.items) j.outer.now) (map (λ s. s.items) j.inner.now)
    c.regions-regions.result c.make_each.result n c.make_each.ensures.ok
