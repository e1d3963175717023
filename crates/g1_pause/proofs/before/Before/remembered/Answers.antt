use Rattle.std.proofs.Common.{refl, ◌∙◌, ap, length}
use Rattle.g1_image.specs.Image.{Image}
use Rattle.g1_frontier.proofs.Leading.{remembered_one_each}
use Rattle.g1_pause.proofs.before.Before.remembered.Goals as goal

pub returns-clause-one_each : goal.returns-clause-one_each
returns-clause-one_each c =
    let i = c.self.inside.tracked.now in
    ap length c.deref.ensures.value ∙ remembered_one_each (λ s. s.items) i i i.heap c.self.inside.remembered.items refl refl c.self.invariant.1
    ∙ ap (λ (j : Image). j.heap.geometry.n) c.self.view_is
