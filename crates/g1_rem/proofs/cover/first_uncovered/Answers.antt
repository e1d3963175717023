use Rattle.std.proofs.Common.{ap, ◌∙◌}
use Rattle.g1_words.specs.Heap.{Heap}
use Rattle.g1_rem.proofs.Bare.{first_ok, first_lowest}
use Rattle.g1_rem.proofs.cover.first_uncovered.Goals as goal

pub returns-clause-ok : goal.returns-clause-ok
returns-clause-ok c =
    let n = c.regions-regions.ensures.value ∙ ap (λ g. g.n) c.geometry.ensures.same ∙ ap (λ (h : Heap). h.geometry.n) c.heap.ensures.same in
    first_ok c.args.image.now c.regions-regions.result n c.first_among.result c.first_among.ensures.ok

pub returns-clause-lowest : goal.returns-clause-lowest
returns-clause-lowest c =
    let n = c.regions-regions.ensures.value ∙ ap (λ g. g.n) c.geometry.ensures.same ∙ ap (λ (h : Heap). h.geometry.n) c.heap.ensures.same in
    first_lowest c.args.image.now c.regions-regions.result n c.first_among.result c.heap.ensures.valid c.first_among.ensures.ok
