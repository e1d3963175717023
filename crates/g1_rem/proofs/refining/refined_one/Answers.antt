use Rattle.std.proofs.Common.{◌≡◌, ◌∙◌, sym, subst}
use Rattle.std.specs.List.Sorted.{IsStrictlyIncreasing}
use Rattle.g1_image.specs.Image.{remembered_of}
use Rattle.g1_rem.proofs.Bare.{set_read}
use Rattle.g1_rem.proofs.Entering.{refined_ok}
use Rattle.g1_rem.proofs.refining.refined_one.Goals as goal
use Rattle.g1_rem.proofs.refining.refined_one.Goals.{After-deref}

the_set : (c : After-deref) → c.deref.result.now ≡ remembered_of c.args.image.now c.args.region
the_set c = c.deref.ensures.value ∙ set_read (λ s. s.items) c.args.image.now c.remembered.result.now c.args.region c.index-remembered-region.result
    c.heap-heap.ensures.valid c.remembered.ensures c.requires.region c.index-remembered-region.is

pub merged-requires-clause-left : goal.merged-requires-clause-left
merged-requires-clause-left c =
    subst IsStrictlyIncreasing (sym (the_set (goal.at.merged-requires-clause-left c).After-deref)) (c.heap-heap.ensures.valid.remembered c.args.region c.requires.region).rising

pub returns-clause-ok : goal.returns-clause-ok
returns-clause-ok c =
    refined_ok c.args.image.now c.args.region c.deref.result.now c.args.entering.now c.merged.result c.heap-heap.ensures.valid c.requires.region
    (the_set (goal.at.returns-clause-ok c).After-deref) c.requires.entering c.merged.ensures.ok
