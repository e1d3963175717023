use Rattle.std.proofs.Common.{◌≡◌, ◌+◌, ◌*◌, subst, ap, ◌∙◌, arith}
use Rattle.g1_words.specs.Heap.{start}
use Rattle.g1_image.specs.Marks.{Marked}
use Rattle.g1_image.proofs.Rows.{marked_one, next_start}
use Rattle.g1_image.proofs.shape.mark_humongous.Goals as goal

pub set-requires : goal.set-requires
set-requires c =
    let h = c.args.draft.now in
    let r = c.args.r in
    let place : c.start-start.result ≡ start h r = c.start-start.ensures.value ∙ ap (λ g. r * g.w) c.geometry.ensures.same in
    omega (arith, place, next_start h r (r + 1) (omega arith), c.geometry.ensures.draft.limits.w_least, c.requires.below, c.requires.above)

pub humongous_shaped-requires-clause-there : goal.humongous_shaped-requires-clause-there
humongous_shaped-requires-clause-there c = c.requires.there

pub humongous_shaped-requires-clause-kind : goal.humongous_shaped-requires-clause-kind
humongous_shaped-requires-clause-kind c = c.requires.kind

pub returns-clause-shaped : goal.returns-clause-shaped
returns-clause-shaped c = c.humongous_shaped.ensures

pub returns-clause-marked : goal.returns-clause-marked
returns-clause-marked c =
    let h = c.args.draft.now in
    let r = c.args.r in
    let place : c.start-start.result ≡ start h r = c.start-start.ensures.value ∙ ap (λ g. r * g.w) c.geometry.ensures.same in
    subst (λ x. Marked (λ k. c.args.base + k ≡ x) c.args.marks.now c.set.new.self) place
    (marked_one c.args.base c.start-start.result c.args.marks.now c.set.new.self (omega (arith, place, c.requires.below))
    (omega (arith, place, next_start h r (r + 1) (omega arith), c.geometry.ensures.draft.limits.w_least, c.requires.above)) c.set.ensures)
