use Rattle.std.proofs.Common.{◌<◌, All, map, sym, ◌∙◌, ap, subst}
use Rattle.g1_image.specs.Image.{Image}
use Rattle.g1_rem.specs.EntryCards.{cards_into}
use Rattle.g1_copy.proofs.FatesMade.{set_below}
use Rattle.g1_copy.proofs.PreparedPause.{remembered_count}
use Rattle.g1_copy.proofs.preparing.prepare.Goals as goal

pub cards_into-requires-clause-remembered : goal.cards_into-requires-clause-remembered
cards_into-requires-clause-remembered g c =
    let i : Image = c.args.tracked.now in
    remembered_count (λ s. s.items) i c.args.remembered.now c.requires.remembered ∙ ap (λ h. h.geometry.n) (sym c.heap_of.ensures.same)

pub cards_into-requires-clause-set : goal.cards_into-requires-clause-set
cards_into-requires-clause-set g c =
    let i : Image = c.args.tracked.now in
    subst (λ h. All (λ r. r < h.geometry.n) c.args.set.now) (sym c.heap_of.ensures.same) (set_below i.heap c.args.set.now c.args.plan.now c.heap_of.ensures.tracked.image.heap c.requires.plan)

pub prepare_on-requires-clause-cards : goal.prepare_on-requires-clause-cards
prepare_on-requires-clause-cards g c κs within =
    c.deref.ensures.value ∙ c.in_ok-cards.ensures.ok ∙ ap (λ h. cards_into h (map (λ s. s.items) c.args.remembered.now) c.args.set.now) c.heap_of.ensures.same
