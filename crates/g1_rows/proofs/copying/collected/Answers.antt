use Rattle.std.proofs.Common.{ap, subst, ◌∙◌}
use Rattle.g1_words.specs.Survivors.{AllOrdinary}
use Rattle.g1_image.specs.Image.{Image}
use Rattle.g1_frontier.specs.Window.{AreRegions}
use Rattle.g1_pause.proofs.NamedPauses.{named_regions, named_ordinary}
use Rattle.g1_rows.proofs.copying.collected.Goals as goal

pub prepared-requires-clause-regions : goal.prepared-requires-clause-regions
prepared-requires-clause-regions g c κs within =
    subst (λ h. AreRegions h c.as_slice-set.result.now) (c.heap.ensures.same ∙ ap (λ (i : Image). i.heap) c.image.ensures.same)
    (named_regions c.heap.result.now c.args.list.now c.as_slice-set.result.now (c.as_slice-set.ensures.value ∙ c.in_ok-chosen.ensures.rising))

pub prepared-requires-clause-ordinary : goal.prepared-requires-clause-ordinary
prepared-requires-clause-ordinary g c κs within =
    subst (λ h. AllOrdinary h c.as_slice-set.result.now) (c.heap.ensures.same ∙ ap (λ (i : Image). i.heap) c.image.ensures.same)
    (named_ordinary c.heap.result.now c.args.list.now c.as_slice-set.result.now c.in_ok-chosen.ensures.accepted (c.as_slice-set.ensures.value ∙ c.in_ok-chosen.ensures.rising))
