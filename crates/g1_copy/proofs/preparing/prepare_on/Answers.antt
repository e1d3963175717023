use Rattle.std.proofs.Common.{map, sym, subst, ◌∙◌, ap}
use Rattle.std.specs.Prelude.{IfOk}
use Rattle.g1_image.specs.Image.{Image}
use Rattle.g1_rem.specs.EntryCards.{cards_into}
use Rattle.g1_copy.specs.Patches.{all_patches}
use Rattle.g1_copy.specs.Plans.{Pausing}
use Rattle.g1_copy.specs.Prepared.{IsMadeFor}
use Rattle.g1_copy.proofs.PreparedPause.{all_found, into_there}
use Rattle.g1_copy.proofs.preparing.prepare_on.Goals as goal

pub patches_by-requires-after_bounds : goal.patches_by-requires-after_bounds
patches_by-requires-after_bounds g c κs within =
    let here = c.requires.cards ∙ ap (λ h. cards_into h (map (λ s. s.items) c.args.basis.now.remembered.now) c.args.basis.now.set.now) (sym c.heap_of-heap.ensures.same) in
    into_there c.heap_of-heap.result.now (map (λ s. s.items) c.args.basis.now.remembered.now) c.args.basis.now.set.now c.args.basis.now.cards.now here

pub prepare_patches-requires-after_bounds : goal.prepare_patches-requires-after_bounds
prepare_patches-requires-after_bounds g c κs within =
    let i : Image = c.args.basis.now.tracked.now in
    let here = c.requires.cards ∙ ap (λ h. cards_into h (map (λ s. s.items) c.args.basis.now.remembered.now) c.args.basis.now.set.now) (sym c.heap_of-heap.ensures.same) in
    all_found i c.args.basis.now.set.now c.args.basis.now.plan.now c.requires.plan c.heap_of-heap.result.now (map (λ s. s.items) c.args.basis.now.remembered.now) c.args.basis.now.cards.now
    c.in_ok-patches.patches.items c.all_patches.ensures c.heap_of-heap.ensures.tracked.image c.heap_of-heap.ensures.tracked.covered c.heap_of-heap.ensures.same c.requires.remembered here c.in_ok-patches.ensures
    ∙ ap (λ (v : Pausing). all_patches v.image.heap v.set v.plan.survivors) (sym c.pausing_on-pausing.ensures)

pub returns-clause-ok : goal.returns-clause-ok
returns-clause-ok g c =
    subst (λ (v : Pausing). IfOk c.prepare_patches.result (λ p. IsMadeFor p v.image v.set v.plan.survivors)) c.pausing_on-pausing.ensures c.prepare_patches.ensures.ok
