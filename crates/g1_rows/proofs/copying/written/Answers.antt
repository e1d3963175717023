use Rattle.std.proofs.Common.{map, ap, sym, subst, ◌∙◌}
use Rattle.g1_words.specs.Heap.{Heap}
use Rattle.g1_image.specs.Image.{Image}
use Rattle.g1_rem.specs.EntryCards.{cards_into}
use Rattle.g1_copy.specs.Plans.{IsPauseOf}
use Rattle.g1_pause.proofs.Planning.{cards_there}
use Rattle.g1_pause.proofs.NamedPauses.{set_outside, set_patched}
use Rattle.g1_rows.proofs.copying.written.Goals as goal

pub patches-requires-clause-rising : goal.patches-requires-clause-rising
patches-requires-clause-rising g c κs within =
    let heap = c.heap-heap.ensures.same ∙ ap (λ (j : Image). j.heap) c.image.ensures.same in
    let remembered = map (λ s. s.items) c.args.basis.now.remembered.now in
    (cards_there c.heap-heap.result.now c.args.basis.now.cards.now c.args.basis.now.set.now remembered c.cards_lead_in.ensures.outside
    (c.requires.cards ∙ ap (λ (z : Heap). cards_into z remembered c.args.basis.now.set.now) (sym heap))).rise

pub patches-requires-clause-there : goal.patches-requires-clause-there
patches-requires-clause-there g c κs within =
    let heap = c.heap-heap.ensures.same ∙ ap (λ (j : Image). j.heap) c.image.ensures.same in
    let remembered = map (λ s. s.items) c.args.basis.now.remembered.now in
    (cards_there c.heap-heap.result.now c.args.basis.now.cards.now c.args.basis.now.set.now remembered c.cards_lead_in.ensures.outside
    (c.requires.cards ∙ ap (λ (z : Heap). cards_into z remembered c.args.basis.now.set.now) (sym heap))).below

pub patches-requires-clause-outside : goal.patches-requires-clause-outside
patches-requires-clause-outside g c κs within =
    let heap = c.heap-heap.ensures.same ∙ ap (λ (j : Image). j.heap) c.image.ensures.same in
    let remembered = map (λ s. s.items) c.args.basis.now.remembered.now in
    set_outside c.image.result.now c.args.basis.now.tracked.now c.image.ensures.same c.heap-heap.result.now c.heap-heap.ensures.same c.heap-heap.ensures.valid c.image.ensures.covered
    c.args.basis.now.set.now c.requires.regions c.requires.ordinary
    c.args.basis.now.cards.now remembered c.args.basis.now.plan.now c.cards_lead_in.ensures.outside
    (c.requires.cards ∙ ap (λ (z : Heap). cards_into z remembered c.args.basis.now.set.now) (sym heap))
    (subst (λ z. IsPauseOf z c.args.basis.now.set.now c.args.basis.now.plan.now) (sym heap) c.requires.plan)

pub new_rem-requires-clause-patches : goal.new_rem-requires-clause-patches
new_rem-requires-clause-patches g c κs within =
    let heap = c.heap-heap.ensures.same ∙ ap (λ (j : Image). j.heap) c.image.ensures.same in
    let remembered = map (λ s. s.items) c.args.basis.now.remembered.now in
    set_patched c.image.result.now c.args.basis.now.tracked.now c.image.ensures.same c.heap-heap.result.now c.heap-heap.ensures.same c.heap-heap.ensures.valid c.image.ensures.covered
    c.args.basis.now.set.now c.requires.regions c.requires.ordinary
    c.args.basis.now.cards.now remembered c.args.basis.now.plan.now c.as_slice-slots.result.now c.all_patches.ensures
    (c.requires.cards ∙ ap (λ (z : Heap). cards_into z remembered c.args.basis.now.set.now) (sym heap)) c.requires.remembered
    (subst (λ z. IsPauseOf z c.args.basis.now.set.now c.args.basis.now.plan.now) (sym heap) c.requires.plan)
    (c.as_slice-slots.ensures.value ∙ c.in_ok-patches.ensures.ok)
