use Rattle.std.proofs.Common.{◌≡◌, ◌+◌, Some, None, inl, inr, refl, sym, ◌∙◌, ap, subst, arith}
use Rattle.g1_words.specs.Heap.{Heap}
use Rattle.g1_image.specs.Image.{Image}
use Rattle.g1_trace.specs.declared.command.Reply.TheVariants.{Full}
use Rattle.g1_trace.specs.Commands.{Effect, SetRoot, SetSlot}
use Rattle.g1_trace.specs.Mutator.{heap_view, place_for, IsEffect}
use Rattle.g1_trace.specs.Views.{EffectFits}
use Rattle.g1_trace.proofs.Carrying.{slot_inside, slot_small, slot_kept}
use Rattle.g1_trace.proofs.KeptTracked.{root_tracked}
use Rattle.g1_trace.proofs.NewKept.{new_tracked}
use Rattle.g1_trace.proofs.mutator.write_effect.Goals as goal

pub set_root-requires-clause-kept : goal.set_root-requires-clause-kept
set_root-requires-clause-kept c =
    let i : Image = c.args.tracked.now in
    let fits : EffectFits (heap_view i.heap) (SetRoot c.in-SetRoot.root c.in-SetRoot.value) = subst (EffectFits (heap_view i.heap)) c.in-SetRoot.is c.requires.fits in
    root_tracked i c.requires.before c.in-SetRoot.root c.in-SetRoot.value fits.1

pub overflow_add-object-in-SetSlot : goal.overflow_add-object-in-SetSlot
overflow_add-object-in-SetSlot c =
    let i : Image = c.args.tracked.now in
    let fits : EffectFits (heap_view i.heap) (SetSlot c.in-SetSlot.object c.in-SetSlot.slot c.in-SetSlot.value) = subst (EffectFits (heap_view i.heap)) c.in-SetSlot.is c.requires.fits in
    let small = slot_small i c.requires.before c.in-SetSlot.object c.in-SetSlot.slot c.in-SetSlot.value fits in
    omega (arith, small)

pub set_slot-requires-clause-at : goal.set_slot-requires-clause-at
set_slot-requires-clause-at c =
    let i : Image = c.args.tracked.now in
    let fits : EffectFits (heap_view i.heap) (SetSlot c.in-SetSlot.object c.in-SetSlot.slot c.in-SetSlot.value) = subst (EffectFits (heap_view i.heap)) c.in-SetSlot.is c.requires.fits in
    slot_inside i c.requires.before c.in-SetSlot.object c.in-SetSlot.slot c.in-SetSlot.value fits

pub set_slot-requires-clause-small : goal.set_slot-requires-clause-small
set_slot-requires-clause-small c =
    let i : Image = c.args.tracked.now in
    let fits : EffectFits (heap_view i.heap) (SetSlot c.in-SetSlot.object c.in-SetSlot.slot c.in-SetSlot.value) = subst (EffectFits (heap_view i.heap)) c.in-SetSlot.is c.requires.fits in
    slot_small i c.requires.before c.in-SetSlot.object c.in-SetSlot.slot c.in-SetSlot.value fits

pub set_slot-requires-clause-kept : goal.set_slot-requires-clause-kept
set_slot-requires-clause-kept c =
    let i : Image = c.args.tracked.now in
    let fits : EffectFits (heap_view i.heap) (SetSlot c.in-SetSlot.object c.in-SetSlot.slot c.in-SetSlot.value) = subst (EffectFits (heap_view i.heap)) c.in-SetSlot.is c.requires.fits in
    slot_kept i c.requires.before c.in-SetSlot.object c.in-SetSlot.slot c.in-SetSlot.value fits

pub set_data-requires-clause-fits : goal.set_data-requires-clause-fits
set_data-requires-clause-fits c = subst (EffectFits (heap_view c.args.tracked.now.heap)) c.in-SetValue.is c.requires.fits

pub place_object-requires-clause-kept : goal.place_object-requires-clause-kept
place_object-requires-clause-kept c =
    let found : place_for c.args.tracked.now.heap (1 + c.in-MakeNew.refs + c.in-MakeNew.words) ≡ Some c.in-Some.r =
    sym (c.place_for-place.ensures ∙ ap (λ (h : Heap). place_for h (1 + c.in-MakeNew.refs + c.in-MakeNew.words)) (c.heap.ensures.same
    ∙ ap (λ (i : Image). i.heap) c.image.ensures.same)) ∙ c.in-Some.is in
    new_tracked c.args.tracked.now c.requires.before c.in-MakeNew.root c.in-MakeNew.refs c.in-MakeNew.words c.in-Some.r found

pub overflow_add-object : goal.overflow_add-object
overflow_add-object c =
    let i : Image = c.args.tracked.now in
    let fits : EffectFits (heap_view i.heap) (SetSlot c.in-SetSlot.object c.in-SetSlot.slot c.in-SetSlot.value) = subst (EffectFits (heap_view i.heap)) c.in-SetSlot.is c.requires.fits in
    let small = slot_small i c.requires.before c.in-SetSlot.object c.in-SetSlot.slot c.in-SetSlot.value fits in
    omega (arith, small)

pub set_root-requires-clause-root : goal.set_root-requires-clause-root
set_root-requires-clause-root c =
    let i : Image = c.args.tracked.now in
    let fits : EffectFits (heap_view i.heap) (SetRoot c.in-SetRoot.root c.in-SetRoot.value) = subst (EffectFits (heap_view i.heap)) c.in-SetRoot.is c.requires.fits in
    fits.0

pub place_object-requires-clause-place : goal.place_object-requires-clause-place
place_object-requires-clause-place c =
    sym (c.place_for-place.ensures ∙ ap (λ (h : Heap). place_for h (1 + c.in-MakeNew.refs + c.in-MakeNew.words)) (c.heap.ensures.same ∙ ap (λ (i : Image). i.heap) c.image.ensures.same)) ∙ c.in-Some.is

pub place_object-requires-clause-root : goal.place_object-requires-clause-root
place_object-requires-clause-root c = subst (EffectFits (heap_view c.args.tracked.now.heap)) c.in-MakeNew.is c.requires.fits

pub returns-in-Nothing-clause-done : goal.returns-in-Nothing-clause-done
returns-in-Nothing-clause-done c = λ k.
    let i : Image = c.args.tracked.now in
    subst (λ (e : Effect). IsEffect k i e c.args.told.reply c.args.told.reply i) (sym c.in-Nothing.is) (refl, refl)

pub returns-in-SetRoot-clause-done : goal.returns-in-SetRoot-clause-done
returns-in-SetRoot-clause-done c = λ k.
    subst (λ (e : Effect). IsEffect k c.args.tracked.now e c.args.told.reply c.args.told.reply c.set_root.new.tracked) (sym c.in-SetRoot.is) (refl, c.set_root.ensures)

pub returns-in-Ok-clause-done : goal.returns-in-Ok-clause-done
returns-in-Ok-clause-done c = λ k.
    subst (λ (e : Effect). IsEffect k c.args.tracked.now e c.args.told.reply c.args.told.reply c.set_slot.new.tracked) (sym c.in-SetSlot.is) (refl, c.in-Ok.ensures.ok)

pub returns-in-SetValue-clause-done : goal.returns-in-SetValue-clause-done
returns-in-SetValue-clause-done c = λ k.
    subst (λ (e : Effect). IsEffect k c.args.tracked.now e c.args.told.reply c.args.told.reply c.set_data.new.tracked) (sym c.in-SetValue.is) (refl, c.set_data.ensures)

pub returns-in-None-clause-done : goal.returns-in-None-clause-done
returns-in-None-clause-done c = λ k.
    let i : Image = c.args.tracked.now in
    let found : place_for i.heap (1 + c.in-MakeNew.refs + c.in-MakeNew.words) ≡ None =
    sym (c.place_for-place.ensures ∙ ap (λ (h : Heap). place_for h (1 + c.in-MakeNew.refs + c.in-MakeNew.words)) (c.heap.ensures.same
    ∙ ap (λ (x : Image). x.heap) c.image.ensures.same)) ∙ c.in-None.is in
    subst (λ (e : Effect). IsEffect k i e c.args.told.reply Full i) (sym c.in-MakeNew.is) (inl (found, refl, refl))

pub returns-in-Some-clause-done : goal.returns-in-Some-clause-done
returns-in-Some-clause-done c = λ k.
    let found : place_for c.args.tracked.now.heap (1 + c.in-MakeNew.refs + c.in-MakeNew.words) ≡ Some c.in-Some.r =
    sym (c.place_for-place.ensures ∙ ap (λ (h : Heap). place_for h (1 + c.in-MakeNew.refs + c.in-MakeNew.words)) (c.heap.ensures.same
    ∙ ap (λ (x : Image). x.heap) c.image.ensures.same)) ∙ c.in-Some.is in
    subst (λ (e : Effect). IsEffect k c.args.tracked.now e c.args.told.reply c.args.told.reply c.place_object.new.tracked) (sym c.in-MakeNew.is)
    (inr (c.in-Some.r, found, refl, c.place_object.ensures))
