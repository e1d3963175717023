use Rattle.std.proofs.Common.{◌≡◌, refl, sym, ◌∙◌, ap, subst, Err}
use Rattle.std.specs.Prelude.{IfSome}
use Rattle.g1_words.specs.Survivors.{Survivors}
use Rattle.g1_image.specs.Image.{Image}
use Rattle.g1_frontier.specs.Found.{slots_into, IsFound}
use Rattle.g1_copy.specs.Plans.{IsPauseOf}
use Rattle.g1_copy.specs.Prepared.{IsMadeFor}
use Rattle.g1_pause.proofs.Planning.{seen_leads, set_places, set_planned, set_lacks_room}
use Rattle.g1_pause.proofs.steps.lay_out.Goals as goal

pub placed-requires-clause-can : goal.placed-requires-clause-can
placed-requires-clause-can g c =
    let he : c.heap.result.now ≡ c.args.before.now.heap = c.heap.ensures.same ∙ ap (λ (j : Image). j.heap) c.image.ensures.same in
    set_places c.args.settings.now.cost c.args.settings.now.choice c.args.before.now c.heap.result.now he c.args.set.now c.requires.set
    c.args.set.now c.args.set.now c.args.found.survivors.items c.args.found.survivors.items c.image.ensures.tracked c.placeable.ensures refl refl refl
    (subst (λ h. Survivors h c.args.set.now c.args.found.survivors.items) (sym he) c.requires.found.survivors)

pub placed-requires-clause-found : goal.placed-requires-clause-found
placed-requires-clause-found g c =
    let he : c.heap.result.now ≡ c.args.before.now.heap = c.heap.ensures.same ∙ ap (λ (j : Image). j.heap) c.image.ensures.same in
    subst (λ h. IsFound h c.args.set.now c.args.found) (sym he) c.requires.found

pub prepared-requires-clause-plan : goal.prepared-requires-clause-plan
prepared-requires-clause-plan g c κs within =
    let he : c.heap.result.now ≡ c.args.before.now.heap = c.heap.ensures.same ∙ ap (λ (j : Image). j.heap) c.image.ensures.same in
    let planned : IsPauseOf c.args.before.now.heap c.args.set.now c.in-Ok.plan =
    set_planned c.args.settings.now.cost c.args.settings.now.choice c.args.before.now c.heap.result.now he c.args.set.now c.requires.set
    c.args.set.now c.args.set.now c.args.set.now c.args.found.survivors.items c.args.found.survivors.items c.in-Ok.plan c.placed.result c.image.ensures.tracked c.placeable.ensures
    refl refl refl refl (subst (λ h. Survivors h c.args.set.now c.args.found.survivors.items) (sym he) c.requires.found.survivors)
    c.in-Ok.is c.in-Ok.ensures.plan c.placed.ensures.room in
    subst (λ (i : Image). IsPauseOf i.heap c.args.set.now c.in-Ok.plan) (sym c.tracked.ensures) planned

pub prepared-requires-clause-seen : goal.prepared-requires-clause-seen
prepared-requires-clause-seen g c κs within =
    subst (λ (i : Image). IfSome c.args.found.seen (λ s. s.leads.items ≡ slots_into i.heap c.args.set.now)) (sym c.tracked.ensures)
    (seen_leads c.args.before.now.heap c.args.set.now c.args.found.survivors.items c.args.found.seen c.requires.found.seen)

pub returns-in_ok-prepared-in-Ok-clause-outcome : goal.returns-in_ok-prepared-in-Ok-clause-outcome
returns-in_ok-prepared-in-Ok-clause-outcome g c =
    let he : c.heap.result.now ≡ c.args.before.now.heap = c.heap.ensures.same ∙ ap (λ (j : Image). j.heap) c.image.ensures.same in
    let planned : IsPauseOf c.args.before.now.heap c.args.set.now c.in-Ok.plan =
    set_planned c.args.settings.now.cost c.args.settings.now.choice c.args.before.now c.heap.result.now he c.args.set.now c.requires.set
    c.args.set.now c.args.set.now c.args.set.now c.args.found.survivors.items c.args.found.survivors.items c.in-Ok.plan c.placed.result c.image.ensures.tracked c.placeable.ensures
    refl refl refl refl (subst (λ h. Survivors h c.args.set.now c.args.found.survivors.items) (sym he) c.requires.found.survivors)
    c.in-Ok.is c.in-Ok.ensures.plan c.placed.ensures.room in
    (planned, subst (λ (i : Image). IsMadeFor c.in_ok-prepared-in-Ok.prepared i c.args.set.now c.in-Ok.plan.survivors) c.tracked.ensures c.in_ok-prepared-in-Ok.ensures.ok)

pub returns-in-Err-Room-clause-outcome : goal.returns-in-Err-Room-clause-outcome
returns-in-Err-Room-clause-outcome g c =
    let he : c.heap.result.now ≡ c.args.before.now.heap = c.heap.ensures.same ∙ ap (λ (j : Image). j.heap) c.image.ensures.same in
    rw (c.in-Err-Room.need-is, c.in-Err-Room.free-is) (set_lacks_room c.args.settings.now.cost c.args.settings.now.choice c.args.before.now c.heap.result.now he c.args.set.now c.requires.set
    c.args.found.survivors.items c.args.found.survivors.items c.placed.result c.in-Err-Room.need c.in-Err-Room.free (c.in-Err-Room.is ∙ ap Err c.in-Err-Room.field-0-is) refl c.requires.found.survivors
    c.placed.ensures.room c.placed.ensures.memory)

pub returns-in-Err : goal.returns-in-Err
returns-in-Err g c = record { outcome = tt; memory = refl }
