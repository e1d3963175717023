use Rattle.std.proofs.Common.{◌∙◌, ap, sym, subst}
use Rattle.std.specs.Prelude.{IfOk}
use Rattle.g1_copy.specs.Patches.{AreLeads, all_patches}
use Rattle.g1_copy.specs.Plans.{IsPauseOf, Pausing}
use Rattle.g1_copy.specs.Prepared.{IsMadeFor}
use Rattle.g1_copy.proofs.preparing.prepare_by_leads.Goals as goal

pub rename_slots-requires-clause-plan : goal.rename_slots-requires-clause-plan
rename_slots-requires-clause-plan g c =
    let p = c.args.basis.now.plan.now in
    subst (λ h. IsPauseOf h p.set p) (sym c.heap_of-heap.ensures.same) (subst (λ s. IsPauseOf c.args.basis.now.tracked.now.heap s p) (sym c.requires.plan.same) c.requires.plan)

pub rename_slots-requires-clause-leads : goal.rename_slots-requires-clause-leads
rename_slots-requires-clause-leads g c =
    let p = c.args.basis.now.plan.now in
    subst (λ h. AreLeads h p.set p.survivors c.args.leads.items) (sym c.heap_of-heap.ensures.same)
    (subst (λ s. AreLeads c.args.basis.now.tracked.now.heap s p.survivors c.args.leads.items) (sym c.requires.plan.same) c.requires.leads)

pub prepare_patches-requires-after_bounds : goal.prepare_patches-requires-after_bounds
prepare_patches-requires-after_bounds g c κs within =
    let p = c.args.basis.now.plan.now in
    c.rename_slots.ensures ∙ ap (λ h. all_patches h p.set p.survivors) c.heap_of-heap.ensures.same ∙ ap (λ s. all_patches c.args.basis.now.tracked.now.heap s p.survivors) c.requires.plan.same
    ∙ ap (λ (v : Pausing). all_patches v.image.heap v.set v.plan.survivors) (sym c.pausing_on-pausing.ensures)

pub returns-clause-ok : goal.returns-clause-ok
returns-clause-ok g c =
    subst (λ (v : Pausing). IfOk c.prepare_patches.result (λ p. IsMadeFor p v.image v.set v.plan.survivors)) c.pausing_on-pausing.ensures c.prepare_patches.ensures.ok
