use Rattle.std.proofs.Common.{◌≡◌, sym, subst}
use Rattle.std.specs.Prelude.{IfSome}
use Rattle.g1_frontier.specs.Found.{slots_into}
use Rattle.g1_copy.specs.Patches.{AreLeads}
use Rattle.g1_copy.proofs.PatchesRenamed.{slots_lead}
use Rattle.g1_rows.proofs.copying.made.Goals as goal

pub prepare_by_leads-requires-clause-leads : goal.prepare_by_leads-requires-clause-leads
prepare_by_leads-requires-clause-leads g c κs within =
    let h = c.args.basis.now.tracked.now.heap in
    let set = c.args.basis.now.set.now in
    let l = c.args.basis.now.plan.now.survivors in
    let seen = subst (λ o. IfSome o (λ s. s.leads.items ≡ slots_into h set)) c.in-Some.is c.requires.seen in
    subst (AreLeads h set l) (sym seen) (slots_lead h set l c.requires.plan.survivors)
