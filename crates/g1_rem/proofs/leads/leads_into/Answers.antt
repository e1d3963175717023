use Rattle.std.proofs.Common.{sym, ap, subst, ◌∙◌, Contains}
use Rattle.g1_rem.specs.Entering.{enters}
use Rattle.g1_rem.proofs.Entering.{slot_good}
use Rattle.g1_rem.proofs.Exact.{exact_by_slots}
use Rattle.g1_rem.proofs.leads.leads_into.Goals as goal

pub one_leads-requires : goal.one_leads-requires
one_leads-requires c = λ p k. slot_good c.args.heap.now c.args.card p c.valid.ensures (subst (λ l. Contains l p) (c.as_slice.ensures ∙ c.slots_on-slots.ensures.items) k)

pub returns : goal.returns
returns c = c.one_leads.ensures ∙ ap (enters c.args.heap.now c.args.region) (c.as_slice.ensures ∙ c.slots_on-slots.ensures.items) ∙ sym (exact_by_slots c.args.heap.now c.args.region c.args.card)
