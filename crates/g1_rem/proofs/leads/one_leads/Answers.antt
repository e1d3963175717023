use Rattle.std.proofs.Common.{◌≡◌, ◌++◌, ◌∷◌, [], false, slice_index, take, sym, ap, subst, ◌∙◌, eq-eqb, arith}
use Rattle.std.proofs.lemmas.List.{take_more, take_all}
use Rattle.std.proofs.lemmas.Bool.{ne_eqb}
use Rattle.std.proofs.lemmas.List.Elements.{Contains-get_or}
use Rattle.g1_rem.specs.Entering.{enters}
use Rattle.g1_rem.specs.Leads.{IsLedInto}
use Rattle.g1_rem.proofs.Entering.{enters_found, enters_pass, leads_none, leads_some, slot_read}
use Rattle.g1_rem.proofs.leads.one_leads.Goals as goal
use Rattle.g1_rem.proofs.leads.one_leads.Goals.{in-Some+else-target-region, in_default}

pub led_into-requires-clause-slot : goal.led_into-requires-clause-slot
led_into-requires-clause-slot c = (slot_read c.args.heap.now c.args.slots.now c.loop-p.p-index c.requires c.loop-p-test.true).0

pub led_into-requires-clause-reference : goal.led_into-requires-clause-reference
led_into-requires-clause-reference c = (slot_read c.args.heap.now c.args.slots.now c.loop-p.p-index c.requires c.loop-p-test.true).1

pub loop-p-preserved : goal.loop-p-preserved
loop-p-preserved c =
    let h = c.args.heap.now in
    let r = c.args.region in
    let p = slice_index c.args.slots.now c.loop-p.p-index in
    let ps = take c.loop-p.p-index c.args.slots.now in
    ap (enters c.args.heap.now c.args.region) (take_more c.args.slots.now c.loop-p.p-index 0 c.loop-p-test.true)
    ∙ elim c.match-led_into.branch as (λ b. enters c.args.heap.now c.args.region (take c.loop-p.p-index c.args.slots.now ++ slice_index c.args.slots.now c.loop-p.p-index ∷ []) ≡ false) [
      | in-Some+else-target-region w ↦ enters_pass h r p ps c.loop-p.invariant (leads_some h p w.in-Some.target r w.in-Some.ensures ∙ ne_eqb w.in-Some.target r w.if-target-region.false)
      | in_default w ↦ enters_pass h r p ps c.loop-p.invariant (leads_none h p r (subst (IsLedInto c.args.heap.now (slice_index c.args.slots.now c.loop-p.p-index)) w.in_default.is c.led_into.ensures))
    ]

pub returns-then-target-region : goal.returns-then-target-region
returns-then-target-region c =
    let h = c.args.heap.now in
    let r = c.args.region in
    let xs = c.args.slots.now in
    let k = c.loop-p.p-index in
    sym (enters_found h r (slice_index c.args.slots.now c.loop-p.p-index) xs (Contains-get_or xs k 0 c.loop-p-test.true)
    (leads_some h (slice_index c.args.slots.now c.loop-p.p-index) c.in-Some.target r c.in-Some.ensures ∙ eq-eqb c.in-Some.target r c.if-target-region.true))

pub returns : goal.returns
returns c = sym c.loop-p.invariant ∙ ap (enters c.args.heap.now c.args.region) (take_all c.loop-p.p-index c.args.slots.now c.loop-p-test.false)

pub loop-p-smaller : goal.loop-p-smaller
loop-p-smaller c = omega (arith, c.loop-p-test.true)
