use Rattle.std.proofs.Common.{◌≡◌, [], refl, arith, flat_map, slice_index, length, subst}
use Rattle.std.specs.List.{range_with_len}
use Rattle.g1_explain.specs.declared.finder.Finder.TheVariants.{Object as Slot}
use Rattle.g1_explain.specs.Finders.{lead}
use Rattle.g1_explain.specs.Keepers.{AreKept, leads_in}
use Rattle.g1_explain.proofs.Keepers.{kept_none, kept_number_more}
use Rattle.g1_explain.proofs.humongous.keep_by_slots.Goals as goal

pub loop-slot-init : goal.loop-slot-init
loop-slot-init c = kept_none (leads_in c.args.heap.now []) c.args.keepers.now (λ r. refl)

pub loop-slot-preserved : goal.loop-slot-preserved
loop-slot-preserved c =
    kept_number_more c.args.heap.now (λ s. lead (Slot c.args.index c.args.at s) (slice_index c.args.slots.now s)) c.args.keepers.now c.loop-slot.keepers c.keep.new.keepers
    c.loop-slot.slot c.loop-slot.invariant c.keep.ensures

pub returns : goal.returns
returns c =
    let all : c.loop-slot.slot ≡ length c.args.slots.now = omega (arith, c.loop-slot-test.false, c.loop-slot.auto.slot-end) in
    subst (λ n. AreKept (leads_in c.args.heap.now (flat_map (λ s. lead (Slot c.args.index c.args.at s) (slice_index c.args.slots.now s)) (range_with_len 0 n))) c.args.keepers.now c.loop-slot.keepers)
    all c.loop-slot.invariant
