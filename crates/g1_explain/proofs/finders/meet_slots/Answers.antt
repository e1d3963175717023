use Rattle.std.proofs.Common.{◌≡◌, ◌∙◌, ap, arith, flat_map, slice_index, length}
use Rattle.std.specs.List.{range_with_len}
use Rattle.g1_explain.specs.declared.finder.Finder.TheVariants.{Object as Slot}
use Rattle.g1_explain.specs.Finders.{lead}
use Rattle.g1_explain.specs.Searched.{met}
use Rattle.g1_explain.proofs.Meets.{met_number_more}
use Rattle.g1_explain.proofs.finders.meet_slots.Goals as goal

pub loop-slot-preserved : goal.loop-slot-preserved
loop-slot-preserved c =
    met_number_more (λ s. lead (Slot c.args.index c.args.at s) (slice_index c.args.slots.now s)) c.args.found.now c.args.finders.now.items c.loop-slot.finders.items c.meet.new.finders.items
    c.loop-slot.slot c.loop-slot.invariant c.in_ok-meet.ensures

pub returns : goal.returns
returns c =
    let all : c.loop-slot.slot ≡ length c.args.slots.now = omega (arith, c.loop-slot-test.false, c.loop-slot.auto.slot-end) in
    c.loop-slot.invariant
    ∙ ap (λ n. met c.args.found.now c.args.finders.now.items (flat_map (λ s. lead (Slot c.args.index c.args.at s) (slice_index c.args.slots.now s)) (range_with_len 0 n))) all
