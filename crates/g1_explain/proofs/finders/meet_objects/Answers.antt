use Rattle.std.proofs.Common.{◌∙◌, ℕ, ap, arith, slice_index, get_or}
use Rattle.g1_words.specs.Heap.{Heap}
use Rattle.g1_explain.specs.Finders.{object_leads}
use Rattle.g1_explain.specs.Searched.{met}
use Rattle.g1_explain.proofs.Meets.{met_number_more, slots_leads_are}
use Rattle.g1_explain.proofs.finders.meet_objects.Goals as goal

pub objects-preserved : goal.objects-preserved
objects-preserved c = record {
  within = omega (arith, c.objects-test.true);
  are_met = λ are.
      let h : Heap = c.args.heap.now in
      let j : ℕ = c.objects.index in
      let a : ℕ = get_or c.args.found.now j 0 in
      let there = are j 0 (omega (arith, c.objects-test.true)) in
      met_number_more (λ m. object_leads h m (slice_index c.args.found.now m)) c.args.found.now c.args.finders.now.items c.objects.finders.items c.meet_slots.new.finders.items
      j (c.objects.invariant.are_met are)
      (c.in_ok-meet_slots.ensures
      ∙ ap (met c.args.found.now c.objects.finders.items) (slots_leads_are h j a c.slots_at.result.now (c.slots_at.ensures.count there) (c.slots_at.ensures.each there)));
}
