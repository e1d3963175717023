use Rattle.std.proofs.Common.{◌≡◌, ◌<◌, ◌+◌, ◌-◌, ◌∷◌, ◌++◌, ℕ, List, map, arith, subst, ◌∙◌, Vec, Global}
use Rattle.std.specs.List.{range_with_len}
use Rattle.g1_rem.proofs.Bare.{range_front}
use Rattle.g1_text.specs.Covered.{LeadEach}
use Rattle.g1_text.proofs.covering.cover_slots.Goals as goal

pub loop-slot-preserved : goal.loop-slot-preserved
loop-slot-preserved c = record {
  ahead = λ i rest same few stand l.
      let slot = c.loop-slot.slot in
      let sets = map (λ (v : Vec ℕ Global). v.items) c.loop-slot.remembered.items in
      let below : c.loop-slot.slot < c.args.first + c.args.count = omega (arith, c.loop-slot-test.true, c.saturating_add-slot-end.ensures, few) in
      let more : List ℕ = range_with_len (c.loop-slot.slot + 1) (c.args.first + c.args.count - (c.loop-slot.slot + 1)) ++ rest in
      let front : LeadEach i (c.loop-slot.slot ∷ more) sets =
      subst (λ ps. LeadEach i (ps ++ rest) sets) (range_front slot (c.args.first + c.args.count) below) (c.loop-slot.invariant.ahead i rest same few stand l) in
      c.in_ok-cover_slot.ensures i more same (c.word_at-word.ensures ∙ stand slot c.loop-slot.invariant.from below) front;
  from = omega (arith, c.loop-slot.invariant.from);
  within = omega (arith, c.loop-slot-test.true);
}

pub returns : goal.returns
returns c = λ i rest same few stand l.
    let sets = map (λ (v : Vec ℕ Global). v.items) c.loop-slot.remembered.items in
    let none : c.args.first + c.args.count - c.loop-slot.slot ≡ 0 = omega (arith, c.loop-slot-test.false, c.saturating_add-slot-end.ensures, few) in
    subst (λ n. LeadEach i (range_with_len c.loop-slot.slot n ++ rest) sets) none (c.loop-slot.invariant.ahead i rest same few stand l)
