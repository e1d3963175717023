use Rattle.std.proofs.Common.{◌≡◌, ◌<◌, ◌+◌, ◌++◌, ◌∷◌, [], ◌∙◌, length, slice_index, slice_index_or, take, map, arith, ap, sym, subst}
use Rattle.std.proofs.lemmas.List.{take_more, map-set, get_or-map, length-map}
use Rattle.g1_rem.specs.Leads.{IsLedInto}
use Rattle.g1_rem.specs.Entering.{IsGrown, enters}
use Rattle.g1_rem.proofs.Entering.{grown_pass, grown_push, slot_read}
use Rattle.g1_rem.proofs.refining.add_card.Goals as goal
use Rattle.g1_rem.proofs.refining.add_card.Goals.{in-Some+in_ok-push_once, in_default}

pub led_into-requires-clause-slot : goal.led_into-requires-clause-slot
led_into-requires-clause-slot c = (slot_read c.args.heap.now c.args.slots.now c.loop-p.p-index c.requires.slots c.loop-p-test.true).0

pub led_into-requires-clause-reference : goal.led_into-requires-clause-reference
led_into-requires-clause-reference c = (slot_read c.args.heap.now c.args.slots.now c.loop-p.p-index c.requires.slots c.loop-p-test.true).1

pub loop-p-preserved : goal.loop-p-preserved
loop-p-preserved c =
    let h = c.args.heap.now in
    let p = slice_index c.args.slots.now c.loop-p.p-index in
    let ps = take c.loop-p.p-index c.args.slots.now in
    let more : take (c.loop-p.p-index + 1) c.args.slots.now ≡ take c.loop-p.p-index c.args.slots.now ++ slice_index c.args.slots.now c.loop-p.p-index ∷ [] =
    take_more c.args.slots.now c.loop-p.p-index 0 c.loop-p-test.true in
    subst (λ l. IsGrown c.args.heap.now c.args.card l (map (λ s. s.items) c.args.entering.now) (map (λ s. s.items) c.match-led_into.entering)) (sym more)
    (elim c.match-led_into.branch [
      | in-Some+in_ok-push_once w ↦ (
          let r = w.in-Some.region in
          let lt : w.in-Some.region < c.args.heap.now.geometry.n = w.in-Some.ensures.4 in
          let in_old : w.in-Some.region < length (map (λ s. s.items) c.args.entering.now) = omega (arith, lt, c.requires.one_each, length-map c.args.entering.now (λ s. s.items)) in
          let in_now : w.in-Some.region < length c.loop-p.entering = omega (arith, lt, c.requires.one_each, c.loop-p.auto.entering) in
          let before = slice_index_or (map (λ s. s.items) c.args.entering.now) r [] in
          let read = sym (get_or-map (λ s. s.items) c.loop-p.entering r w.index-entering-region.result [] in_now) ∙ c.loop-p.invariant.each r in_old in
          let pushed = w.in_ok-push_once.ensures.ok before (enters h r ps) (c.requires.below r lt) read in
          let same = ap (map (λ s. s.items)) w.entering-is ∙ map-set (λ s. s.items) c.loop-p.entering r w.push_once.new.cards in
          subst (IsGrown c.args.heap.now c.args.card (take c.loop-p.p-index c.args.slots.now ++ slice_index c.args.slots.now c.loop-p.p-index ∷ []) (map (λ s. s.items) c.args.entering.now)) (sym same)
          (grown_push h c.args.card p r ps w.push_once.new.cards.items (map (λ s. s.items) c.args.entering.now) (map (λ s. s.items) c.loop-p.entering)
          c.loop-p.invariant w.in-Some.ensures in_old pushed))
      | in_default w ↦ (
          let none = subst (IsLedInto c.args.heap.now (slice_index c.args.slots.now c.loop-p.p-index)) w.in_default.is c.led_into.ensures in
          subst (λ l. IsGrown c.args.heap.now c.args.card (take c.loop-p.p-index c.args.slots.now
          ++ slice_index c.args.slots.now c.loop-p.p-index ∷ []) (map (λ s. s.items) c.args.entering.now) (map (λ s. s.items) l)) (sym w.entering-is)
          (grown_pass h c.args.card p ps (map (λ s. s.items) c.args.entering.now) (map (λ s. s.items) c.loop-p.entering) c.loop-p.invariant none))
    ])

pub loop-p-smaller : goal.loop-p-smaller
loop-p-smaller c = omega (arith, c.loop-p-test.true)
