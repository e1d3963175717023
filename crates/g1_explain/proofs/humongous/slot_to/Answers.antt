use Rattle.std.proofs.Common.{◌≡◌, ◌∙◌, ◌*◌, ℕ, List, [], sym, ap, arith, slice_index, get_or, flat_map}
use Rattle.std.proofs.lemmas.List.{take_all}
use Rattle.g1_words.specs.Geometry.{Geometry}
use Rattle.g1_words.specs.Heap.{Heap, word, start}
use Rattle.g1_explain.specs.declared.finder.Finder.TheVariants.{Card}
use Rattle.g1_explain.specs.Finders.{lead}
use Rattle.g1_explain.specs.Keepers.{leads_at, first_keeper}
use Rattle.g1_explain.proofs.Keepers.{points, points_not, lead_there, lead_elsewhere, none_more, first_hit, at_slots}
use Rattle.g1_explain.proofs.humongous.slot_to.Goals as goal

pub loop-slot-preserved : goal.loop-slot-preserved
loop-slot-preserved c =
    let h : Heap = c.args.heap.now in
    let p : ℕ = get_or c.args.slots.now c.loop-slot.slot-index 0 in
    let read : c.at.result ≡ word h p = c.at.ensures ∙ ap (λ (ws : List ℕ). slice_index ws p) c.words.ensures.same in
    let at : c.start-at.result ≡ start h c.args.region = c.start-at.ensures.value ∙ ap (λ (g : Geometry). c.args.region * g.w) c.geometry.ensures.same in
    let off = points_not c.checked_sub.result c.at.result c.start-at.result c.eq.result c.checked_sub.ensures c.eq.ensures c.if-eq.false in
    none_more (λ p. leads_at h (lead (Card c.args.card p) (word h p)) c.args.region) c.args.slots.now c.loop-slot.slot-index 0 (omega (arith, c.loop-slot-test.true)) c.loop-slot.invariant
    (lead_elsewhere h c.args.region (word h p) c.start-at.result (Card c.args.card p) at (λ e. off (read ∙ e)))

pub returns-then-eq : goal.returns-then-eq
returns-then-eq c =
    let h : Heap = c.args.heap.now in
    let p : ℕ = get_or c.args.slots.now c.loop-slot.slot-index 0 in
    let read : c.at.result ≡ word h p = c.at.ensures ∙ ap (λ (ws : List ℕ). slice_index ws p) c.words.ensures.same in
    let at : c.start-at.result ≡ start h c.args.region = c.start-at.ensures.value ∙ ap (λ (g : Geometry). c.args.region * g.w) c.geometry.ensures.same in
    let on = points c.checked_sub.result c.at.result c.start-at.result c.eq.result c.checked_sub.ensures c.eq.ensures c.if-eq.true in
    sym (ap first_keeper (at_slots h c.args.region c.args.card c.args.slots.now)
    ∙ first_hit (λ p. leads_at h (lead (Card c.args.card p) (word h p)) c.args.region) c.args.slots.now c.loop-slot.slot-index 0 (Card c.args.card p)
    (omega (arith, c.loop-slot-test.true)) c.loop-slot.invariant (ap first_keeper (lead_there h c.args.region (word h p) c.start-at.result (Card c.args.card p) at (sym read ∙ on))))

pub returns : goal.returns
returns c =
    let h : Heap = c.args.heap.now in
    let none : flat_map (λ p. leads_at h (lead (Card c.args.card p) (word h p)) c.args.region) c.args.slots.now ≡ [] =
    ap (flat_map (λ p. leads_at h (lead (Card c.args.card p) (word h p)) c.args.region)) (sym (take_all c.loop-slot.slot-index c.args.slots.now (omega (arith, c.loop-slot-test.false)))) ∙ c.loop-slot.invariant in
    sym (ap first_keeper (at_slots h c.args.region c.args.card c.args.slots.now ∙ none))
