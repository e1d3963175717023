use Rattle.std.proofs.Common.{◌∙◌, ℕ, List, ap, arith, flat_map, get_or}
use Rattle.g1_words.specs.Heap.{Heap, word}
use Rattle.g1_rem.specs.Slots.{slots_on}
use Rattle.g1_explain.specs.declared.finder.Finder.TheVariants.{Card}
use Rattle.g1_explain.specs.Finders.{lead}
use Rattle.g1_explain.specs.Searched.{met}
use Rattle.g1_explain.proofs.Meets.{met_more}
use Rattle.g1_explain.proofs.finders.meet_cards.Goals as goal

pub loop-card-preserved : goal.loop-card-preserved
loop-card-preserved c =
    let h : Heap = c.args.walkable.now.heap in
    let d : ℕ = get_or c.args.cards.now c.loop-card.card-index 0 in
    let fs = c.loop-card.finders.items in
    met_more (λ d. flat_map (λ p. lead (Card d p) (word h p)) (slots_on h d)) c.args.found.now c.args.finders.now.items fs c.meet_card.new.finders.items
    c.args.cards.now c.loop-card.card-index 0 (omega (arith, c.loop-card-test.true)) c.loop-card.invariant
    (c.in_ok-meet_card.ensures
    ∙ ap (λ (g : Heap). met c.args.found.now fs (flat_map (λ p. lead (Card d p) (word g p)) c.as_slice.result.now)) c.heap.ensures.same
    ∙ ap (λ (ps : List ℕ). met c.args.found.now fs (flat_map (λ p. lead (Card d p) (word h p)) ps)) (c.as_slice.ensures ∙ c.slots_on-slots.ensures))
