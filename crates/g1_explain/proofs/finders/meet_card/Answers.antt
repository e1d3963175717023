use Rattle.std.proofs.Common.{◌∙◌, ℕ, List, ap, arith, slice_index, get_or}
use Rattle.g1_words.specs.Heap.{word}
use Rattle.g1_explain.specs.declared.finder.Finder.TheVariants.{Card}
use Rattle.g1_explain.specs.Finders.{lead}
use Rattle.g1_explain.specs.Searched.{met}
use Rattle.g1_explain.proofs.Meets.{met_more}
use Rattle.g1_explain.proofs.finders.meet_card.Goals as goal

pub loop-slot-preserved : goal.loop-slot-preserved
loop-slot-preserved c =
    let p : ℕ = get_or c.args.slots.now c.loop-slot.slot-index 0 in
    met_more (λ p. lead (Card c.args.card p) (word c.args.heap.now p)) c.args.found.now c.args.finders.now.items c.loop-slot.finders.items c.meet.new.finders.items
    c.args.slots.now c.loop-slot.slot-index 0 (omega (arith, c.loop-slot-test.true)) c.loop-slot.invariant
    (c.in_ok-meet.ensures ∙ ap (λ x. met c.args.found.now c.loop-slot.finders.items (lead (Card c.args.card p) x)) (c.at.ensures ∙ ap (λ (ws : List ℕ). slice_index ws p) c.words.ensures.same))
