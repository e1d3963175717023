use Rattle.std.proofs.Common.{arith, ◌+◌, ◌<◌, ◌∙◌, ◌^◌, ap, sym, subst, ℕ, get_or, flat_map, Contains}
use Rattle.std.proofs.lemmas.List.Elements.{Contains-get_or}
use Rattle.std.proofs.lemmas.List.{take_all}
use Rattle.g1_words.specs.Heap.{word}
use Rattle.g1_words.specs.Valid.{IsReference}
use Rattle.g1_rem.specs.Slots.{slots_on}
use Rattle.g1_frontier.specs.Items.{AreRanks}
use Rattle.g1_frontier.specs.Scope.{place_in, aims_in}
use Rattle.g1_frontier.specs.Offering.{HasTried}
use Rattle.g1_frontier.proofs.Names.{card_reference}
use Rattle.g1_frontier.proofs.Offerings.{tried_none, tried_more}
use Rattle.g1_frontier.proofs.Scopes.{all_part}
use Rattle.g1_frontier.proofs.offering.Offers.offer_card.Goals as goal

pub loop-slot-init : goal.loop-slot-init
loop-slot-init c = tried_none (place_in c.args.self.now.scope.now) c.args.holder.now

pub offer_named-requires-clause-reference : goal.offer_named-requires-clause-reference
offer_named-requires-clause-reference c =
    let s = c.args.self.now.scope.now in
    let xs = c.as_slice-slot-items.result.now in
    let p : ℕ = get_or xs c.loop-slot.slot-index 0 in
    let listed = c.as_slice-slot-items.ensures ∙ c.in_ok-slots.ensures in
    subst (λ x. IsReference s.heap.now x) (sym (c.at.ensures ∙ ap (λ l. get_or l p 0) c.words-words.ensures.same))
    (card_reference s.heap.now c.requires.places.scope.valid c.args.card p (subst (λ l. Contains l p) listed (Contains-get_or xs c.loop-slot.slot-index 0 c.loop-slot-test.true)))

pub offer_named-requires-clause-ranks : goal.offer_named-requires-clause-ranks
offer_named-requires-clause-ranks c =
    let s = c.args.self.now.scope.now in
    let xs = c.as_slice-slot-items.result.now in
    let p : ℕ = get_or xs c.loop-slot.slot-index 0 in
    let listed = c.as_slice-slot-items.ensures ∙ c.in_ok-slots.ensures in
    subst (λ x. AreRanks (aims_in s (c.args.base + p) x)) (sym (c.at.ensures ∙ ap (λ l. get_or l p 0) c.words-words.ensures.same))
    (all_part (λ q. q.0 < 2 ^ 32) (λ p. aims_in s (c.args.base + p) (word s.heap.now p)) (slots_on s.heap.now c.args.card) p c.requires.ranks
    (subst (λ l. Contains l p) listed (Contains-get_or xs c.loop-slot.slot-index 0 c.loop-slot-test.true)))

pub loop-slot-preserved : goal.loop-slot-preserved
loop-slot-preserved c =
    let s = c.args.self.now.scope.now in
    let xs = c.as_slice-slot-items.result.now in
    let i = c.loop-slot.slot-index in
    let p : ℕ = get_or xs i 0 in
    tried_more (place_in s) (λ p. aims_in s (c.args.base + p) (word s.heap.now p)) xs i 0 c.args.holder.now c.loop-slot.holder c.offer_named.new.holder c.loop-slot-test.true c.loop-slot.invariant
    (subst (λ x. HasTried (place_in s) (aims_in s (c.args.base + p) x) c.loop-slot.holder c.offer_named.new.holder) (c.at.ensures ∙ ap (λ l. get_or l p 0) c.words-words.ensures.same) c.in_ok-offer_named.ensures)

pub returns : goal.returns
returns c =
    let s = c.args.self.now.scope.now in
    let xs = c.as_slice-slot-items.result.now in
    subst (λ l. HasTried (place_in s) (flat_map (λ p. aims_in s (c.args.base + p) (word s.heap.now p)) l) c.args.holder.now c.loop-slot.holder)
    (take_all c.loop-slot.slot-index xs c.loop-slot-test.false ∙ c.as_slice-slot-items.ensures ∙ c.in_ok-slots.ensures) c.loop-slot.invariant

pub loop-slot-smaller : goal.loop-slot-smaller
loop-slot-smaller c = omega (arith, c.loop-slot-test.true)
