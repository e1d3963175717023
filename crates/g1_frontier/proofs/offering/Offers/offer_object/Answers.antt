use Rattle.std.proofs.Common.{arith, ℕ, List, [], ◌≡◌, ◌+◌, ◌-◌, ◌<◌, ◌%◌, ◌^◌, ◌∙◌, ap, sym, subst, get_or, flat_map, Contains}
use Rattle.std.specs.List.{range_with_len}
use Rattle.std.proofs.lemmas.List.{flat_map_more}
use Rattle.g1_words.specs.Heap.{word, object_at, slots}
use Rattle.g1_words.specs.Valid.{IsReference}
use Rattle.g1_words.proofs.Computed.{Contains-range}
use Rattle.g1_words.proofs.Lists.{range_until}
use Rattle.g1_frontier.specs.Items.{AreRanks}
use Rattle.g1_frontier.specs.Scope.{place_in, aims_in}
use Rattle.g1_frontier.specs.Offering.{HasTried}
use Rattle.g1_frontier.proofs.Names.{object_in_words, slot_reference}
use Rattle.g1_frontier.proofs.Offerings.{tried_none, tried_append}
use Rattle.g1_frontier.proofs.Scopes.{all_part}
use Rattle.g1_frontier.proofs.offering.Offers.offer_object.Goals as goal

pub overflow_add-first : goal.overflow_add-first
overflow_add-first c =
    let b = object_in_words c.args.self.now.scope.now.heap.now c.requires.places.scope.valid c.args.at c.requires.object in
    omega (arith, b.0, c.requires.places.scope.valid.word_count, c.requires.places.scope.valid.limits.words_most)

pub overflow_add-slot-end : goal.overflow_add-slot-end
overflow_add-slot-end c =
    let b = object_in_words c.args.self.now.scope.now.heap.now c.requires.places.scope.valid c.args.at c.requires.object in
    let refs : c.args.refs ≡ word c.args.self.now.scope.now.heap.now c.args.at % 2 ^ 32 = c.requires.slots in
    omega (arith, b.1, refs, c.requires.places.scope.valid.word_count, c.requires.places.scope.valid.limits.words_most)

pub loop-slot-init : goal.loop-slot-init
loop-slot-init c =
    let s = c.args.self.now.scope.now in
    let h = c.args.holder.now in
    let none : 0 ≡ (c.args.at + 1) - (c.args.at + 1) = omega arith in
    subst (λ n. HasTried (place_in s) (flat_map (λ p. aims_in s (c.args.base + (p - (c.args.at + 1))) (word s.heap.now p)) (range_with_len (c.args.at + 1) n)) h h) none (tried_none (place_in s) h)

pub offer_named-requires-clause-reference : goal.offer_named-requires-clause-reference
offer_named-requires-clause-reference c =
    let s = c.args.self.now.scope.now in
    let p : ℕ = c.loop-slot.slot in
    let refs : c.args.refs ≡ word s.heap.now c.args.at % 2 ^ 32 = c.requires.slots in
    let there : Contains (slots (object_at s.heap.now c.args.at)) p =
    Contains-range (c.args.at + 1) (word s.heap.now c.args.at % 2 ^ 32) p c.loop-slot.auto.slot (omega (arith, refs, c.loop-slot-test.true)) in
    subst (λ x. IsReference s.heap.now x) (sym (c.at.ensures ∙ ap (λ l. get_or l p 0) c.words-words.ensures.same))
    (slot_reference s.heap.now c.requires.places.scope.valid (object_at s.heap.now c.args.at) p c.requires.object there)

pub offer_named-requires-clause-ranks : goal.offer_named-requires-clause-ranks
offer_named-requires-clause-ranks c =
    let s = c.args.self.now.scope.now in
    let p : ℕ = c.loop-slot.slot in
    let first : ℕ = c.args.at + 1 in
    let refs : c.args.refs ≡ word s.heap.now c.args.at % 2 ^ 32 = c.requires.slots in
    let there : Contains (slots (object_at s.heap.now c.args.at)) p = Contains-range first (word s.heap.now c.args.at % 2 ^ 32) p c.loop-slot.auto.slot (omega (arith, refs, c.loop-slot-test.true)) in
    subst (λ x. AreRanks (aims_in s (c.args.base + (p - first)) x)) (sym (c.at.ensures ∙ ap (λ l. get_or l p 0) c.words-words.ensures.same))
    (all_part (λ q. q.0 < 2 ^ 32) (λ p. aims_in s (c.args.base + (p - first)) (word s.heap.now p)) (slots (object_at s.heap.now c.args.at)) p c.requires.ranks there)

pub loop-slot-preserved : goal.loop-slot-preserved
loop-slot-preserved c =
    let s = c.args.self.now.scope.now in
    let first : ℕ = c.args.at + 1 in
    let p : ℕ = c.loop-slot.slot in
    let f : ℕ → List (ℕ × ℕ) = λ p. aims_in s (c.args.base + (p - first)) (word s.heap.now p) in
    let one : HasTried (place_in s) (f p) c.loop-slot.holder c.offer_named.new.holder =
    subst (λ x. HasTried (place_in s) (aims_in s (c.args.base + (p - first)) x) c.loop-slot.holder c.offer_named.new.holder) (c.at.ensures ∙ ap (λ l. get_or l p 0) c.words-words.ensures.same) c.in_ok-offer_named.ensures in
    subst (λ ps. HasTried (place_in s) ps c.args.holder.now c.offer_named.new.holder)
    (flat_map_more f [] (range_with_len first (p - first)) p ∙ ap (flat_map f) (range_until first p c.loop-slot.auto.slot))
    (tried_append (place_in s) (flat_map f (range_with_len first (p - first))) (f p) c.args.holder.now c.loop-slot.holder c.offer_named.new.holder c.loop-slot.invariant one)

pub returns : goal.returns
returns c =
    let s = c.args.self.now.scope.now in
    let first : ℕ = c.args.at + 1 in
    let refs : c.args.refs ≡ word s.heap.now c.args.at % 2 ^ 32 = c.requires.slots in
    let all : c.loop-slot.slot - first ≡ word s.heap.now c.args.at % 2 ^ 32 = let e = c.loop-slot.auto.slot-end (omega arith) in omega (arith, e, refs, c.loop-slot-test.false) in
    subst (λ n. HasTried (place_in s) (flat_map (λ p. aims_in s (c.args.base + (p - first)) (word s.heap.now p)) (range_with_len first n))
    c.args.holder.now c.loop-slot.holder) all c.loop-slot.invariant

pub loop-slot-smaller : goal.loop-slot-smaller
loop-slot-smaller c = omega (arith, c.loop-slot-test.true)
