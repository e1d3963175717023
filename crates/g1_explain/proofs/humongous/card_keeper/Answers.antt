use Rattle.std.proofs.Common.{◌≡◌, ◌∙◌, ℕ, List, true, sym, ap, arith, get_or, flat_map}
use Rattle.std.proofs.lemmas.List.{take_all}
use Rattle.g1_words.specs.Heap.{Heap}
use Rattle.g1_explain.specs.Finders.{Lead}
use Rattle.g1_explain.specs.Keepers.{first_keeper, is_apart, kept_by}
use Rattle.g1_explain.proofs.Keepers.{on_card, leads_on_are, card_hits}
use Rattle.g1_explain.proofs.humongous.card_keeper.Goals as goal

pub returns-in-Some : goal.returns-in-Some
returns-in-Some c =
    let h : Heap = c.args.walkable.now.heap in
    let r : ℕ = c.args.region in
    let d : ℕ = get_or c.args.cards.now c.loop-card.card-index 0 in
    let apart : is_apart h c.args.set.now r d ≡ true = ap (λ (g : Heap). is_apart g c.args.set.now r d) (sym c.heap.ensures.same) ∙ sym c.is_apart.ensures ∙ c.if-is_apart.true in
    sym (card_hits h c.args.set.now r c.args.cards.now c.loop-card.card-index c.heap-then-is_apart.result.now c.as_slice.result.now c.in-Some.finder (omega (arith, c.loop-card-test.true)) c.loop-card.invariant
    c.heap-then-is_apart.ensures.same (c.as_slice.ensures ∙ c.slots_on-slots.ensures) apart (sym c.slot_to.ensures ∙ ap kept_by c.in-Some.is))

pub returns : goal.returns
returns c =
    let h : Heap = c.args.walkable.now.heap in
    let f : ℕ → List Lead = on_card h c.args.set.now c.args.region in
    sym (ap first_keeper (leads_on_are h c.args.set.now c.args.region c.args.cards.now
    ∙ ap (flat_map f) (sym (take_all c.loop-card.card-index c.args.cards.now (omega (arith, c.loop-card-test.false)))) ∙ c.loop-card.invariant))
