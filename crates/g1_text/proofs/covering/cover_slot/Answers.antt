use Rattle.std.proofs.Common.{◌≡◌, ◌+◌, ◌/◌, ◌∙◌, map, arith, sym, ap, subst, Vec, Global, ℕ}
use Rattle.std.proofs.lemmas.List.{length-map}
use Rattle.g1_words.specs.Heap.{word, region_of, card_of}
use Rattle.g1_text.specs.Covered.{IsAdded}
use Rattle.g1_text.proofs.Remembering.{pass_null, pass_home, pass_away, in_sets, card_small}
use Rattle.g1_text.proofs.covering.cover_slot.Goals as goal

pub returns-in_default : goal.returns-in_default
returns-in_default c = λ i rest same e l.
    pass_null i c.args.slot rest (map (λ (v : Vec ℕ Global). v.items) c.args.remembered.now.items) l (omega (arith, c.in_default.ensures, e))

pub returns-else-region-region_of : goal.returns-else-region-region_of
returns-else-region-region_of c = λ i rest same e l.
    let t = c.in-Some.target in
    let into = c.region_of-region.ensures ∙ ap (λ g. c.in-Some.target / g.w) same in
    let from = c.region_of.ensures ∙ ap (λ g. c.args.slot / g.w) same in
    pass_home i c.args.slot rest (map (λ (v : Vec ℕ Global). v.items) c.args.remembered.now.items) l t (omega (arith, c.in-Some.ensures, e)) (sym into ∙ c.if-region-region_of.false ∙ from)

pub returns-in_ok-add_card : goal.returns-in_ok-add_card
returns-in_ok-add_card c = λ i rest same e l.
    let sets = map (λ (v : Vec ℕ Global). v.items) c.args.remembered.now.items in
    let new = map (λ (v : Vec ℕ Global). v.items) c.add_card.new.remembered.items in
    let t = c.in-Some.target in
    let into = c.region_of-region.ensures ∙ ap (λ g. c.in-Some.target / g.w) same in
    let from = c.region_of.ensures ∙ ap (λ g. c.args.slot / g.w) same in
    let card = c.card_of.ensures ∙ ap (λ g. c.args.slot / g.k) same in
    let read : word i.heap c.args.slot ≡ t + 1 = omega (arith, c.in-Some.ensures, e) in
    let away : region_of i.heap t ≡ region_of i.heap c.args.slot → ⊥ = λ z. c.if-region-region_of.true (into ∙ z ∙ sym from) in
    let there = in_sets i c.args.slot rest sets l t read away in
    let few = card_small i c.args.slot rest sets l t read away in
    let count = length-map c.args.remembered.now.items (λ (v : Vec ℕ Global). v.items) in
    let added = c.in_ok-add_card.ensures (omega (arith, there, into, count)) (omega (arith, few, card)) in
    pass_away i c.args.slot rest sets l t read away new (subst (λ q. IsAdded sets q (card_of i.heap c.args.slot) new) into (subst (λ k. IsAdded sets c.region_of-region.result k new) card added))
