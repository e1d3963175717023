use Rattle.std.proofs.Common.{◌≡◌, ◌∙◌, ◌*◌, ◌/◌, ap, subst, length, map, false}
use Rattle.std.proofs.lemmas.List.{length-replicate}
use Rattle.g1_rem.specs.Starts.{card_count}
use Rattle.g1_rem.proofs.EntryCards.{left_is}
use Rattle.g1_rem.proofs.entry_cards.cards_into.Goals as goal

pub left_over-requires-clause-cards : goal.left_over-requires-clause-cards
left_over-requires-clause-cards c =
    c.mark_remembered.ensures.one_each ∙ ap length c.in_ok-cards.ensures ∙ length-replicate c.cards.result false
    ∙ c.cards.ensures.value ∙ ap (λ g. g.n * g.w / g.k) c.geometry-geometry.ensures.same

pub left_over-requires-clause-regions : goal.left_over-requires-clause-regions
left_over-requires-clause-regions c =
    c.set_each.ensures.one_each ∙ ap length c.in_ok-regions.ensures ∙ length-replicate c.regions.result false
    ∙ c.regions.ensures.value ∙ ap (λ g. g.n) c.geometry-geometry.ensures.same

pub returns-clause-ok : goal.returns-clause-ok
returns-clause-ok c =
    let h = c.args.heap.now in
    let remembered = map (λ s. s.items) c.args.remembered.now in
    let n : c.regions.result ≡ c.args.heap.now.geometry.n = c.regions.ensures.value ∙ ap (λ g. g.n) c.geometry-geometry.ensures.same in
    let count : c.cards.result ≡ card_count c.args.heap.now = c.cards.ensures.value ∙ ap (λ g. g.n * g.w / g.k) c.geometry-geometry.ensures.same in
    subst (λ l. c.in_ok-left_over.field-0.items ≡ l)
    (left_is h c.geometry-geometry.ensures.valid remembered c.args.set.now c.cards.result c.regions.result
    c.in_ok-cards.cards c.mark_remembered.new.marks c.in_ok-regions.regions c.set_each.new.self count n
    c.in_ok-cards.ensures c.mark_remembered.ensures c.in_ok-regions.ensures c.set_each.ensures)
    c.in_ok-left_over.ensures
