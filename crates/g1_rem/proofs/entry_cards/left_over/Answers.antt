use Rattle.std.proofs.Common.{◌≡◌, ◌∙◌, ◌*◌, ◌/◌, ◌++◌, ◌∷◌, [], ap, sym, arith, filter, length}
use Rattle.std.specs.List.{range_with_len}
use Rattle.g1_rem.specs.EntryCards.{is_left}
use Rattle.g1_rem.proofs.EntryCards.{left_between, left_there, left_inside}
use Rattle.g1_rem.proofs.entry_cards.left_over.Goals as goal
use Rattle.g1_rem.proofs.entry_cards.left_over.Goals.{then-not-is_set+in_ok-push, else-not-is_set}
use Rattle.g1_words.proofs.Lists.{filter_range_yes, filter_range_no}

pub cards-init : goal.cards-init
cards-init c = (c.new-left.ensures.items, omega arith)

pub cards-smaller : goal.cards-smaller
cards-smaller c = omega (arith, c.in-Some.ensures.reached, c.in-Some.ensures.within)

pub cards-preserved : goal.cards-preserved
cards-preserved c =
    let h = c.args.heap.now in
    let valid = c.geometry-geometry.ensures.valid in
    let cards = c.args.cards.now in
    let regions = c.args.regions.now in
    let n = c.in-Some.card in
    let next = c.in-Some.ensures in
    let home : c.region_of_card-region.result ≡ n * c.args.heap.now.geometry.k / c.args.heap.now.geometry.w =
    c.region_of_card-region.ensures.value ∙ ap (λ g. c.in-Some.card * g.k / g.w) c.geometry-geometry.ensures.same in
    let before : c.cards.left.items ≡ filter (is_left h cards regions) (range_with_len 0 n) = c.cards.invariant.0 ∙ sym (left_between h valid cards regions c.cards.from n next.reached next.unset) in (
      elim c.if-not-is_set.branch [
        | then-not-is_set+in_ok-push v ↦
            ap (λ l. l.items) v.left-is ∙ v.in_ok-push.ensures.items ∙ ap (λ l. l ++ c.in-Some.card ∷ []) before
            ∙ sym (filter_range_yes (is_left h cards regions) n (left_there h valid cards regions n c.region_of_card-region.result home next.set (sym c.is_set.ensures ∙ v.if-not-is_set.true)))
        | else-not-is_set v ↦
            ap (λ l. l.items) v.left-is ∙ before
            ∙ sym (filter_range_no (is_left h cards regions) n (left_inside h valid cards regions n c.region_of_card-region.result home next.set (sym c.is_set.ensures ∙ v.if-not-is_set.false)))
      ],
      omega (arith, next.within),
    )

pub returns : goal.returns
returns c =
    let h = c.args.heap.now in
    let cards = c.args.cards.now in
    let regions = c.args.regions.now in
    c.cards.invariant.0 ∙ sym (left_between h c.geometry-geometry.ensures.valid cards regions c.cards.from (length cards) c.cards.invariant.1 c.in_default.ensures)
    ∙ ap (λ n. filter (is_left h cards regions) (range_with_len 0 n)) c.requires.cards
