use Rattle.std.proofs.Common.{◌≡◌, ◌∙◌, ◌++◌, ◌∷◌, [], ℕ, ap, arith, sym, map, take, get_or, append_assoc, append-nil}
use Rattle.std.proofs.lemmas.List.{map_more, take_all}
use Rattle.g1_frontier.specs.declared.item.Item.TheVariants.{Root, Card}
use Rattle.g1_frontier.specs.Items.{root_items}
use Rattle.g1_frontier.proofs.Searching.{roots_more}
use Rattle.g1_frontier.proofs.survivors.first_items.Goals as goal

pub loop-index-init : goal.loop-index-init
loop-index-init c = c.new-items.ensures.items

pub loop-index-preserved : goal.loop-index-preserved
loop-index-preserved c = c.in_ok-push.ensures.items ∙ ap (λ l. l ++ Root c.loop-index.index ∷ []) c.loop-index.invariant ∙ roots_more c.loop-index.index

pub loop-card-init : goal.loop-card-init
loop-card-init c =
    let all : c.loop-index.index ≡ c.args.roots = omega (arith, c.loop-index-test.false, c.loop-index.auto.index-end) in
    c.loop-index.invariant ∙ ap root_items all ∙ sym (append-nil (root_items c.args.roots))

pub loop-card-preserved : goal.loop-card-preserved
loop-card-preserved c =
    let cards = c.args.cards.now in
    let i : ℕ = c.loop-card.card-index in
    c.in_ok-push-2.ensures.items ∙ ap (λ l. l ++ Card (get_or cards i 0) c.args.roots ∷ []) c.loop-card.invariant
    ∙ append_assoc (root_items c.args.roots) (map (λ card. Card card c.args.roots) (take i cards)) (Card (get_or cards i 0) c.args.roots ∷ [])
    ∙ ap (λ l. root_items c.args.roots ++ l) (sym (map_more (λ card. Card card c.args.roots) cards i 0 c.loop-card-test.true))

pub returns : goal.returns
returns c =
    c.loop-card.invariant ∙ ap (λ l. root_items c.args.roots ++ map (λ card. Card card c.args.roots) l) (take_all c.loop-card.card-index c.args.cards.now c.loop-card-test.false)

pub loop-card-smaller : goal.loop-card-smaller
loop-card-smaller c = omega (arith, c.loop-card-test.true)

pub loop-index-smaller : goal.loop-index-smaller
loop-index-smaller c = omega (arith, c.loop-index-test.true)
