use Rattle.std.proofs.Common.{◌∙◌, [], flat_map, ap, sym, get_or, take, arith}
use Rattle.std.proofs.lemmas.List.{take_all, take_more}
use Rattle.g1_rem.specs.Slots.{slots_on}
use Rattle.g1_copy.specs.Patches.{patches_at, patches_by_card}
use Rattle.g1_copy.proofs.OnCards.{pushed_more}
use Rattle.g1_copy.proofs.patching.patches_alone.Goals as goal

pub loop-card-init : goal.loop-card-init
loop-card-init c = c.new-patches.ensures.items

pub loop-card-preserved : goal.loop-card-preserved
loop-card-preserved c =
    let xs = c.args.cards.now in
    let i = c.loop-card.card-index in
    pushed_more (λ c'. patches_at c.args.moves.now.heap c.args.moves.now.plan.survivors (slots_on c.args.moves.now.heap c')) [] c.loop-card.patches.items
    c.push_card.new.patches.items (take i xs) (get_or xs i 0) c.loop-card.invariant c.in_ok-push_card.ensures
    ∙ ap (flat_map (λ c'. patches_at c.args.moves.now.heap c.args.moves.now.plan.survivors (slots_on c.args.moves.now.heap c'))) (sym (take_more xs i 0 c.loop-card-test.true))

pub returns : goal.returns
returns c =
    c.loop-card.invariant
    ∙ ap (patches_by_card c.args.moves.now.heap c.args.moves.now.plan.survivors) (take_all c.loop-card.card-index c.args.cards.now c.loop-card-test.false)

pub loop-card-smaller : goal.loop-card-smaller
loop-card-smaller c = omega (arith, c.loop-card-test.true)
