use Rattle.std.proofs.Common.{◌≡◌, ◌+◌, length, get_or, set, refl, ◌∙◌, ap, arith}
use Rattle.std.proofs.lemmas.List.{length-set, length-replicate}
use Rattle.g1_frontier.proofs.Positions.{Noted-start, Noted-step, Noted-end}
use Rattle.g1_frontier.proofs.Scopes.{rising_few}
use Rattle.g1_frontier.proofs.scope.positions.Goals as goal

pub loop-index-init : goal.loop-index-init
loop-index-init c =
    let zeros = c.in_ok-positions.ensures.items_if_clones_equal (λ y same. same) in
    record { noted = Noted-start c.args.window.now c.args.regions c.in_ok-positions.positions.items zeros; count = ap length zeros ∙ length-replicate c.args.regions 0 }

pub overflow_cast-index : goal.overflow_cast-index
overflow_cast-index c = let few = rising_few c.args.regions c.args.window.now c.requires.regions in omega (arith, few, c.loop-index-test.true, c.requires.few)

pub overflow_add-index : goal.overflow_add-index
overflow_add-index c = let few = rising_few c.args.regions c.args.window.now c.requires.regions in omega (arith, few, c.loop-index-test.true, c.requires.few)

pub loop-index-preserved : goal.loop-index-preserved
loop-index-preserved c =
    let below = c.requires.regions.below c.loop-index.index 0 c.loop-index-test.true in
    let r = get_or c.args.window.now c.loop-index.index 0 in
    let same : length (set c.loop-index.positions.items r (c.loop-index.index + 1)) ≡ length c.loop-index.positions.items = simp length-set in
    record {
      noted = Noted-step c.args.window.now c.loop-index.index r c.loop-index.positions.items c.requires.regions.rise c.loop-index-test.true refl
          (omega (arith, below, c.loop-index.invariant.count)) c.loop-index.invariant.noted;
      count = same ∙ c.loop-index.invariant.count;
    }

pub returns-clause-positions : goal.returns-clause-positions
returns-clause-positions c = Noted-end c.args.window.now c.loop-index.index c.loop-index.positions.items
    (omega (arith, c.loop-index-test.false, c.loop-index.auto.index-end)) c.loop-index.invariant.noted

pub loop-index-smaller : goal.loop-index-smaller
loop-index-smaller c = omega (arith, c.loop-index-test.true)
