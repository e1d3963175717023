use Rattle.std.proofs.Common.{set, sym, ap, ◌∙◌, arith, length, take}
use Rattle.std.specs.Prelude.{slice_index_or}
use Rattle.std.proofs.lemmas.List.{take_all}
use Rattle.g1_image.specs.Stale.{nulled}
use Rattle.g1_image.proofs.StaleWords.{length-nulled, nulled_more}
use Rattle.g1_image.proofs.stale.words_without.Goals as goal

pub loop-stale-preserved : goal.loop-stale-preserved
loop-stale-preserved c =
    let found = c.args.found.now in
    let i = c.loop-stale.stale-index in (
      c.set.ensures.items ∙ ap (λ l. set l (slice_index_or found i (0, 0)).0 0) c.loop-stale.invariant.0
          ∙ sym (nulled_more found c.args.words.items i (0, 0) c.loop-stale-test.true),
      omega (arith, c.loop-stale.invariant.1, c.set.ensures.laid),
    )

pub returns-clause-items : goal.returns-clause-items
returns-clause-items c = c.loop-stale.invariant.0 ∙ ap (λ t. nulled t c.args.words.items) (take_all c.loop-stale.stale-index c.args.found.now c.loop-stale-test.false)

pub returns-clause-laid : goal.returns-clause-laid
returns-clause-laid c = c.loop-stale.invariant.1

pub set-requires : goal.set-requires
set-requires c =
    let found = c.args.found.now in
    let i = c.loop-stale.stale-index in
    let there = c.requires i (0, 0) c.loop-stale-test.true in
    omega (arith, there, ap length c.loop-stale.invariant.0, length-nulled (take i found) c.args.words.items)
