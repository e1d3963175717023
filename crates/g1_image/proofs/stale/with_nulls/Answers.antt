use Rattle.std.proofs.Common.{set, sym, ap, ◌∙◌}
use Rattle.std.specs.Prelude.{slice_index_or}
use Rattle.std.proofs.lemmas.List.{take_all}
use Rattle.g1_image.specs.Stale.{nulled}
use Rattle.g1_image.proofs.StaleWords.{nulled_more}
use Rattle.g1_image.proofs.stale.with_nulls.Goals as goal

pub loop-stale-preserved : goal.loop-stale-preserved
loop-stale-preserved c =
    let found = c.args.found.now in
    let i = c.loop-stale.stale-index in
    ap (λ l. set l (slice_index_or found i (0, 0)).0 0) c.loop-stale.invariant ∙ sym (nulled_more found c.args.words.items i (0, 0) c.loop-stale-test.true)

pub returns : goal.returns
returns c = c.loop-stale.invariant ∙ ap (λ t. nulled t c.args.words.items) (take_all c.loop-stale.stale-index c.args.found.now c.loop-stale-test.false)
