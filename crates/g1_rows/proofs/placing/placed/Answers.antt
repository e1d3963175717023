use Rattle.std.proofs.Common.{◌∙◌, ap, sym, subst}
use Rattle.std.specs.Prelude.{IfSome}
use Rattle.g1_words.specs.Layout.{sizes_of}
use Rattle.g1_frontier.specs.Found.{IsSeen}
use Rattle.g1_rows.proofs.placing.placed.Goals as goal

pub placed_by_sizes-requires-clause-sizes : goal.placed_by_sizes-requires-clause-sizes
placed_by_sizes-requires-clause-sizes g c =
    let h = c.args.tracked.now.heap in
    let l = c.args.found.now.survivors.items in
    let seen : IsSeen h c.args.set.now l c.in-Some.seen = subst (λ o. IfSome o (IsSeen h c.args.set.now l)) c.in-Some.is c.requires.found.seen in
    c.as_slice.ensures.value ∙ seen.sizes ∙ ap (sizes_of h) (sym c.as_slice-survivors.ensures.value)
