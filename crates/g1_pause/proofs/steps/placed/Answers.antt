use Rattle.std.proofs.Common.{◌∙◌, ap, sym, subst}
use Rattle.std.specs.Prelude.{IfSome}
use Rattle.g1_words.specs.Layout.{sizes_of}
use Rattle.g1_layout.specs.Placed.{CanPlace}
use Rattle.g1_frontier.specs.Found.{IsSeen}
use Rattle.g1_pause.proofs.steps.placed.Goals as goal

pub place_sized-requires-clause-can : goal.place_sized-requires-clause-can
place_sized-requires-clause-can c = subst (CanPlace c.args.heap.now c.args.set.now) (sym c.deref.ensures.value) c.requires.can

pub place_sized-requires-clause-sizes : goal.place_sized-requires-clause-sizes
place_sized-requires-clause-sizes c =
    let l = c.args.found.now.survivors.items in
    let seen : IsSeen c.args.heap.now c.args.set.now l c.in-Some.seen = subst (λ o. IfSome o (IsSeen c.args.heap.now c.args.set.now l)) c.in-Some.is c.requires.found.seen in
    c.deref-in-Some.ensures.value ∙ seen.sizes ∙ ap (sizes_of c.args.heap.now) (sym c.deref.ensures.value)

pub place-requires : goal.place-requires
place-requires c = subst (CanPlace c.args.heap.now c.args.set.now) (sym c.deref-in-None.ensures.value) c.requires.can
