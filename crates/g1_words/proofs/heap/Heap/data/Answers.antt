use Rattle.std.proofs.Common.{arith, subst, sym, Contains}
use Rattle.g1_words.specs.Heap.{Heap, objects}
use Rattle.g1_words.proofs.LaidObjects.{object_laid}
use Rattle.g1_words.proofs.heap.Heap.data.Goals as goal

pub data-requires-clause-refs : goal.data-requires-clause-refs
data-requires-clause-refs c =
    let h : Heap = record { geometry = c.self.inside.geometry; words = c.self.inside.words.items; regions = c.self.inside.regions.items; roots = c.self.inside.roots.items; current = c.self.inside.current } in
    let o = object_laid h c.self.inside.words.laid c.args.object.now c.self.invariant.0 c.self.invariant.1 (subst (λ (h : Heap). Contains (objects h) c.args.object.now) (sym c.self.view_is) c.requires) in
    o.0

pub data-requires-clause-within : goal.data-requires-clause-within
data-requires-clause-within c =
    let h : Heap = record { geometry = c.self.inside.geometry; words = c.self.inside.words.items; regions = c.self.inside.regions.items; roots = c.self.inside.roots.items; current = c.self.inside.current } in
    let o = object_laid h c.self.inside.words.laid c.args.object.now c.self.invariant.0 c.self.invariant.1 (subst (λ (h : Heap). Contains (objects h) c.args.object.now) (sym c.self.view_is) c.requires) in
    omega (arith, o.1, c.laid.ensures.many)
