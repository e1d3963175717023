use Rattle.std.proofs.Common.{arith, subst, sym, Contains}
use Rattle.g1_words.specs.Heap.{Heap, objects}
use Rattle.g1_words.proofs.Bounds.{object_within}
use Rattle.g1_words.proofs.Computed.{contains_has}
use Rattle.g1_words.proofs.LaidObjects.{object_laid}
use Rattle.g1_words.proofs.heap.Heap.words_of.Goals as goal

pub between-requires-clause-laid : goal.between-requires-clause-laid
between-requires-clause-laid c =
    let h : Heap = record { geometry = c.self.inside.geometry; words = c.self.inside.words.items; regions = c.self.inside.regions.items; roots = c.self.inside.roots.items; current = c.self.inside.current } in
    let o = object_laid h c.self.inside.words.laid c.args.object.now c.self.invariant.0 c.self.invariant.1 (subst (λ (h : Heap). Contains (objects h) c.args.object.now) (sym c.self.view_is) c.requires) in
    o.1

pub overflow_add-object : goal.overflow_add-object
overflow_add-object c =
    let h : Heap = record { geometry = c.self.inside.geometry; words = c.self.inside.words.items; regions = c.self.inside.regions.items; roots = c.self.inside.roots.items; current = c.self.inside.current } in
    let has = contains_has h c.args.object.now c.self.invariant.0.shaped (subst (λ (h : Heap). Contains (objects h) c.args.object.now) (sym c.self.view_is) c.requires) in
    omega (arith, object_within h c.self.invariant.0 c.args.object.now has, c.self.invariant.0.limits.words_most)
