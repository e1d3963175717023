use Rattle.std.proofs.Common.{arith, ap, sym, refl, subst, ◌∙◌, ◌≡◌, ◌+◌, length, Option, IfNone}
use Rattle.g1_words.specs.Graph.{SameGraph}
use Rattle.g1_words.specs.Heap.{Heap}
use Rattle.g1_same.specs.declared.walk.Walk.{Walk}
use Rattle.g1_same.specs.declared.walk.Found.{Found}
use Rattle.g1_same.specs.Same.{IsRenaming}
use Rattle.g1_same.specs.Walk.{IsWalk}
use Rattle.g1_same.specs.Behind.{IsNext, LinksBetween}
use Rattle.g1_same.proofs.Steps.{some_then}
use Rattle.g1_same.proofs.Order.{renaming}
use Rattle.g1_same.proofs.Between.{walk_of, all_roots, all_pairs}
use Rattle.g1_same.proofs.Excludes.{same_count, no_difference}
use Rattle.g1_same.proofs.Held.{after_valid, before_valid, of_equals}
use Rattle.g1_same.proofs.comparing.compare.Goals as goal

pub returns-then-roots-clause-same : goal.returns-then-roots-clause-same
returns-then-roots-clause-same c = tt

pub returns-then-roots-clause-differ : goal.returns-then-roots-clause-differ
returns-then-roots-clause-differ c =
    record {
      is = (
        ap length (sym c.roots-roots.ensures),
        ap length (sym c.roots-then-roots.ensures),
        λ e. c.if-roots.true (e ∙ ap length (c.roots-then-roots.ensures ∙ sym c.roots.ensures)),
      );
      earliest = tt;
    }

pub returns-then-roots-clause-never : goal.returns-then-roots-clause-never
returns-then-roots-clause-never c = λ s. c.if-roots.true (ap length c.roots-roots.ensures ∙ same_count c.args.before.now c.args.after.now s ∙ ap length (sym c.roots.ensures))

pub returns-then-roots-clause-memory : goal.returns-then-roots-clause-memory
returns-then-roots-clause-memory c = tt

pub returns-in_ok-difference_at-in-Some-clause-never : goal.returns-in_ok-difference_at-in-Some-clause-never
returns-in_ok-difference_at-in-Some-clause-never c =
    of_equals (λ g h. SameGraph g h → ⊥) c.new-heaps.ensures.before c.new-heaps.ensures.after
    (λ s. no_difference c.new-heaps.result.before.now c.new-heaps.result.after.now (before_valid c.new-heaps.result) s c.in_ok-difference_at-in-Some.field-0 c.in_ok-difference_at-in-Some.ensures.is)

pub difference_at-requires-clause-none : goal.difference_at-requires-clause-none
difference_at-requires-clause-none c = (refl, refl)

pub difference_at-requires-clause-walk : goal.difference_at-requires-clause-walk
difference_at-requires-clause-walk c =
    let none : length c.in_ok-walk.walk.before.items ≡ 0 = ap length c.in_ok-walk.ensures.none in
    walk_of c.new-heaps.result.before.now c.new-heaps.result.after.now c.search.new.walk c.in_ok-met.ensures.walk (λ i lt. c.in_ok-met.ensures.alike i (omega (arith, none)) lt)

pub difference_at-requires-clause-found : goal.difference_at-requires-clause-found
difference_at-requires-clause-found c = some_then _ c.in_ok-met.met c.in-Some.found c.in-Some.is c.in_ok-met.ensures.found

pub difference_at-requires-clause-until : goal.difference_at-requires-clause-until
difference_at-requires-clause-until c =
    (some_then (λ (f : Found). IsNext c.new-heaps.result.before.now c.new-heaps.result.after.now c.search.new.walk 0 0 f) c.in_ok-met.met c.in-Some.found c.in-Some.is c.in_ok-met.ensures.until).1

pub difference_at-requires-clause-roots : goal.difference_at-requires-clause-roots
difference_at-requires-clause-roots c =
    of_equals (λ g h. length g.roots ≡ length h.roots) (sym c.new-heaps.ensures.before) (sym c.new-heaps.ensures.after)
    (ap length (sym c.roots-roots.ensures) ∙ c.if-roots.false ∙ ap length c.roots.ensures)

pub returns-in-None-clause-same : goal.returns-in-None-clause-same
returns-in-None-clause-same c =
    let g : Heap = c.new-heaps.result.before.now in
    let h : Heap = c.new-heaps.result.after.now in
    let w : Walk = c.search.new.walk in
    let none : length c.in_ok-walk.walk.before.items ≡ 0 = ap length c.in_ok-walk.ensures.none in
    let walk : IsWalk g h w = walk_of g h w c.in_ok-met.ensures.walk (λ i lt. c.in_ok-met.ensures.alike i (omega (arith, none)) lt) in
    let count : length g.roots ≡ length h.roots = of_equals (λ g h. length g.roots ≡ length h.roots) (sym c.new-heaps.ensures.before) (sym c.new-heaps.ensures.after)
    (ap length (sym c.roots-roots.ensures) ∙ c.if-roots.false ∙ ap length c.roots.ensures) in
    let links : LinksBetween g h w 0 0 (length w.before.items + 1) 0 = subst (λ (o : Option Found). IfNone o (LinksBetween g h w 0 0 (length w.before.items + 1) 0)) c.in-None.is c.in_ok-met.ensures.linked in
    of_equals (λ g h. IsRenaming g h w.before.items w.after.items) c.new-heaps.ensures.before c.new-heaps.ensures.after
    (renaming g h (before_valid c.new-heaps.result) (after_valid c.new-heaps.result) w walk count
    (all_roots g h w c.in_ok-met.ensures.walk count links) (all_pairs g h w c.in_ok-met.ensures.walk count links))
