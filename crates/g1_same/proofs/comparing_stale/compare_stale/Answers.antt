use Rattle.std.proofs.Common.{arith, ap, sym, subst, ◌∙◌, ◌≡◌, ◌+◌, ℕ, List, length, Option, IfNone}
use Rattle.g1_words.specs.Graph.{SameGraph}
use Rattle.g1_words.specs.Heap.{Heap}
use Rattle.g1_same.specs.declared.walk.Walk.{Walk}
use Rattle.g1_same.specs.declared.walk.Found.{Found}
use Rattle.g1_same.specs.declared.stale.StaleWords.{StaleWords}
use Rattle.g1_same.specs.Behind.{IsNext, IsNextStale, LinksBetween, PassesNoStale}
use Rattle.g1_same.specs.Stale.{LeadsToStale}
use Rattle.g1_same.proofs.Steps.{some_then}
use Rattle.g1_same.proofs.Held.{after_valid, before_valid, of_equals}
use Rattle.g1_same.proofs.Between.{walk_of}
use Rattle.g1_same.proofs.Unreached.{nothing_left}
use Rattle.g1_same.proofs.comparing_stale.compare_stale.Goals as goal

pub returns-then-roots-clause-first : goal.returns-then-roots-clause-first
returns-then-roots-clause-first c = (
  record {
    is = (
      ap length (sym c.roots-roots.ensures),
      ap length (sym c.roots-then-roots.ensures),
      λ e. c.if-roots.true (e ∙ ap length (c.roots-then-roots.ensures ∙ sym c.roots.ensures)),
    );
    earliest = tt;
  },
  tt,
)

pub earliest_at-requires-clause-walk : goal.earliest_at-requires-clause-walk
earliest_at-requires-clause-walk c =
    let none : length c.in_ok-walk.walk.before.items ≡ 0 = ap length c.in_ok-walk.ensures.none in
    walk_of c.new-heaps.result.before.now c.new-heaps.result.after.now c.search.new.walk c.in_ok-met.ensures.walk (λ i lt. c.in_ok-met.ensures.alike i (omega (arith, none)) lt)

pub earliest_at-requires-clause-found : goal.earliest_at-requires-clause-found
earliest_at-requires-clause-found c = some_then _ c.in_ok-met.met c.in-Some.found c.in-Some.is c.in_ok-met.ensures.found

pub earliest_at-requires-clause-until : goal.earliest_at-requires-clause-until
earliest_at-requires-clause-until c =
    (some_then (λ (f : Found). IsNext c.new-heaps.result.before.now c.new-heaps.result.after.now c.search.new.walk 0 0 f) c.in_ok-met.met c.in-Some.found c.in-Some.is c.in_ok-met.ensures.until).1

pub earliest_at-requires-clause-no_stale : goal.earliest_at-requires-clause-no_stale
earliest_at-requires-clause-no_stale c =
    some_then (λ (f : Found). IsNextStale c.new-heaps.result.before.now c.new-heaps.result.after.now c.args.stale.now c.search.new.walk 0 0 f) c.in_ok-met.met c.in-Some.found c.in-Some.is c.in_ok-met.ensures.no_stale

pub earliest_at-requires-clause-roots : goal.earliest_at-requires-clause-roots
earliest_at-requires-clause-roots c =
    of_equals (λ g h. length g.roots ≡ length h.roots) (sym c.new-heaps.ensures.before) (sym c.new-heaps.ensures.after)
    (ap length (sym c.roots-roots.ensures) ∙ c.if-roots.false ∙ ap length c.roots.ensures)

-- where nothing is found, the heaps show one graph and no path leads to a stale word
none_left : (c : goal.After-drop-walk-7) → let g = c.args.before.now in let h = c.args.after.now in
    SameGraph g h × ((p : List ℕ) (x z : ℕ) → LeadsToStale g h c.args.stale.now.roots.now c.args.stale.now.slots.now p x z → ⊥)
none_left c =
    let g : Heap = c.new-heaps.result.before.now in
    let h : Heap = c.new-heaps.result.after.now in
    let s : StaleWords = c.args.stale.now in
    let w : Walk = c.search.new.walk in
    let count : length g.roots ≡ length h.roots = of_equals (λ g h. length g.roots ≡ length h.roots) (sym c.new-heaps.ensures.before) (sym c.new-heaps.ensures.after)
    (ap length (sym c.roots-roots.ensures) ∙ c.if-roots.false ∙ ap length c.roots.ensures) in
    let links : LinksBetween g h w 0 0 (length w.before.items + 1) 0 = subst (λ (o : Option Found). IfNone o (LinksBetween g h w 0 0 (length w.before.items + 1) 0)) c.in-None.is c.in_ok-met.ensures.linked in
    let passes : PassesNoStale g h s w 0 0 (length w.before.items + 1) 0 =
    subst (λ (o : Option Found). IfNone o (PassesNoStale g h s w 0 0 (length w.before.items + 1) 0)) c.in-None.is c.in_ok-met.ensures.no_stale_left in
    of_equals (λ g h. SameGraph g h × ((p : List ℕ) (x z : ℕ) → LeadsToStale g h s.roots.now s.slots.now p x z → ⊥)) c.new-heaps.ensures.before c.new-heaps.ensures.after
    (nothing_left g h s c.in_ok-walk.walk w (before_valid c.new-heaps.result) (after_valid c.new-heaps.result) count c.requires c.in_ok-walk.ensures.none c.in_ok-met.ensures.walk c.in_ok-met.ensures.alike links passes)

pub returns-clause-same : goal.returns-clause-same
returns-clause-same c = (none_left c).0

pub returns-clause-no_stale : goal.returns-clause-no_stale
returns-clause-no_stale c = (none_left c).1
