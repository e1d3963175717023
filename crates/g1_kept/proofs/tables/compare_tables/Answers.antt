use Rattle.std.proofs.Common.{ℕ, ap, arith, sym, ◌∙◌}
use Rattle.std.proofs.lemmas.Bool.{false≢true}
use borrow.Author.Count.{below_more}
use Rattle.g1_words.specs.Heap.{Heap}
use Rattle.g1_kept.specs.declared.lost.Lost.{Lost}
use Rattle.g1_kept.specs.Keeps.{KeepsRegion}
use Rattle.g1_kept.specs.Order.{KeepsBefore}
use Rattle.g1_kept.specs.Pause.{IsLossIn, IsEarliestIn}
use Rattle.g1_same.proofs.Steps.{none_then, some_then}
use Rattle.g1_kept.proofs.tables.compare_tables.Goals as goal

pub returns-then-not-have_same_sizes-clause-none : goal.returns-then-not-have_same_sizes-clause-none
returns-then-not-have_same_sizes-clause-none c = tt

pub returns-then-not-have_same_sizes-clause-earliest : goal.returns-then-not-have_same_sizes-clause-earliest
returns-then-not-have_same_sizes-clause-earliest c = tt

pub returns-then-not-have_same_sizes-clause-some : goal.returns-then-not-have_same_sizes-clause-some
returns-then-not-have_same_sizes-clause-some c = λ same. false≢true (sym c.if-not-have_same_sizes.true ∙ c.have_same_sizes.ensures.1 same)

pub compare_entries-requires-clause-sizes : goal.compare_entries-requires-clause-sizes
compare_entries-requires-clause-sizes c = c.have_same_sizes.ensures.0 c.if-not-have_same_sizes.false

pub compare_entries-requires-clause-region : goal.compare_entries-requires-clause-region
compare_entries-requires-clause-region c = let e = ap (λ s. s.n) c.geometry.ensures.same in omega (arith, c.loop-number-test.true, c.regions-number-end.ensures.value, e)

pub loop-number-smaller : goal.loop-number-smaller
loop-number-smaller c = omega (arith, c.loop-number-test.true)

pub loop-number-init : goal.loop-number-init
loop-number-init c = λ r lt. absurd (omega (arith, lt))

pub loop-number-preserved : goal.loop-number-preserved
loop-number-preserved c =
    let pause = c.args.pause.now in
    let g : Heap = pause.heaps.before.now in
    let h : Heap = pause.heaps.after.now in
    let n : ℕ = c.loop-number.number in
    let here = none_then (KeepsRegion pause.fill pause.set.now g h n) c.compare_entries.result c.in_default.not-Some c.compare_entries.ensures.none in
    below_more (KeepsRegion pause.fill pause.set.now g h) n c.loop-number.invariant here

pub returns-clause-none : goal.returns-clause-none
returns-clause-none c =
    let e = ap (λ s. s.n) c.geometry.ensures.same in
    record {
      geometry = c.have_same_sizes.ensures.0 c.if-not-have_same_sizes.false;
      regions = λ r lt. c.loop-number.invariant r (omega (arith, lt, c.loop-number-test.false, c.regions-number-end.ensures.value, e));
    }

pub returns-clause-some : goal.returns-clause-some
returns-clause-some c = tt

pub returns-clause-earliest : goal.returns-clause-earliest
returns-clause-earliest c = tt

pub returns-in-Some-clause-none : goal.returns-in-Some-clause-none
returns-in-Some-clause-none c = tt

pub returns-in-Some-clause-some : goal.returns-in-Some-clause-some
returns-in-Some-clause-some c = some_then (λ (l : Lost). IsLossIn c.args.pause.now l) c.compare_entries.result c.in-Some.lost c.in-Some.is c.compare_entries.ensures.some

pub returns-in-Some-clause-earliest : goal.returns-in-Some-clause-earliest
returns-in-Some-clause-earliest c =
    let p = c.args.pause.now in
    some_then (λ (l : Lost). KeepsBefore p.fill p.set.now p.heaps.before.now p.heaps.after.now c.loop-number.number → IsEarliestIn p l) c.compare_entries.result c.in-Some.lost c.in-Some.is
    c.compare_entries.ensures.earliest (c.have_same_sizes.ensures.0 c.if-not-have_same_sizes.false, c.loop-number.invariant)
