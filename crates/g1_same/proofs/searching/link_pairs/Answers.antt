use Rattle.std.proofs.Common.{arith, ℕ, ◌≤◌, ◌+◌, length}
use Rattle.g1_words.specs.Heap.{Heap}
use Rattle.g1_same.specs.declared.walk.Walk.{Walk}
use Rattle.g1_same.specs.declared.walk.Found.{Found}
use Rattle.g1_same.specs.Walk.{HasGrown}
use Rattle.g1_same.specs.Behind.{IsFound, IsNext, IsNextStale, LinksBetween, PassesNoStale, looked_to}
use Rattle.g1_same.proofs.Adding.{few_pairs, pairs_fit, grown_same, grown_more}
use Rattle.g1_same.proofs.Steps.{none_then, some_then}
use Rattle.g1_same.proofs.Between.{between_none, between_kept, between_trans, between_less, alike_none, alike_more, later_row, later_way, never_same, row_within}
use Rattle.g1_same.proofs.Passing.{passes_none, passes_kept, passes_trans, passes_less}
use Rattle.g1_same.proofs.Held.{before_valid}
use Rattle.g1_same.proofs.searching.link_pairs.Goals as goal

pub loop-way-init : goal.loop-way-init
loop-way-init c = record {
  walk = c.requires.walk;
  grown = grown_same c.args.walk.now;
  alike = alike_none c.args.heaps.before.now c.args.heaps.after.now c.args.walk.now;
  linked = between_none c.args.heaps.before.now c.args.heaps.after.now c.args.walk.now c.args.first.from c.args.first.number;
  passed = passes_none c.args.heaps.before.now c.args.heaps.after.now c.args.stale.now c.args.walk.now c.args.first.from c.args.first.number;
  below = c.requires.below;
  some = c.requires.some;
  on = never_same c.args.first.from c.args.first.number;
}

pub loop-way-smaller : goal.loop-way-smaller
loop-way-smaller c =
    let few = few_pairs c.args.heaps.before.now c.args.heaps.after.now c.loop-way.walk (before_valid c.args.heaps) c.loop-way.invariant.walk in
    let lt : c.loop-way.way.from ≤ length c.loop-way.walk.before.items = omega (arith, c.loop-way-test.true, c.len.ensures, c.loop-way.walk.before.ok) in
    omega (arith, few, lt)

pub overflow_add-way : goal.overflow_add-way
overflow_add-way c =
    let few = pairs_fit c.args.heaps.before.now c.args.heaps.after.now c.loop-way.walk (before_valid c.args.heaps) c.loop-way.invariant.walk in
    omega (arith, few, c.loop-way-test.true, c.len.ensures, c.loop-way.walk.before.ok)

pub link_slots-requires-clause-pair : goal.link_slots-requires-clause-pair
link_slots-requires-clause-pair c = omega (arith, c.loop-way-test.true, c.len.ensures, c.loop-way.walk.before.ok)

pub loop-way-preserved : goal.loop-way-preserved
loop-way-preserved c =
    let g : Heap = c.args.heaps.before.now in
    let h : Heap = c.args.heaps.after.now in
    let w : Walk = c.loop-way.walk in
    let v : Walk = c.link_slots.new.walk in
    let f : ℕ = c.loop-way.way.from in
    let n : ℕ = c.loop-way.way.number in
    let le : f ≤ length w.before.items = omega (arith, c.loop-way-test.true, c.len.ensures, c.loop-way.walk.before.ok) in
    let grown : HasGrown w v = c.in_ok-found.ensures.grown in
    let l = none_then (LinksBetween g h v f n (f + 1) 0) c.in_ok-found.field-0 c.in_default.not-Some c.in_ok-found.ensures.linked in
    let left = none_then (PassesNoStale g h c.args.stale.now v f n (f + 1) 0) c.in_ok-found.field-0 c.in_default.not-Some c.in_ok-found.ensures.no_stale_left in
    record {
      walk = c.in_ok-found.ensures.walk;
      grown = grown_more c.args.walk.now w v c.loop-way.invariant.grown grown;
      alike = alike_more g h c.args.walk.now w v c.loop-way.invariant.alike c.in_ok-found.ensures.alike grown;
      linked = between_trans g h v c.args.first.from c.args.first.number f n (f + 1) 0
          (between_kept g h w v c.args.first.from c.args.first.number f n grown le c.loop-way.invariant.linked) l;
      passed = passes_trans g h c.args.stale.now v c.args.first.from c.args.first.number f n (f + 1) 0
          (passes_kept g h c.args.stale.now w v c.args.first.from c.args.first.number f n grown le c.loop-way.invariant.passed) left;
      below = c.in_ok-found.ensures.below;
      some = omega arith;
      on = later_row f n c.args.first.from c.args.first.number c.loop-way.invariant.on;
    }

pub returns-in-Some-clause-grown : goal.returns-in-Some-clause-grown
returns-in-Some-clause-grown c = grown_more c.args.walk.now c.loop-way.walk c.link_slots.new.walk c.loop-way.invariant.grown c.in_ok-found.ensures.grown

pub returns-in-Some-clause-alike : goal.returns-in-Some-clause-alike
returns-in-Some-clause-alike c =
    alike_more c.args.heaps.before.now c.args.heaps.after.now c.args.walk.now c.loop-way.walk c.link_slots.new.walk c.loop-way.invariant.alike c.in_ok-found.ensures.alike c.in_ok-found.ensures.grown

pub returns-in-Some-clause-found : goal.returns-in-Some-clause-found
returns-in-Some-clause-found c = some_then (λ (f : Found). IsFound c.args.heaps.before.now c.args.heaps.after.now c.args.stale.now c.link_slots.new.walk f)
    c.in_ok-found.field-0 c.in-Some.found c.in-Some.is c.in_ok-found.ensures.found

pub returns-in-Some-clause-until : goal.returns-in-Some-clause-until
returns-in-Some-clause-until c =
    let g : Heap = c.args.heaps.before.now in
    let h : Heap = c.args.heaps.after.now in
    let w : Walk = c.loop-way.walk in
    let v : Walk = c.link_slots.new.walk in
    let f : ℕ = c.loop-way.way.from in
    let n : ℕ = c.loop-way.way.number in
    let d : Found = c.in-Some.found in
    let le : f ≤ length w.before.items = omega (arith, c.loop-way-test.true, c.len.ensures, c.loop-way.walk.before.ok) in
    let u = some_then (λ (d : Found). IsNext g h v f n d) c.in_ok-found.field-0 d c.in-Some.is c.in_ok-found.ensures.until in (
      later_way d.place.way.from d.place.way.number f n c.args.first.from c.args.first.number u.0 c.loop-way.invariant.on,
      between_trans g h v c.args.first.from c.args.first.number f n d.place.way.from d.place.way.number
          (between_kept g h w v c.args.first.from c.args.first.number f n c.in_ok-found.ensures.grown le c.loop-way.invariant.linked) u.1,
    )

pub returns-clause-linked : goal.returns-clause-linked
returns-clause-linked c =
    between_less c.args.heaps.before.now c.args.heaps.after.now c.loop-way.walk c.args.first.from c.args.first.number c.loop-way.way.from c.loop-way.way.number
    (length c.loop-way.walk.before.items + 1) 0 c.loop-way.invariant.linked
    (row_within (length c.loop-way.walk.before.items) c.loop-way.way.from c.loop-way.way.number (omega (arith, c.loop-way-test.false, c.len.ensures, c.loop-way.walk.before.ok)))

pub returns-in-Some-clause-no_stale : goal.returns-in-Some-clause-no_stale
returns-in-Some-clause-no_stale c =
    let g : Heap = c.args.heaps.before.now in
    let h : Heap = c.args.heaps.after.now in
    let s = c.args.stale.now in
    let w : Walk = c.loop-way.walk in
    let v : Walk = c.link_slots.new.walk in
    let f : ℕ = c.loop-way.way.from in
    let n : ℕ = c.loop-way.way.number in
    let d : Found = c.in-Some.found in
    let le : f ≤ length w.before.items = omega (arith, c.loop-way-test.true, c.len.ensures, c.loop-way.walk.before.ok) in
    let u = some_then (λ (d : Found). IsNextStale g h s v f n d) c.in_ok-found.field-0 d c.in-Some.is c.in_ok-found.ensures.no_stale in
    passes_trans g h s v c.args.first.from c.args.first.number f n d.place.way.from (looked_to d.what d.place.way.number)
    (passes_kept g h s w v c.args.first.from c.args.first.number f n c.in_ok-found.ensures.grown le c.loop-way.invariant.passed) u

pub returns-clause-no_stale_left : goal.returns-clause-no_stale_left
returns-clause-no_stale_left c =
    passes_less c.args.heaps.before.now c.args.heaps.after.now c.args.stale.now c.loop-way.walk c.args.first.from c.args.first.number c.loop-way.way.from c.loop-way.way.number
    (length c.loop-way.walk.before.items + 1) 0 c.loop-way.invariant.passed
    (row_within (length c.loop-way.walk.before.items) c.loop-way.way.from c.loop-way.way.number (omega (arith, c.loop-way-test.false, c.len.ensures, c.loop-way.walk.before.ok)))
