use Rattle.std.proofs.Common.{arith, ap, subst, sym, inl, inr, ℕ, List, ◌≡◌, ◌<◌, ◌+◌, length, slice_index}
use Rattle.g1_words.specs.Heap.{Heap}
use Rattle.g1_words.specs.Valid.{IsReference}
use Rattle.g1_same.specs.declared.pair.Pair.{Pair}
use Rattle.g1_same.specs.declared.walk.Walk.{Walk}
use Rattle.g1_same.specs.declared.difference.How.{How}
use Rattle.g1_same.specs.Walk.{IsEarlier, IsLinked, IsWay, IsBelow, IsSeen, IsLeast}
use Rattle.g1_same.specs.Behind.{HasNoneAt, IsFound, IsNext, IsNextStale}
use Rattle.g1_same.proofs.Heaps.{root_names}
use Rattle.g1_same.proofs.Adding.{grown_same, grown_more}
use Rattle.g1_same.proofs.Steps.{none_then, some_then}
use Rattle.g1_same.proofs.Between.{between_none, between_step, between_row, between_kept, alike_none, alike_more, not_before}
use Rattle.g1_same.proofs.Passing.{passes_none, passes_step, passes_row, passes_kept, plain_root}
use Rattle.g1_same.proofs.Held.{before_valid, after_valid}
use Rattle.g1_same.proofs.searching.link_roots.Goals as goal

earlier_root : (p q n : ℕ) → IsEarlier p q 0 n → IsEarlier p q 1 0
earlier_root p q n (inl lt) = inl (omega (arith, lt))
earlier_root p q n (inr e) = inl (omega (arith, e.0))

-- roots of both heaps stand at a way
root_way : (p : Pair) (w : Walk) (n : ℕ) {xs ys : List ℕ} → xs ≡ p.before.now.roots → ys ≡ p.after.now.roots → n < length xs → n < length ys
    → IsWay p.before.now p.after.now w.before.items w.after.items 0 n (slice_index xs n) (slice_index ys n)
root_way p w n same alike old new = (
  subst (λ l. n < length l) same old,
  subst (λ l. n < length l) alike new,
  ap (λ l. slice_index l n) (sym same),
  ap (λ l. slice_index l n) (sym alike),
)

pub link-requires-clause-x : goal.link-requires-clause-x
link-requires-clause-x c =
    let lt : c.loop-number.number < length c.args.heaps.before.now.roots = let k = ap length c.roots-roots.ensures in omega (arith, k, c.loop-number-test.true, c.min-end.ensures) in
    subst (λ l. IsReference c.args.heaps.before.now (slice_index l c.loop-number.number)) (sym c.roots-roots.ensures) (root_names c.args.heaps.before.now c.loop-number.number (before_valid c.args.heaps) lt)

pub link-requires-clause-y : goal.link-requires-clause-y
link-requires-clause-y c =
    let lt : c.loop-number.number < length c.args.heaps.after.now.roots = let k = ap length c.roots-others.ensures in omega (arith, k, c.loop-number-test.true, c.min-end.ensures) in
    subst (λ l. IsReference c.args.heaps.after.now (slice_index l c.loop-number.number)) (sym c.roots-others.ensures) (root_names c.args.heaps.after.now c.loop-number.number (after_valid c.args.heaps) lt)

pub link-requires-clause-walk : goal.link-requires-clause-walk
link-requires-clause-walk c = c.loop-number.invariant.walk

pub link-requires-clause-below : goal.link-requires-clause-below
link-requires-clause-below c = c.loop-number.invariant.below

pub link-requires-clause-backward : goal.link-requires-clause-backward
link-requires-clause-backward c = omega arith

pub link-requires-clause-way : goal.link-requires-clause-way
link-requires-clause-way c =
    let n : ℕ = c.loop-number.number in
    root_way c.args.heaps c.loop-number.walk n c.roots-roots.ensures c.roots-others.ensures (omega (arith, c.loop-number-test.true, c.min-end.ensures)) (omega (arith, c.loop-number-test.true, c.min-end.ensures))

pub loop-number-preserved : goal.loop-number-preserved
loop-number-preserved c =
    let g : Heap = c.args.heaps.before.now in
    let h : Heap = c.args.heaps.after.now in
    let w : Walk = c.loop-number.walk in
    let v : Walk = c.link.new.walk in
    let n : ℕ = c.loop-number.number in
    let x : ℕ = slice_index c.roots-roots.result.now n in
    let y : ℕ = slice_index c.roots-others.result.now n in
    let way : IsWay g h v.before.items v.after.items 0 n x y = root_way c.args.heaps v n c.roots-roots.ensures c.roots-others.ensures (omega (arith, c.loop-number-test.true, c.min-end.ensures)) (omega (arith, c.loop-number-test.true, c.min-end.ensures)) in
    let l : IsLinked v 0 n x y = none_then (IsLinked v 0 n x y) c.in_ok-how.field-0 c.in_default-2.not-Some c.in_ok-how.ensures.linked in
    let grown = c.in_ok-how.ensures.grown in
    record {
      walk = c.in_ok-how.ensures.walk;
      grown = grown_more c.args.walk.now w v c.loop-number.invariant.grown grown;
      alike = alike_more g h c.args.walk.now w v c.loop-number.invariant.alike c.in_ok-how.ensures.alike grown;
      linked = between_step g h v 0 c.args.first 0 n x y (between_kept g h w v 0 c.args.first 0 n grown (omega arith) c.loop-number.invariant.linked) way l;
      passed = passes_step g h c.args.stale.now v 0 c.args.first 0 n x y
          (passes_kept g h c.args.stale.now w v 0 c.args.first 0 n grown (omega arith) c.loop-number.invariant.passed) way
          (plain_root c.args.stale.now v n y (none_then (HasNoneAt c.args.stale.now.roots.now n y) c.stale_word.result c.in_default.not-Some c.stale_word.ensures.none));
      below = c.in_ok-how.ensures.below;
      on = omega (arith, c.loop-number.invariant.on);
    }

pub loop-number-init : goal.loop-number-init
loop-number-init c = record {
  walk = c.requires.walk;
  grown = grown_same c.args.walk.now;
  alike = alike_none c.args.heaps.before.now c.args.heaps.after.now c.args.walk.now;
  linked = between_none c.args.heaps.before.now c.args.heaps.after.now c.args.walk.now 0 c.args.first;
  passed = passes_none c.args.heaps.before.now c.args.heaps.after.now c.args.stale.now c.args.walk.now 0 c.args.first;
  below = c.requires.below;
  on = omega arith;
}

pub loop-number-smaller : goal.loop-number-smaller
loop-number-smaller c = omega (arith, c.loop-number-test.true)

pub offset_bounds-roots-number : goal.offset_bounds-roots-number
offset_bounds-roots-number c =
    let roots = ap length c.roots-roots.ensures in
    record { fits = omega (arith, c.loop-number-test.true, c.min-end.ensures, roots, (before_valid c.args.heaps).root_count) }

pub offset_bounds-others-number : goal.offset_bounds-others-number
offset_bounds-others-number c =
    let roots = ap length c.roots-roots.ensures in
    record { fits = omega (arith, c.loop-number-test.true, c.min-end.ensures, roots, (before_valid c.args.heaps).root_count) }

pub overflow_cast-way : goal.overflow_cast-way
overflow_cast-way c =
    let roots = ap length c.roots-roots.ensures in
    record { fits = omega (arith, c.loop-number-test.true, c.min-end.ensures, roots, (before_valid c.args.heaps).root_count) }

pub bounds-roots-number : goal.bounds-roots-number
bounds-roots-number c = omega (arith, c.loop-number-test.true, c.min-end.ensures)

pub bounds-others-number : goal.bounds-others-number
bounds-others-number c = omega (arith, c.loop-number-test.true, c.min-end.ensures)

pub returns-in-Some-2-clause-walk : goal.returns-in-Some-2-clause-walk
returns-in-Some-2-clause-walk c = c.in_ok-how.ensures.walk

pub returns-in-Some-clause-walk : goal.returns-in-Some-clause-walk
returns-in-Some-clause-walk c = c.loop-number.invariant.walk

pub returns-in-Some-2-clause-grown : goal.returns-in-Some-2-clause-grown
returns-in-Some-2-clause-grown c = grown_more c.args.walk.now c.loop-number.walk c.link.new.walk c.loop-number.invariant.grown c.in_ok-how.ensures.grown

pub returns-in-Some-clause-grown : goal.returns-in-Some-clause-grown
returns-in-Some-clause-grown c = c.loop-number.invariant.grown

pub returns-in-Some-2-clause-alike : goal.returns-in-Some-2-clause-alike
returns-in-Some-2-clause-alike c =
    alike_more c.args.heaps.before.now c.args.heaps.after.now c.args.walk.now c.loop-number.walk c.link.new.walk c.loop-number.invariant.alike c.in_ok-how.ensures.alike c.in_ok-how.ensures.grown

pub returns-in-Some-clause-alike : goal.returns-in-Some-clause-alike
returns-in-Some-clause-alike c = c.loop-number.invariant.alike

pub returns-in-Some-2-clause-below : goal.returns-in-Some-2-clause-below
returns-in-Some-2-clause-below c = λ i lt. earlier_root _ _ (c.loop-number.number + 1) (c.in_ok-how.ensures.below i lt)

pub returns-in-Some-clause-below : goal.returns-in-Some-clause-below
returns-in-Some-clause-below c = λ i lt. earlier_root _ _ c.loop-number.number (c.loop-number.invariant.below i lt)

pub returns-in-Some-2-clause-until : goal.returns-in-Some-2-clause-until
returns-in-Some-2-clause-until c =
    subst (IsNext c.args.heaps.before.now c.args.heaps.after.now c.link.new.walk 0 c.args.first) (sym c.found_at-in-Some-2.ensures) (
      not_before 0 c.args.first c.loop-number.number c.loop-number.invariant.on,
      between_kept c.args.heaps.before.now c.args.heaps.after.now c.loop-number.walk c.link.new.walk 0 c.args.first 0 c.loop-number.number c.in_ok-how.ensures.grown (omega arith) c.loop-number.invariant.linked,
    )

pub returns-in-Some-clause-until : goal.returns-in-Some-clause-until
returns-in-Some-clause-until c =
    subst (IsNext c.args.heaps.before.now c.args.heaps.after.now c.loop-number.walk 0 c.args.first) (sym c.found_at.ensures)
    (not_before 0 c.args.first c.loop-number.number c.loop-number.invariant.on, c.loop-number.invariant.linked)

pub returns-clause-walk : goal.returns-clause-walk
returns-clause-walk c = c.loop-number.invariant.walk

pub returns-clause-grown : goal.returns-clause-grown
returns-clause-grown c = c.loop-number.invariant.grown

pub returns-clause-alike : goal.returns-clause-alike
returns-clause-alike c = c.loop-number.invariant.alike

pub returns-clause-below : goal.returns-clause-below
returns-clause-below c = λ i lt. earlier_root _ _ c.loop-number.number (c.loop-number.invariant.below i lt)

pub returns-clause-linked : goal.returns-clause-linked
returns-clause-linked c =
    let roots = ap length c.roots-roots.ensures in
    let others = ap length c.roots-others.ensures in
    between_row c.args.heaps.before.now c.args.heaps.after.now c.loop-number.walk 0 c.args.first 0 c.loop-number.number c.loop-number.invariant.linked
    (λ j x y way. omega (arith, way.0, way.1, c.loop-number-test.false, c.min-end.ensures, roots, others))

pub returns-in-Some-clause-found : goal.returns-in-Some-clause-found
returns-in-Some-clause-found c =
    let g : Heap = c.args.heaps.before.now in
    let h : Heap = c.args.heaps.after.now in
    let n : ℕ = c.loop-number.number in
    subst (IsFound g h c.args.stale.now c.loop-number.walk) (sym c.found_at.ensures) (record {
      way = root_way c.args.heaps c.loop-number.walk n c.roots-roots.ensures c.roots-others.ensures (omega (arith, c.loop-number-test.true, c.min-end.ensures)) (omega (arith, c.loop-number-test.true, c.min-end.ensures));
      below = c.loop-number.invariant.below;
      differs = (c.in-Some.ensures.there, c.in-Some.ensures.null);
    })

pub returns-in-Some-2-clause-found : goal.returns-in-Some-2-clause-found
returns-in-Some-2-clause-found c =
    let g : Heap = c.args.heaps.before.now in
    let h : Heap = c.args.heaps.after.now in
    let n : ℕ = c.loop-number.number in
    let x : ℕ = slice_index c.roots-roots.result.now n in
    let y : ℕ = slice_index c.roots-others.result.now n in
    let v : Walk = c.link.new.walk in
    let k = some_then (λ (how : How). IsSeen g h v how x y × IsBelow v 0 n × IsLeast g h v how x y) c.in_ok-how.field-0 c.in-Some-2.how c.in-Some-2.is c.in_ok-how.ensures.clash in
    subst (IsFound g h c.args.stale.now v) (sym c.found_at-in-Some-2.ensures) (record {
      way = root_way c.args.heaps v n c.roots-roots.ensures c.roots-others.ensures (omega (arith, c.loop-number-test.true, c.min-end.ensures)) (omega (arith, c.loop-number-test.true, c.min-end.ensures));
      below = k.1;
      differs = (k.0, k.2);
    })

pub returns-in-Some-clause-no_stale : goal.returns-in-Some-clause-no_stale
returns-in-Some-clause-no_stale c =
    subst (IsNextStale c.args.heaps.before.now c.args.heaps.after.now c.args.stale.now c.loop-number.walk 0 c.args.first) (sym c.found_at.ensures) c.loop-number.invariant.passed

pub returns-in-Some-2-clause-no_stale : goal.returns-in-Some-2-clause-no_stale
returns-in-Some-2-clause-no_stale c =
    let g : Heap = c.args.heaps.before.now in
    let h : Heap = c.args.heaps.after.now in
    let w : Walk = c.loop-number.walk in
    let v : Walk = c.link.new.walk in
    let n : ℕ = c.loop-number.number in
    let x : ℕ = slice_index c.roots-roots.result.now n in
    let y : ℕ = slice_index c.roots-others.result.now n in
    let way : IsWay g h v.before.items v.after.items 0 n x y = root_way c.args.heaps v n c.roots-roots.ensures c.roots-others.ensures (omega (arith, c.loop-number-test.true, c.min-end.ensures)) (omega (arith, c.loop-number-test.true, c.min-end.ensures)) in
    subst (IsNextStale g h c.args.stale.now v 0 c.args.first) (sym c.found_at-in-Some-2.ensures) (
    passes_step g h c.args.stale.now v 0 c.args.first 0 n x y
    (passes_kept g h c.args.stale.now w v 0 c.args.first 0 n c.in_ok-how.ensures.grown (omega arith) c.loop-number.invariant.passed) way
    (plain_root c.args.stale.now v n y (none_then (HasNoneAt c.args.stale.now.roots.now n y) c.stale_word.result c.in_default.not-Some c.stale_word.ensures.none))
    )

pub returns-clause-no_stale_left : goal.returns-clause-no_stale_left
returns-clause-no_stale_left c =
    let roots = ap length c.roots-roots.ensures in
    let others = ap length c.roots-others.ensures in
    passes_row c.args.heaps.before.now c.args.heaps.after.now c.args.stale.now c.loop-number.walk 0 c.args.first 0 c.loop-number.number c.loop-number.invariant.passed
    (λ j x y way. omega (arith, way.0, way.1, c.loop-number-test.false, c.min-end.ensures, roots, others))
