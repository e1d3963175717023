use Rattle.std.proofs.Common.{arith, ap, refl, subst, sym, ℕ, ◌≤◌, ◌<◌, ◌∙◌, length, slice_index}
use Rattle.g1_words.specs.Heap.{Heap}
use Rattle.g1_words.specs.Valid.{IsReference}
use Rattle.g1_same.proofs.Heaps.{root_names}
use Rattle.g1_kept.specs.declared.pairs.Pairs.{Pairs}
use Rattle.g1_kept.specs.Lost.{Disagree, root}
use Rattle.g1_kept.specs.Pause.{IsLossIn}
use Rattle.g1_kept.specs.declared.lost.Lost.{Lost}
use Rattle.g1_kept.specs.declared.lost.Lost.TheVariants as lost
use Rattle.g1_kept.specs.Walk.{ArePaired, HasWords, PassesWords, StopsAtWords}
use Rattle.g1_kept.proofs.Growing.{roots_more}
use Rattle.g1_same.proofs.Steps.{none_then, some_then}
use Rattle.g1_kept.proofs.Search.{search_none, roots_on}
use Rattle.g1_same.proofs.Held.{after_valid, before_valid}
use Rattle.g1_kept.proofs.linking.link_roots.Goals as goal

pub link-requires-clause-x : goal.link-requires-clause-x
link-requires-clause-x c =
    let pause = c.args.pause.now in
    let lt : c.loop-number.number < length pause.heaps.before.now.roots = let k = ap length c.roots-old.ensures in omega (arith, k, c.loop-number-test.true) in
    subst (λ l. IsReference pause.heaps.before.now (slice_index l c.loop-number.number)) (sym c.roots-old.ensures) (root_names pause.heaps.before.now c.loop-number.number (before_valid c.args.pause.now.heaps) lt)

pub link-requires-clause-y : goal.link-requires-clause-y
link-requires-clause-y c =
    let pause = c.args.pause.now in
    let lt : c.loop-number.number < length pause.heaps.after.now.roots = let k = ap length c.roots-old.ensures in omega (arith, k, c.requires.roots, c.loop-number-test.true) in
    subst (λ l. IsReference pause.heaps.after.now (slice_index l c.loop-number.number)) (sym c.roots-new.ensures) (root_names pause.heaps.after.now c.loop-number.number (after_valid c.args.pause.now.heaps) lt)

pub link-requires-clause-found : goal.link-requires-clause-found
link-requires-clause-found c = λ a b ex ey of_set.
    let n : ℕ = c.loop-number.number in
    let lt : n < length c.args.pause.now.heaps.before.now.roots = let k = ap length c.roots-old.ensures in omega (arith, k, c.loop-number-test.true) in
    root n lt (omega (arith, lt, c.requires.roots)) (ap (λ l. slice_index l n) (sym c.roots-old.ensures) ∙ ex) (ap (λ l. slice_index l n) (sym c.roots-new.ensures) ∙ ey) of_set

pub loop-number-preserved : goal.loop-number-preserved
loop-number-preserved c =
    let pause = c.args.pause.now in
    let g : Heap = pause.heaps.before.now in
    let h : Heap = pause.heaps.after.now in
    let v : Pairs = c.link.new.pairs in
    let n : ℕ = c.loop-number.number in
    let l : ArePaired pause.set.now g v (slice_index c.roots-old.result.now n) (slice_index c.roots-new.result.now n) =
    none_then (ArePaired pause.set.now g v (slice_index c.roots-old.result.now n) (slice_index c.roots-new.result.now n)) c.in_ok-lost.field-0 c.in_default.not-Some c.in_ok-lost.ensures.paired in
    let l' : ArePaired pause.set.now g v (slice_index g.roots n) (slice_index h.roots n) =
    subst (λ q. ArePaired pause.set.now g v (slice_index q n) (slice_index h.roots n)) c.roots-old.ensures
    (subst (λ q. ArePaired pause.set.now g v (slice_index c.roots-old.result.now n) (slice_index q n)) c.roots-new.ensures l) in
    let w : Pairs = c.loop-number.pairs in
    let x : ℕ = slice_index c.roots-old.result.now n in
    let y : ℕ = slice_index c.roots-new.result.now n in
    let lt : n < length g.roots = let k = ap length c.roots-old.ensures in omega (arith, k, c.loop-number-test.true) in
    let at : HasWords pause.set.now g h w 0 n x y = (
      lt,
      omega (arith, lt, c.requires.roots),
      ap (λ l. slice_index l n) (sym c.roots-old.ensures),
      ap (λ l. slice_index l n) (sym c.roots-new.ensures),
    ) in
    let passed = none_then (PassesWords pause.fill pause.set.now g h w v x y) c.in_ok-lost.field-0 c.in_default.not-Some c.in_ok-lost.ensures.passed in
    record {
      walk = c.in_ok-lost.ensures.walk;
      search = passed 0 n c.loop-number.invariant.search at;
      paired = roots_more pause.set.now g h c.loop-number.pairs v c.in_ok-lost.ensures.grown n c.loop-number.invariant.paired l';
    }

pub loop-number-smaller : goal.loop-number-smaller
loop-number-smaller c = omega (arith, c.loop-number-test.true)

pub loop-number-init : goal.loop-number-init
loop-number-init c =
    let pause = c.args.pause.now in
    record {
      walk = c.requires.walk;
      paired = λ n lt. absurd (omega (arith, lt));
      search = search_none pause.fill pause.set.now pause.heaps.before.now pause.heaps.after.now c.args.pairs.now.before.items c.args.pairs.now.after.items (ap length c.requires.none) c.requires.walk.pairs;
    }

pub returns-in-Some-clause-first : goal.returns-in-Some-clause-first
returns-in-Some-clause-first c =
    let pause = c.args.pause.now in
    let set = pause.set.now in
    let g : Heap = pause.heaps.before.now in
    let h : Heap = pause.heaps.after.now in
    let w : Pairs = c.loop-number.pairs in
    let n : ℕ = c.loop-number.number in
    let x : ℕ = slice_index c.roots-old.result.now n in
    let y : ℕ = slice_index c.roots-new.result.now n in
    let lt : n < length g.roots = let k = ap length c.roots-old.ensures in omega (arith, k, c.loop-number-test.true) in
    let at : HasWords set g h w 0 n x y = (
      lt,
      omega (arith, lt, c.requires.roots),
      ap (λ l. slice_index l n) (sym c.roots-old.ensures),
      ap (λ l. slice_index l n) (sym c.roots-new.ensures),
    ) in
    let stops = some_then (λ (l : Lost). StopsAtWords pause.fill set g h w x y (lost.Root n) l) c.in_ok-lost.field-0 c.in-Some.lost c.in-Some.is c.in_ok-lost.ensures.first in
    stops 0 n c.loop-number.invariant.search at (λ clash. (refl, refl, x, y, at, clash))

pub returns-clause-searched : goal.returns-clause-searched
returns-clause-searched c =
    let pause = c.args.pause.now in
    let w : Pairs = c.loop-number.pairs in
    let all : length pause.heaps.before.now.roots ≤ c.loop-number.number = let k = ap length c.roots-old.ensures in omega (arith, k, c.loop-number-test.false) in
    roots_on pause.fill pause.set.now pause.heaps.before.now pause.heaps.after.now w.before.items w.after.items c.loop-number.number all c.loop-number.invariant.search

pub bounds-new-number : goal.bounds-new-number
bounds-new-number c =
    let old = ap length c.roots-old.ensures in
    let new = ap length c.roots-new.ensures in
    omega (arith, old, new, c.requires.roots, c.loop-number-test.true)

pub link-requires-clause-walk : goal.link-requires-clause-walk
link-requires-clause-walk c = c.loop-number.invariant.walk

pub link-requires-clause-other : goal.link-requires-clause-other
link-requires-clause-other c = λ differ.
    let pause = c.args.pause.now in
    let g : Heap = pause.heaps.before.now in
    let h : Heap = pause.heaps.after.now in
    let n : ℕ = c.loop-number.number in
    let lt : n < length g.roots = let k = ap length c.roots-old.ensures in omega (arith, k, c.loop-number-test.true) in (
      lt,
      omega (arith, lt, c.requires.roots),
      subst (λ l. Disagree pause.set.now g h (slice_index l n) (slice_index h.roots n)) c.roots-old.ensures
          (subst (λ l. Disagree pause.set.now g h (slice_index c.roots-old.result.now n) (slice_index l n)) c.roots-new.ensures differ),
    )

pub returns-in-Some-clause-walk : goal.returns-in-Some-clause-walk
returns-in-Some-clause-walk c = c.in_ok-lost.ensures.walk

pub returns-in-Some-clause-lost : goal.returns-in-Some-clause-lost
returns-in-Some-clause-lost c = some_then (λ (l : Lost). IsLossIn c.args.pause.now l) c.in_ok-lost.field-0 c.in-Some.lost c.in-Some.is c.in_ok-lost.ensures.lost

pub bounds-old-number : goal.bounds-old-number
bounds-old-number c = c.loop-number-test.true

pub link-requires-clause-sizes : goal.link-requires-clause-sizes
link-requires-clause-sizes c = c.requires.sizes

pub offset_bounds-old-number : goal.offset_bounds-old-number
offset_bounds-old-number c =
    let roots = ap length c.roots-old.ensures in
    record { fits = omega (arith, c.loop-number-test.true, roots, (before_valid c.args.pause.now.heaps).root_count) }

pub offset_bounds-new-number : goal.offset_bounds-new-number
offset_bounds-new-number c =
    let roots = ap length c.roots-old.ensures in
    record { fits = omega (arith, c.loop-number-test.true, roots, (before_valid c.args.pause.now.heaps).root_count) }

pub returns-in-Some-clause-paired : goal.returns-in-Some-clause-paired
returns-in-Some-clause-paired c = tt

pub returns-in-Some-clause-searched : goal.returns-in-Some-clause-searched
returns-in-Some-clause-searched c = tt

pub returns-clause-walk : goal.returns-clause-walk
returns-clause-walk c = c.loop-number.invariant.walk

pub returns-clause-lost : goal.returns-clause-lost
returns-clause-lost c = tt

pub returns-clause-first : goal.returns-clause-first
returns-clause-first c = tt

pub returns-clause-paired : goal.returns-clause-paired
returns-clause-paired c =
    let roots = ap length c.roots-old.ensures in
    λ n lt. c.loop-number.invariant.paired n (omega (arith, lt, roots, c.loop-number-test.false))
