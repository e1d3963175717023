use Rattle.g1_kept.specs.Pause.{IsLossIn}
use Rattle.std.proofs.Common.{arith, subst, sym, suc, ℕ, List, ◌≡◌, ◌<◌, ◌≤◌, length, slice_index, Contains}
use Rattle.std.proofs.lemmas.List.{get_or_read}
use Rattle.g1_words.specs.Heap.{Heap, object_at, objects}
use Rattle.g1_kept.specs.declared.pairs.Pairs.{Pairs}
use Rattle.g1_kept.specs.Lost.{Match, outside}
use Rattle.g1_kept.specs.declared.lost.Lost.{Lost}
use Rattle.g1_kept.specs.Walk.{IsCompared, PassesObjects, StopsAtObjects, Searches}
use Rattle.g1_kept.proofs.Growing.{grown_same, grown_more, first_more}
use Rattle.g1_same.proofs.Steps.{none_then, some_then}
use Rattle.g1_kept.proofs.Outside.{along_start, along_next, along_end, at_start, start_turn}
use Rattle.g1_kept.proofs.Regions.{start_in, start_outside, start_stands, region_compared}
use Rattle.g1_kept.proofs.Steps.{as_many_words}
use Rattle.g1_same.proofs.Held.{after_valid, before_valid}
use Rattle.g1_kept.proofs.keeping.compare_region.Goals as goal

pub compare_pair-requires-clause-sizes : goal.compare_pair-requires-clause-sizes
compare_pair-requires-clause-sizes c =
    let pause = c.args.pause.now in
    as_many_words pause.fill pause.set.now pause.heaps.before.now pause.heaps.after.now (before_valid c.args.pause.now.heaps) (after_valid c.args.pause.now.heaps) c.requires.table

pub compare_pair-requires-clause-pair : goal.compare_pair-requires-clause-pair
compare_pair-requires-clause-pair c =
    let pause = c.args.pause.now in
    let g : Heap = pause.heaps.before.now in
    let h : Heap = pause.heaps.after.now in
    let starts : List ℕ = c.in-Ok.starts.items in
    let i : ℕ = c.loop-place.place in
    let lt : i < length starts = omega (arith, c.loop-place-test.true, c.len-place-end.ensures, c.in-Ok.starts.ok) in
    let at : c.index-at.result.now ≡ slice_index starts i = get_or_read starts i c.index-at.result.now lt c.index-at.ensures 0 in
    record {
      before = subst (λ z. Contains (objects g) (object_at g z)) (sym at)
          (start_in pause.fill pause.set.now g h (before_valid c.args.pause.now.heaps) (after_valid c.args.pause.now.heaps) c.requires.table c.args.region
          c.requires.region c.requires.outside c.requires.used c.requires.in_use starts c.in-Ok.ensures.ok i lt);
      after = subst (λ z. Contains (objects h) (object_at h z)) (sym at)
          (start_stands pause.fill pause.set.now g h (before_valid c.args.pause.now.heaps) (after_valid c.args.pause.now.heaps) c.requires.table c.args.region c.requires.region c.requires.outside
          c.requires.used c.requires.in_use starts c.in-Ok.ensures.ok c.loop-place.pairs i lt c.loop-place.invariant.compared);
      matched = subst (λ z. Match pause.set.now g h z z) (sym at)
          (outside (start_outside pause.fill pause.set.now g h (before_valid c.args.pause.now.heaps) (after_valid c.args.pause.now.heaps) c.requires.table c.args.region c.requires.region c.requires.outside
          c.requires.used c.requires.in_use starts c.in-Ok.ensures.ok i lt));
    }

pub loop-place-preserved : goal.loop-place-preserved
loop-place-preserved c =
    let pause = c.args.pause.now in
    let g : Heap = pause.heaps.before.now in
    let h : Heap = pause.heaps.after.now in
    let starts : List ℕ = c.in-Ok.starts.items in
    let i : ℕ = c.loop-place.place in
    let v : Pairs = c.compare_pair.new.pairs in
    let a : ℕ = c.index-at.result.now in
    let lt : i < length starts = omega (arith, c.loop-place-test.true, c.len-place-end.ensures, c.in-Ok.starts.ok) in
    let at : a ≡ slice_index starts i = get_or_read starts i a lt c.index-at.ensures 0 in
    let one : IsCompared pause.set.now g h v a a = none_then (IsCompared pause.set.now g h v a a) c.in_ok-lost.field-0 c.in_default.not-Some c.in_ok-lost.ensures.compared in
    let w : Pairs = c.loop-place.pairs in
    let passed = none_then (PassesObjects pause.fill pause.set.now g h w v a a 0) c.in_ok-lost.field-0 c.in_default.not-Some c.in_ok-lost.ensures.passed in
    let s = at_start pause.fill pause.set.now g h (before_valid c.args.pause.now.heaps) (after_valid c.args.pause.now.heaps) c.requires.table c.args.region c.requires.region c.requires.outside
    c.requires.used c.requires.in_use starts c.in-Ok.ensures.ok w i c.loop-place.invariant.along lt a at in
    let turn = start_turn pause.fill pause.set.now g h (before_valid c.args.pause.now.heaps) (after_valid c.args.pause.now.heaps) c.requires.table c.args.region c.requires.region c.requires.outside
    c.requires.used c.requires.in_use starts c.in-Ok.ensures.ok w i lt a at in
    record {
      walk = c.in_ok-lost.ensures.walk;
      along = along_next pause.fill pause.set.now g h (before_valid c.args.pause.now.heaps) (after_valid c.args.pause.now.heaps) c.requires.table c.args.region c.requires.region c.requires.outside
          c.requires.used c.requires.in_use starts c.in-Ok.ensures.ok w i c.loop-place.invariant.along v lt
          (subst (λ z. Searches pause.fill pause.set.now g h v (suc (suc z)) 0) at (passed a s turn));
      grown = grown_more c.args.pairs.now c.loop-place.pairs v c.loop-place.invariant.grown c.in_ok-lost.ensures.grown;
      compared = first_more pause.set.now g h c.loop-place.pairs v c.in_ok-lost.ensures.grown starts i c.loop-place.invariant.compared (subst (λ z. IsCompared pause.set.now g h v z z) at one);
    }

pub returns-in-Some-clause-grown : goal.returns-in-Some-clause-grown
returns-in-Some-clause-grown c = grown_more c.args.pairs.now c.loop-place.pairs c.compare_pair.new.pairs c.loop-place.invariant.grown c.in_ok-lost.ensures.grown

pub returns-clause-compared : goal.returns-clause-compared
returns-clause-compared c =
    let pause = c.args.pause.now in
    let g : Heap = pause.heaps.before.now in
    let h : Heap = pause.heaps.after.now in
    let starts : List ℕ = c.in-Ok.starts.items in
    region_compared pause.fill pause.set.now g h (before_valid c.args.pause.now.heaps) (after_valid c.args.pause.now.heaps) c.requires.table c.args.region c.requires.region c.requires.outside
    c.requires.used c.requires.in_use starts c.in-Ok.ensures.ok c.loop-place.pairs
    (λ i p. c.loop-place.invariant.compared i (omega (arith, p, c.loop-place-test.false, c.len-place-end.ensures, c.in-Ok.starts.ok)))

pub loop-place-smaller : goal.loop-place-smaller
loop-place-smaller c = omega (arith, c.loop-place-test.true)

pub loop-place-init : goal.loop-place-init
loop-place-init c =
    let pause = c.args.pause.now in
    let g : Heap = pause.heaps.before.now in
    let h : Heap = pause.heaps.after.now in
    let starts : List ℕ = c.in-Ok.starts.items in
    record {
      walk = c.requires.walk;
      grown = grown_same c.args.pairs.now;
      compared = λ i lt. absurd (omega (arith, lt));
      along = along_start pause.fill pause.set.now g h (before_valid c.args.pause.now.heaps) (after_valid c.args.pause.now.heaps) c.requires.table c.args.region c.requires.region c.requires.outside
          c.requires.used c.requires.in_use starts c.in-Ok.ensures.ok c.args.pairs.now c.requires.search;
    }

pub returns-in-Some-clause-first : goal.returns-in-Some-clause-first
returns-in-Some-clause-first c =
    let pause = c.args.pause.now in
    let g : Heap = pause.heaps.before.now in
    let h : Heap = pause.heaps.after.now in
    let starts : List ℕ = c.in-Ok.starts.items in
    let i : ℕ = c.loop-place.place in
    let w : Pairs = c.loop-place.pairs in
    let a : ℕ = c.index-at.result.now in
    let lt : i < length starts = omega (arith, c.loop-place-test.true, c.len-place-end.ensures, c.in-Ok.starts.ok) in
    let at : a ≡ slice_index starts i = get_or_read starts i a lt c.index-at.ensures 0 in
    let stops = some_then (λ (l : Lost). StopsAtObjects pause.fill pause.set.now g h w a a 0 l) c.in_ok-lost.field-0 c.in-Some.lost c.in-Some.is c.in_ok-lost.ensures.first in
    let s = at_start pause.fill pause.set.now g h (before_valid c.args.pause.now.heaps) (after_valid c.args.pause.now.heaps) c.requires.table c.args.region c.requires.region c.requires.outside
    c.requires.used c.requires.in_use starts c.in-Ok.ensures.ok w i c.loop-place.invariant.along lt a at in
    stops a s (start_turn pause.fill pause.set.now g h (before_valid c.args.pause.now.heaps) (after_valid c.args.pause.now.heaps) c.requires.table c.args.region c.requires.region c.requires.outside
    c.requires.used c.requires.in_use starts c.in-Ok.ensures.ok w i lt a at)

pub returns-clause-searched : goal.returns-clause-searched
returns-clause-searched c =
    let pause = c.args.pause.now in
    let g : Heap = pause.heaps.before.now in
    let h : Heap = pause.heaps.after.now in
    let starts : List ℕ = c.in-Ok.starts.items in
    let all : length starts ≤ c.loop-place.place = omega (arith, c.loop-place-test.false, c.len-place-end.ensures, c.in-Ok.starts.ok) in
    along_end pause.fill pause.set.now g h (before_valid c.args.pause.now.heaps) (after_valid c.args.pause.now.heaps) c.requires.table c.args.region c.requires.region c.requires.outside
    c.requires.used c.requires.in_use starts c.in-Ok.ensures.ok c.loop-place.pairs c.loop-place.place c.loop-place.invariant.along all

pub compare_pair-requires-clause-walk : goal.compare_pair-requires-clause-walk
compare_pair-requires-clause-walk c = c.loop-place.invariant.walk

pub index-at-requires : goal.index-at-requires
index-at-requires c = omega (arith, c.loop-place-test.true, c.len-place-end.ensures, c.in-Ok.starts.ok)

pub returns-clause-walk : goal.returns-clause-walk
returns-clause-walk c = c.loop-place.invariant.walk

pub returns-clause-grown : goal.returns-clause-grown
returns-clause-grown c = c.loop-place.invariant.grown

pub returns-clause-lost : goal.returns-clause-lost
returns-clause-lost c = tt

pub returns-clause-first : goal.returns-clause-first
returns-clause-first c = tt

pub returns-in-Err-clause-compared : goal.returns-in-Err-clause-compared
returns-in-Err-clause-compared c = tt

pub returns-in-Err-clause-first : goal.returns-in-Err-clause-first
returns-in-Err-clause-first c = tt

pub returns-in-Err-clause-grown : goal.returns-in-Err-clause-grown
returns-in-Err-clause-grown c = tt

pub returns-in-Err-clause-lost : goal.returns-in-Err-clause-lost
returns-in-Err-clause-lost c = tt

pub returns-in-Err-clause-searched : goal.returns-in-Err-clause-searched
returns-in-Err-clause-searched c = tt

pub returns-in-Err-clause-walk : goal.returns-in-Err-clause-walk
returns-in-Err-clause-walk c = tt

pub returns-in-Some-clause-compared : goal.returns-in-Some-clause-compared
returns-in-Some-clause-compared c = tt

pub returns-in-Some-clause-searched : goal.returns-in-Some-clause-searched
returns-in-Some-clause-searched c = tt

pub returns-in-Some-clause-walk : goal.returns-in-Some-clause-walk
returns-in-Some-clause-walk c = c.in_ok-lost.ensures.walk

pub returns-in-Some-clause-lost : goal.returns-in-Some-clause-lost
returns-in-Some-clause-lost c = some_then (λ (l : Lost). IsLossIn c.args.pause.now l) c.in_ok-lost.field-0 c.in-Some.lost c.in-Some.is c.in_ok-lost.ensures.lost
