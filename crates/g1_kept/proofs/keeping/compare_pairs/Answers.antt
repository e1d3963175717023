use Rattle.std.proofs.Common.{arith, inr, refl, subst, sym, suc, ℕ, ◌≡◌, ◌<◌, ◌≤◌, ◌+◌, ◌-◌, length, slice_index}
use Rattle.std.proofs.lemmas.List.{get_or_read}
use Rattle.g1_words.specs.Heap.{Heap}
use Rattle.g1_kept.specs.declared.pairs.Pairs.{Pairs}
use Rattle.g1_kept.specs.declared.lost.Lost.{Lost}
use Rattle.g1_kept.specs.Pause.{IsLossIn}
use Rattle.g1_kept.specs.Walk.{IsCompared, HasMorePairs, HasTurn, Searches, PassesObjects, StopsAtObjects}
use Rattle.g1_kept.proofs.Adding.{few_pairs}
use Rattle.g1_kept.proofs.Growing.{grown_same, grown_more, pairs_more}
use Rattle.g1_same.proofs.Steps.{none_then, some_then}
use Rattle.g1_kept.proofs.Steps.{as_many_words, pair_read}
use Rattle.g1_same.proofs.Held.{after_valid, before_valid}
use Rattle.g1_kept.proofs.keeping.compare_pairs.Goals as goal

pub compare_pair-requires-clause-sizes : goal.compare_pair-requires-clause-sizes
compare_pair-requires-clause-sizes c =
    let pause = c.args.pause.now in
    as_many_words pause.fill pause.set.now pause.heaps.before.now pause.heaps.after.now (before_valid c.args.pause.now.heaps) (after_valid c.args.pause.now.heaps) c.requires.table

pub compare_pair-requires-clause-pair : goal.compare_pair-requires-clause-pair
compare_pair-requires-clause-pair c =
    let pause = c.args.pause.now in
    let w : Pairs = c.loop-place.pairs in
    let i : ℕ = c.loop-place.place in
    let lt : i < length w.before.items = omega (arith, c.loop-place-test.true, c.len.ensures, w.before.ok) in
    let a_is = get_or_read w.before.items i c.index-a.result.now lt c.index-a.ensures 0 in
    let b_is = get_or_read w.after.items i c.index-b.result.now (omega (arith, lt, c.loop-place.invariant.walk.pairs)) c.index-b.ensures 0 in
    let pair = pair_read pause.fill pause.set.now pause.heaps.before.now pause.heaps.after.now w i c.index-a.result.now c.index-b.result.now c.loop-place.invariant.walk lt a_is b_is in
    record { before = pair.before_in; after = pair.after_in; matched = pair.matched }

pub loop-place-preserved : goal.loop-place-preserved
loop-place-preserved c =
    let pause = c.args.pause.now in
    let g : Heap = pause.heaps.before.now in
    let h : Heap = pause.heaps.after.now in
    let w : Pairs = c.loop-place.pairs in
    let v : Pairs = c.compare_pair.new.pairs in
    let i : ℕ = c.loop-place.place in
    let a : ℕ = c.index-a.result.now in
    let b : ℕ = c.index-b.result.now in
    let lt : i < length w.before.items = omega (arith, c.loop-place-test.true, c.len.ensures, w.before.ok) in
    let a_is : a ≡ slice_index w.before.items i = get_or_read w.before.items i a lt c.index-a.ensures 0 in
    let b_is : b ≡ slice_index w.after.items i = get_or_read w.after.items i b (omega (arith, lt, c.loop-place.invariant.walk.pairs)) c.index-b.ensures 0 in
    let grown : HasMorePairs w v = c.in_ok-lost.ensures.grown in
    let one : IsCompared pause.set.now g h v a b = none_then (IsCompared pause.set.now g h v a b) c.in_ok-lost.field-0 c.in_default.not-Some c.in_ok-lost.ensures.compared in
    let turn : HasTurn pause.set.now g h w (length g.words + i) a b = inr (i, lt, refl, a_is, b_is) in
    let passed = none_then (PassesObjects pause.fill pause.set.now g h w v a b 0) c.in_ok-lost.field-0 c.in_default.not-Some c.in_ok-lost.ensures.passed in
    let next : suc (suc (length g.words + i)) ≡ suc (length g.words + (i + 1)) = omega arith in
    record {
      walk = c.in_ok-lost.ensures.walk;
      search = subst (λ z. Searches pause.fill pause.set.now g h v z 0) next (passed (length g.words + i) c.loop-place.invariant.search turn);
      grown = grown_more c.args.pairs.now w v c.loop-place.invariant.grown grown;
      compared = pairs_more pause.set.now g h w v grown i a b lt (sym a_is) (sym b_is) c.loop-place.invariant.compared one;
      within = omega (arith, lt, grown.more);
    }

pub returns-in-Some-clause-grown : goal.returns-in-Some-clause-grown
returns-in-Some-clause-grown c = grown_more c.args.pairs.now c.loop-place.pairs c.compare_pair.new.pairs c.loop-place.invariant.grown c.in_ok-lost.ensures.grown

pub loop-place-smaller : goal.loop-place-smaller
loop-place-smaller c =
    let pause = c.args.pause.now in
    let few = few_pairs pause.fill pause.set.now pause.heaps.before.now pause.heaps.after.now c.loop-place.pairs (before_valid c.args.pause.now.heaps) c.loop-place.invariant.walk in
    let lt : c.loop-place.place < length c.loop-place.pairs.before.items = omega (arith, c.loop-place-test.true, c.len.ensures, c.loop-place.pairs.before.ok) in
    let n : ℕ = length pause.heaps.before.now.words in
    let e : n - (c.loop-place.place + 1) < n - c.loop-place.place = omega (arith, few, lt) in
    e

pub loop-place-init : goal.loop-place-init
loop-place-init c =
    let pause = c.args.pause.now in
    let first : suc (length pause.heaps.before.now.words) ≡ suc (length pause.heaps.before.now.words + 0) = omega arith in
    record {
      walk = c.requires.walk;
      grown = grown_same c.args.pairs.now;
      compared = λ i lt. absurd (omega (arith, lt));
      within = omega arith;
      search = subst (λ z. Searches pause.fill pause.set.now pause.heaps.before.now pause.heaps.after.now c.args.pairs.now z 0) first c.requires.search;
    }

pub returns-in-Some-clause-first : goal.returns-in-Some-clause-first
returns-in-Some-clause-first c =
    let pause = c.args.pause.now in
    let g : Heap = pause.heaps.before.now in
    let h : Heap = pause.heaps.after.now in
    let w : Pairs = c.loop-place.pairs in
    let i : ℕ = c.loop-place.place in
    let a : ℕ = c.index-a.result.now in
    let b : ℕ = c.index-b.result.now in
    let lt : i < length w.before.items = omega (arith, c.loop-place-test.true, c.len.ensures, w.before.ok) in
    let a_is : a ≡ slice_index w.before.items i = get_or_read w.before.items i a lt c.index-a.ensures 0 in
    let b_is : b ≡ slice_index w.after.items i = get_or_read w.after.items i b (omega (arith, lt, c.loop-place.invariant.walk.pairs)) c.index-b.ensures 0 in
    let turn : HasTurn pause.set.now g h w (length g.words + i) a b = inr (i, lt, refl, a_is, b_is) in
    let stops = some_then (λ (l : Lost). StopsAtObjects pause.fill pause.set.now g h w a b 0 l) c.in_ok-lost.field-0 c.in-Some.lost c.in-Some.is c.in_ok-lost.ensures.first in
    stops (length g.words + i) c.loop-place.invariant.search turn

pub compare_pair-requires-clause-walk : goal.compare_pair-requires-clause-walk
compare_pair-requires-clause-walk c = c.loop-place.invariant.walk

pub returns-in-Some-clause-walk : goal.returns-in-Some-clause-walk
returns-in-Some-clause-walk c = c.in_ok-lost.ensures.walk

pub returns-in-Some-clause-lost : goal.returns-in-Some-clause-lost
returns-in-Some-clause-lost c = some_then (λ (l : Lost). IsLossIn c.args.pause.now l) c.in_ok-lost.field-0 c.in-Some.lost c.in-Some.is c.in_ok-lost.ensures.lost

pub returns-clause-compared : goal.returns-clause-compared
returns-clause-compared c = λ i lt.
    let all : c.len.result ≤ c.loop-place.place = c.loop-place-test.false in
    c.loop-place.invariant.compared i (omega (arith, lt, all, c.len.ensures, c.loop-place.pairs.before.ok))

pub index-a-requires : goal.index-a-requires
index-a-requires c = omega (arith, c.loop-place-test.true, c.len.ensures, c.loop-place.pairs.before.ok)

pub index-b-requires : goal.index-b-requires
index-b-requires c = omega (arith, c.loop-place-test.true, c.len.ensures, c.loop-place.pairs.before.ok, c.loop-place.pairs.after.ok, c.loop-place.invariant.walk.pairs)

pub returns-clause-walk : goal.returns-clause-walk
returns-clause-walk c = c.loop-place.invariant.walk

pub returns-clause-grown : goal.returns-clause-grown
returns-clause-grown c = c.loop-place.invariant.grown

pub returns-clause-lost : goal.returns-clause-lost
returns-clause-lost c = tt

pub returns-clause-first : goal.returns-clause-first
returns-clause-first c = tt

pub returns-in-Some-clause-compared : goal.returns-in-Some-clause-compared
returns-in-Some-clause-compared c = tt

pub overflow_add-place : goal.overflow_add-place
overflow_add-place c = record { fits = omega (arith, c.loop-place-test.true, c.len.type_inv) }
