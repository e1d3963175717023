use Rattle.g1_kept.specs.Pause.{IsLossIn}
use Rattle.g1_kept.specs.declared.pairs.Pairs.{Pairs}
use Rattle.g1_words.specs.Heap.{Heap, object_at}
use Rattle.std.proofs.Common.{ℕ}
use Rattle.g1_same.specs.Walk.{AreAlike}
use Rattle.g1_kept.specs.declared.lost.Lost.{Lost}
use Rattle.g1_kept.specs.Lost.{IsLoss}
use Rattle.g1_kept.specs.Walk.{PassesObjects, StopsAtObjects, IsFirstOfObjects, IsCompared, PairsSlots}
use Rattle.g1_kept.proofs.Growing.{ok_none_map, ok_some_map, grown_same}
use Rattle.g1_same.proofs.Steps.{none_then, some_then}
use Rattle.g1_kept.proofs.Walking.{passes_contents, stops_later, stops_contents}
use Rattle.g1_kept.proofs.keeping.compare_pair.Goals as goal

pub returns-in-Some-clause-first : goal.returns-in-Some-clause-first
returns-in-Some-clause-first c =
    let pause = c.args.pause.now in
    let set = pause.set.now in
    let g = pause.heaps.before.now in
    let h = pause.heaps.after.now in
    let loss = some_then (λ (l : Lost). IsLoss pause.fill set g h l) c.compare_contents.result c.in-Some.lost c.in-Some.is c.compare_contents.ensures.some in
    let first = some_then (λ (l : Lost). IsFirstOfObjects g h c.args.a c.args.b l) c.compare_contents.result c.in-Some.lost c.in-Some.is c.compare_contents.ensures.first in
    stops_contents pause.fill set g h c.args.pairs.now c.args.a c.args.b c.in-Some.lost loss first

pub returns-clause-passed : goal.returns-clause-passed
returns-clause-passed c =
    let pause = c.args.pause.now in
    let set = pause.set.now in
    let g = pause.heaps.before.now in
    let h = pause.heaps.after.now in
    let w = c.args.pairs.now in
    let v = c.link_slots.new.pairs in
    let alike : AreAlike g h c.args.a c.args.b = none_then (AreAlike g h c.args.a c.args.b) c.compare_contents.result c.in_default.not-Some c.compare_contents.ensures.none in
    ok_none_map (PassesObjects pause.fill set g h w v c.args.a c.args.b 1) (PassesObjects pause.fill set g h w v c.args.a c.args.b 0) c.link_slots.result c.link_slots.ensures.passed
    (passes_contents pause.fill set g h w v c.args.a c.args.b alike)

pub returns-clause-first : goal.returns-clause-first
returns-clause-first c =
    let pause = c.args.pause.now in
    let set = pause.set.now in
    let g = pause.heaps.before.now in
    let h = pause.heaps.after.now in
    let w = c.args.pairs.now in
    let alike : AreAlike g h c.args.a c.args.b = none_then (AreAlike g h c.args.a c.args.b) c.compare_contents.result c.in_default.not-Some c.compare_contents.ensures.none in
    ok_some_map (λ (l : Lost). StopsAtObjects pause.fill set g h w c.args.a c.args.b 1 l)
    (λ (l : Lost). StopsAtObjects pause.fill set g h w c.args.a c.args.b 0 l) c.link_slots.result c.link_slots.ensures.first
    (λ l stops. stops_later pause.fill set g h w c.args.a c.args.b l alike stops)

pub compare_contents-requires : goal.compare_contents-requires
compare_contents-requires c = record { pair = c.requires.pair }

pub link_slots-requires-clause-walk : goal.link_slots-requires-clause-walk
link_slots-requires-clause-walk c = c.requires.walk

pub link_slots-requires-clause-sizes : goal.link_slots-requires-clause-sizes
link_slots-requires-clause-sizes c = c.requires.sizes

pub link_slots-requires-clause-pair : goal.link_slots-requires-clause-pair
link_slots-requires-clause-pair c = c.requires.pair

pub link_slots-requires-clause-alike : goal.link_slots-requires-clause-alike
link_slots-requires-clause-alike c =
    let pause = c.args.pause.now in
    none_then (AreAlike pause.heaps.before.now pause.heaps.after.now c.args.a c.args.b) c.compare_contents.result c.in_default.not-Some c.compare_contents.ensures.none

pub returns-clause-walk : goal.returns-clause-walk
returns-clause-walk c = c.link_slots.ensures.walk

pub returns-clause-grown : goal.returns-clause-grown
returns-clause-grown c = c.link_slots.ensures.grown

pub returns-clause-lost : goal.returns-clause-lost
returns-clause-lost c = c.link_slots.ensures.lost

pub returns-clause-compared : goal.returns-clause-compared
returns-clause-compared c =
    let pause = c.args.pause.now in
    let set = pause.set.now in
    let g : Heap = pause.heaps.before.now in
    let h : Heap = pause.heaps.after.now in
    let v : Pairs = c.link_slots.new.pairs in
    let a : ℕ = c.args.a in
    let b : ℕ = c.args.b in
    let alike : AreAlike g h a b = none_then (AreAlike g h a b) c.compare_contents.result c.in_default.not-Some c.compare_contents.ensures.none in
    ok_none_map (PairsSlots set g h v a b (object_at g a).refs) (IsCompared set g h v a b) c.link_slots.result c.link_slots.ensures.paired
    (λ slots. record { stands = c.requires.pair.after; alike = alike; slots = slots })

pub returns-in-Some-clause-walk : goal.returns-in-Some-clause-walk
returns-in-Some-clause-walk c = c.requires.walk

pub returns-in-Some-clause-grown : goal.returns-in-Some-clause-grown
returns-in-Some-clause-grown c = grown_same c.args.pairs.now

pub returns-in-Some-clause-compared : goal.returns-in-Some-clause-compared
returns-in-Some-clause-compared c = tt

pub returns-in-Some-clause-passed : goal.returns-in-Some-clause-passed
returns-in-Some-clause-passed c = tt

pub returns-in-Some-clause-lost : goal.returns-in-Some-clause-lost
returns-in-Some-clause-lost c = some_then (λ (l : Lost). IsLossIn c.args.pause.now l) c.compare_contents.result c.in-Some.lost c.in-Some.is c.compare_contents.ensures.some
