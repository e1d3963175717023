use Rattle.g1_kept.specs.Pause.{IsLossIn, IsMetFirstIn}
use Rattle.g1_kept.specs.declared.lost.Lost.{Lost}
use Rattle.g1_kept.proofs.Steps.{as_many_words}
use Rattle.std.proofs.Common.{suc, length}
use Rattle.g1_words.specs.Heap.{Heap}
use Rattle.g1_kept.specs.declared.pairs.Pairs.{Pairs}
use Rattle.g1_kept.specs.Keeps.{Keeps}
use Rattle.g1_kept.specs.Walk.{IsPairWalk, HasMorePairs, Searches, PairsRoots, ComparesOutside, ComparesPairs}
use Rattle.g1_kept.proofs.Growing.{ok_none_then, roots_kept, outside_kept, grown_more}
use Rattle.g1_same.proofs.Steps.{none_then, some_then}
use Rattle.g1_kept.proofs.Renamed.{keeps}
use Rattle.g1_same.proofs.Held.{after_valid, before_valid}
use Rattle.g1_kept.proofs.keeping.compare_words.Goals as goal

pub returns-clause-none : goal.returns-clause-none
returns-clause-none c =
    let pause = c.args.pause.now in
    let set = pause.set.now in
    let g : Heap = pause.heaps.before.now in
    let h : Heap = pause.heaps.after.now in
    let u : Pairs = c.link_roots.new.pairs in
    let w : Pairs = c.compare_outside.new.pairs in
    let v : Pairs = c.compare_pairs.new.pairs in
    let roots : PairsRoots set g h u (length g.roots) = none_then (PairsRoots set g h u (length g.roots)) c.in_ok-lost.field-0 c.in_default.not-Some c.in_ok-lost.ensures.paired in
    let others : ComparesOutside set g h w g.geometry.n = none_then (ComparesOutside set g h w g.geometry.n) c.in_ok-lost-2.field-0 c.in_default-2.not-Some c.in_ok-lost-2.ensures.compared in
    ok_none_then (ComparesPairs set g h v (length v.before.items)) (Keeps pause.fill set g h) (IsPairWalk pause.fill set g h v) (HasMorePairs w v) c.compare_pairs.result
    c.compare_pairs.ensures.compared c.compare_pairs.ensures.walk c.compare_pairs.ensures.grown
    (λ walk grown pairs. keeps pause.fill set g h (before_valid c.args.pause.now.heaps) (after_valid c.args.pause.now.heaps) v walk c.requires.table c.requires.roots
    (roots_kept set g h u v (grown_more u w v c.in_ok-lost-2.ensures.grown grown) (length g.roots) roots)
    (outside_kept set g h w v grown g.geometry.n others) pairs)

pub compare_outside-requires-clause-search : goal.compare_outside-requires-clause-search
compare_outside-requires-clause-search c =
    let pause = c.args.pause.now in
    none_then (Searches pause.fill pause.set.now pause.heaps.before.now pause.heaps.after.now c.link_roots.new.pairs 1 0) c.in_ok-lost.field-0 c.in_default.not-Some c.in_ok-lost.ensures.searched

pub compare_pairs-requires-clause-search : goal.compare_pairs-requires-clause-search
compare_pairs-requires-clause-search c =
    let pause = c.args.pause.now in
    none_then (Searches pause.fill pause.set.now pause.heaps.before.now pause.heaps.after.now c.compare_outside.new.pairs (suc (length pause.heaps.before.now.words)) 0)
    c.in_ok-lost-2.field-0 c.in_default-2.not-Some c.in_ok-lost-2.ensures.searched

pub link_roots-requires-clause-walk : goal.link_roots-requires-clause-walk
link_roots-requires-clause-walk c = c.in_ok-pairs.ensures.walk

pub link_roots-requires-clause-sizes : goal.link_roots-requires-clause-sizes
link_roots-requires-clause-sizes c =
    let pause = c.args.pause.now in
    as_many_words pause.fill pause.set.now pause.heaps.before.now pause.heaps.after.now (before_valid c.args.pause.now.heaps) (after_valid c.args.pause.now.heaps) c.requires.table

pub link_roots-requires-clause-roots : goal.link_roots-requires-clause-roots
link_roots-requires-clause-roots c = c.requires.roots

pub link_roots-requires-clause-none : goal.link_roots-requires-clause-none
link_roots-requires-clause-none c = c.in_ok-pairs.ensures.none

pub compare_outside-requires-clause-walk : goal.compare_outside-requires-clause-walk
compare_outside-requires-clause-walk c = c.in_ok-lost.ensures.walk

pub compare_outside-requires-clause-table : goal.compare_outside-requires-clause-table
compare_outside-requires-clause-table c = c.requires.table

pub compare_pairs-requires-clause-walk : goal.compare_pairs-requires-clause-walk
compare_pairs-requires-clause-walk c = c.in_ok-lost-2.ensures.walk

pub compare_pairs-requires-clause-table : goal.compare_pairs-requires-clause-table
compare_pairs-requires-clause-table c = c.requires.table

pub returns-in-Some-clause-none : goal.returns-in-Some-clause-none
returns-in-Some-clause-none c = tt

pub returns-in-Some-clause-some : goal.returns-in-Some-clause-some
returns-in-Some-clause-some c = some_then (λ (l : Lost). IsLossIn c.args.pause.now l) c.in_ok-lost.field-0 c.in-Some.lost c.in-Some.is c.in_ok-lost.ensures.lost

pub returns-in-Some-clause-first : goal.returns-in-Some-clause-first
returns-in-Some-clause-first c = some_then (λ (l : Lost). IsMetFirstIn c.args.pause.now l) c.in_ok-lost.field-0 c.in-Some.lost c.in-Some.is c.in_ok-lost.ensures.first

pub returns-in-Some-2-clause-none : goal.returns-in-Some-2-clause-none
returns-in-Some-2-clause-none c = tt

pub returns-in-Some-2-clause-some : goal.returns-in-Some-2-clause-some
returns-in-Some-2-clause-some c = some_then (λ (l : Lost). IsLossIn c.args.pause.now l) c.in_ok-lost-2.field-0 c.in-Some-2.lost c.in-Some-2.is c.in_ok-lost-2.ensures.lost

pub returns-in-Some-2-clause-first : goal.returns-in-Some-2-clause-first
returns-in-Some-2-clause-first c = some_then (λ (l : Lost). IsMetFirstIn c.args.pause.now l) c.in_ok-lost-2.field-0 c.in-Some-2.lost c.in-Some-2.is c.in_ok-lost-2.ensures.first

pub returns-clause-some : goal.returns-clause-some
returns-clause-some c = c.compare_pairs.ensures.lost

pub returns-clause-first : goal.returns-clause-first
returns-clause-first c = c.compare_pairs.ensures.first
