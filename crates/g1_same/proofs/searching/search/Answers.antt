use Rattle.std.proofs.Common.{arith, subst, ℕ, ◌≡◌, ◌+◌, Option, IfNone, IfSome, length}
use Rattle.g1_words.specs.Heap.{Heap}
use Rattle.g1_words.proofs.Logic.{IfNone-weaker}
use Rattle.g1_same.specs.declared.walk.Walk.{Walk}
use Rattle.g1_same.specs.declared.walk.Found.{Found}
use Rattle.g1_same.specs.Walk.{IsBelow, HasGrown}
use Rattle.g1_same.specs.declared.stale.StaleWords.{StaleWords}
use Rattle.g1_same.specs.Behind.{FindsAlike, IsNext, IsNextStale, LinksBetween, PassesNoStale, looked_to}
use Rattle.g1_same.proofs.Adding.{grown_more}
use Rattle.g1_same.proofs.Steps.{none_then, on_ok, both_ok, some_map}
use Rattle.g1_same.proofs.Between.{between_kept_row, between_trans, alike_more, later_way, row_not_first}
use Rattle.g1_same.proofs.Passing.{passes_kept_row, passes_trans}
use Rattle.g1_same.proofs.searching.search.Goals as goal

pub returns-clause-grown : goal.returns-clause-grown
returns-clause-grown c =
    on_ok c.link_pairs-2.result (λ o. HasGrown c.link_roots.new.walk c.link_pairs-2.new.walk) (λ o. HasGrown c.args.walk.now c.link_pairs-2.new.walk)
    (λ o more. grown_more c.args.walk.now c.link_roots.new.walk c.link_pairs-2.new.walk c.in_ok-found.ensures.grown more) c.link_pairs-2.ensures.grown

pub returns-clause-alike : goal.returns-clause-alike
returns-clause-alike c =
    let g : Heap = c.args.heaps.before.now in
    let h : Heap = c.args.heaps.after.now in
    let w : Walk = c.args.walk.now in
    let u : Walk = c.link_roots.new.walk in
    let v : Walk = c.link_pairs-2.new.walk in
    both_ok c.link_pairs-2.result (HasGrown u v) (λ o. FindsAlike g h u v) (λ o. FindsAlike g h w v)
    (λ o more alike. alike_more g h w u v c.in_ok-found.ensures.alike alike more) c.link_pairs-2.ensures.grown c.link_pairs-2.ensures.alike

pub returns-clause-linked : goal.returns-clause-linked
returns-clause-linked c =
    let g : Heap = c.args.heaps.before.now in
    let h : Heap = c.args.heaps.after.now in
    let u : Walk = c.link_roots.new.walk in
    let v : Walk = c.link_pairs-2.new.walk in
    let f : ℕ = c.args.first.from in
    let n : ℕ = c.args.first.number in
    let end : ℕ = length v.before.items + 1 in
    let zero : 0 ≡ f = omega (arith, c.if-first-gt0.false) in
    let l = none_then (LinksBetween g h u 0 n 1 0) c.in_ok-found.field-0 c.in_default.not-Some c.in_ok-found.ensures.linked in
    both_ok c.link_pairs-2.result (HasGrown u v) (λ (o : Option Found). IfNone o (LinksBetween g h v 1 0 end 0)) (λ (o : Option Found). IfNone o (LinksBetween g h v f n end 0))
    (λ o more none. IfNone-weaker o (LinksBetween g h v 1 0 end 0) (LinksBetween g h v f n end 0)
    (λ rest. subst (λ z. LinksBetween g h v z n end 0) zero (between_trans g h v 0 n 1 0 end 0 (between_kept_row g h u v 0 n 1 more (omega arith) l) rest)) none)
    c.link_pairs-2.ensures.grown c.link_pairs-2.ensures.linked

pub returns-clause-until : goal.returns-clause-until
returns-clause-until c =
    let g : Heap = c.args.heaps.before.now in
    let h : Heap = c.args.heaps.after.now in
    let u : Walk = c.link_roots.new.walk in
    let v : Walk = c.link_pairs-2.new.walk in
    let f : ℕ = c.args.first.from in
    let n : ℕ = c.args.first.number in
    let zero : 0 ≡ f = omega (arith, c.if-first-gt0.false) in
    let l = none_then (LinksBetween g h u 0 n 1 0) c.in_ok-found.field-0 c.in_default.not-Some c.in_ok-found.ensures.linked in
    both_ok c.link_pairs-2.result (HasGrown u v) (λ (o : Option Found). IfSome o (λ d. IsNext g h v 1 0 d)) (λ (o : Option Found). IfSome o (λ d. IsNext g h v f n d))
    (λ o more some. some_map o (λ d. IsNext g h v 1 0 d) (λ d. IsNext g h v f n d)
    (λ d next. subst (λ z. IsNext g h v z n d) zero (
      later_way d.place.way.from d.place.way.number 1 0 0 n next.0 (row_not_first n),
      between_trans g h v 0 n 1 0 d.place.way.from d.place.way.number (between_kept_row g h u v 0 n 1 more (omega arith) l) next.1,
    )) some) c.link_pairs-2.ensures.grown c.link_pairs-2.ensures.until

pub link_roots-requires-clause-below : goal.link_roots-requires-clause-below
link_roots-requires-clause-below c =
    let zero : c.args.first.from ≡ 0 = omega (arith, c.if-first-gt0.false) in
    subst (λ z. IsBelow c.args.walk.now z c.args.first.number) zero c.requires.below

pub returns-clause-no_stale : goal.returns-clause-no_stale
returns-clause-no_stale c =
    let g : Heap = c.args.heaps.before.now in
    let h : Heap = c.args.heaps.after.now in
    let s : StaleWords = c.args.stale.now in
    let u : Walk = c.link_roots.new.walk in
    let v : Walk = c.link_pairs-2.new.walk in
    let f : ℕ = c.args.first.from in
    let n : ℕ = c.args.first.number in
    let zero : 0 ≡ f = omega (arith, c.if-first-gt0.false) in
    let l = none_then (PassesNoStale g h s u 0 n 1 0) c.in_ok-found.field-0 c.in_default.not-Some c.in_ok-found.ensures.no_stale_left in
    both_ok c.link_pairs-2.result (HasGrown u v) (λ (o : Option Found). IfSome o (λ d. IsNextStale g h s v 1 0 d)) (λ (o : Option Found). IfSome o (λ d. IsNextStale g h s v f n d))
    (λ o more some. some_map o (λ d. IsNextStale g h s v 1 0 d) (λ d. IsNextStale g h s v f n d)
    (λ d next. subst (λ z. IsNextStale g h s v z n d) zero
    (passes_trans g h s v 0 n 1 0 d.place.way.from (looked_to d.what d.place.way.number) (passes_kept_row g h s u v 0 n 1 more (omega arith) l) next)) some)
    c.link_pairs-2.ensures.grown c.link_pairs-2.ensures.no_stale

pub returns-clause-no_stale_left : goal.returns-clause-no_stale_left
returns-clause-no_stale_left c =
    let g : Heap = c.args.heaps.before.now in
    let h : Heap = c.args.heaps.after.now in
    let s : StaleWords = c.args.stale.now in
    let u : Walk = c.link_roots.new.walk in
    let v : Walk = c.link_pairs-2.new.walk in
    let f : ℕ = c.args.first.from in
    let n : ℕ = c.args.first.number in
    let end : ℕ = length v.before.items + 1 in
    let zero : 0 ≡ f = omega (arith, c.if-first-gt0.false) in
    let l = none_then (PassesNoStale g h s u 0 n 1 0) c.in_ok-found.field-0 c.in_default.not-Some c.in_ok-found.ensures.no_stale_left in
    both_ok c.link_pairs-2.result (HasGrown u v) (λ (o : Option Found). IfNone o (PassesNoStale g h s v 1 0 end 0)) (λ (o : Option Found). IfNone o (PassesNoStale g h s v f n end 0))
    (λ o more none. IfNone-weaker o (PassesNoStale g h s v 1 0 end 0) (PassesNoStale g h s v f n end 0)
    (λ rest. subst (λ z. PassesNoStale g h s v z n end 0) zero (passes_trans g h s v 0 n 1 0 end 0 (passes_kept_row g h s u v 0 n 1 more (omega arith) l) rest)) none)
    c.link_pairs-2.ensures.grown c.link_pairs-2.ensures.no_stale_left
