use Rattle.std.proofs.Common.{length, ◌*◌, arith, ap, subst, sym, suc, ℕ, ◌≡◌, ◌≢◌, ◌<◌, ◌+◌, ◌∙◌, inl, inr, true, IsFalse}
use Rattle.std.proofs.lemmas.Bool.{cases_lt, false≢true}
use Rattle.g1_words.specs.declared.region.Kind.TheVariants.{Free}
use Rattle.g1_words.specs.Lists.{has}
use Rattle.g1_words.specs.Heap.{Heap, kind, start}
use Rattle.g1_kept.specs.declared.lost.Lost.{Lost}
use Rattle.g1_kept.specs.declared.pairs.Pairs.{Pairs}
use Rattle.g1_kept.specs.Pause.{IsLossIn, IsMetFirstIn}
use Rattle.g1_kept.specs.Walk.{IsPairWalk, HasMorePairs, ComparesRegion, ComparesOutside, Searches}
use Rattle.g1_kept.proofs.Growing.{grown_same, grown_more, outside_more}
use Rattle.g1_same.proofs.Steps.{none_then, some_then}
use Rattle.g1_kept.proofs.Outside.{region_skipped}
use Rattle.g1_same.proofs.Held.{after_valid, before_valid}
use Rattle.g1_kept.proofs.keeping.compare_outside.Goals as goal
use Rattle.g1_kept.proofs.keeping.compare_outside.Goals.{then-is_compared+in_ok-lost+in_default, else-is_compared}

pub loop-region-preserved : goal.loop-region-preserved
loop-region-preserved c =
    let pause = c.args.pause.now in
    let g : Heap = pause.heaps.before.now in
    let h : Heap = pause.heaps.after.now in
    let w : Pairs = c.loop-region.pairs in
    let k : ℕ = c.loop-region.region in
    let now : Pairs = c.if-is_compared.pairs in
    let in_heap : k < g.geometry.n = let e = ap (λ s. s.n) c.geometry.ensures.same in omega (arith, c.loop-region-test.true, c.regions-region-end.ensures.value, e) in
    elim c.if-is_compared.branch [
      | then-is_compared+in_ok-lost+in_default w' ↦
          let v : Pairs = w'.compare_region.new.pairs in
          let grown : HasMorePairs w v = w'.in_ok-lost.ensures.grown in
          let one : ComparesRegion pause.set.now g h v k = none_then (ComparesRegion pause.set.now g h v k) w'.in_ok-lost.field-0 w'.in_default.not-Some w'.in_ok-lost.ensures.compared in
          let on = none_then (Searches pause.fill pause.set.now g h v (suc (start g (k + 1))) 0) w'.in_ok-lost.field-0 w'.in_default.not-Some w'.in_ok-lost.ensures.searched in
          record {
            walk = subst (IsPairWalk pause.fill pause.set.now g h) (sym w'.pairs-is) w'.in_ok-lost.ensures.walk;
            search = subst (λ u. Searches pause.fill pause.set.now g h u (suc (start g (k + 1))) 0) (sym w'.pairs-is) on;
            grown = subst (HasMorePairs c.args.pairs.now) (sym w'.pairs-is) (grown_more c.args.pairs.now w v c.loop-region.invariant.grown grown);
            compared = subst (λ u. ComparesOutside pause.set.now g h u (k + 1)) (sym w'.pairs-is) (outside_more pause.set.now g h w v grown k c.loop-region.invariant.compared one);
          }
      | else-is_compared w' ↦
          record {
            walk = subst (IsPairWalk pause.fill pause.set.now g h) (sym w'.pairs-is) c.loop-region.invariant.walk;
            search = subst (λ u. Searches pause.fill pause.set.now g h u (suc (start g (k + 1))) 0) (sym w'.pairs-is)
                (region_skipped pause.fill pause.set.now g h (before_valid c.args.pause.now.heaps) (after_valid c.args.pause.now.heaps) w k in_heap
                (λ out used in_use. let yes : c.is_compared.result ≡ true = c.is_compared.ensures.1 (out, used, in_use) in false≢true (sym w'.if-is_compared.false ∙ yes))
                c.loop-region.invariant.search);
            grown = subst (HasMorePairs c.args.pairs.now) (sym w'.pairs-is) c.loop-region.invariant.grown;
            compared = subst (λ u. ComparesOutside pause.set.now g h u (k + 1)) (sym w'.pairs-is)
                (λ r lt out used in_use. elim (cases_lt r k) [
                  | inl p ↦ c.loop-region.invariant.compared r p out used in_use
                  | inr p ↦
                      let e : r ≡ k = omega (arith, lt, p) in
                      let yes : c.is_compared.result ≡ true = c.is_compared.ensures.1 (
                        subst (λ z. IsFalse (has pause.set.now z)) e out,
                        subst (λ z. kind g z ≢ Free) e used,
                        subst (λ z. kind h z ≢ Free) e in_use,
                      ) in
                      absurd (false≢true (sym w'.if-is_compared.false ∙ yes))
                ]);
          }
    ]

pub compare_region-requires-clause-walk : goal.compare_region-requires-clause-walk
compare_region-requires-clause-walk c = c.loop-region.invariant.walk

pub compare_region-requires-clause-table : goal.compare_region-requires-clause-table
compare_region-requires-clause-table c = c.requires.table

pub compare_region-requires-clause-search : goal.compare_region-requires-clause-search
compare_region-requires-clause-search c = c.loop-region.invariant.search

pub returns-in-Some-clause-walk : goal.returns-in-Some-clause-walk
returns-in-Some-clause-walk c = c.in_ok-lost.ensures.walk

pub loop-region-init : goal.loop-region-init
loop-region-init c =
    let pause = c.args.pause.now in
    let first : 1 ≡ suc (start pause.heaps.before.now 0) = omega arith in
    record {
      walk = c.requires.walk;
      grown = grown_same c.args.pairs.now;
      compared = λ r lt. absurd (omega (arith, lt));
      search = subst (λ z. Searches pause.fill pause.set.now pause.heaps.before.now pause.heaps.after.now c.args.pairs.now z 0) first c.requires.search;
    }

pub returns-in-Some-clause-grown : goal.returns-in-Some-clause-grown
returns-in-Some-clause-grown c = grown_more c.args.pairs.now c.loop-region.pairs c.compare_region.new.pairs c.loop-region.invariant.grown c.in_ok-lost.ensures.grown

pub returns-in-Some-clause-lost : goal.returns-in-Some-clause-lost
returns-in-Some-clause-lost c = some_then (λ (l : Lost). IsLossIn c.args.pause.now l) c.in_ok-lost.field-0 c.in-Some.lost c.in-Some.is c.in_ok-lost.ensures.lost

pub returns-in-Some-clause-first : goal.returns-in-Some-clause-first
returns-in-Some-clause-first c = some_then (λ (l : Lost). IsMetFirstIn c.args.pause.now l) c.in_ok-lost.field-0 c.in-Some.lost c.in-Some.is c.in_ok-lost.ensures.first

pub is_compared-requires-clause-before : goal.is_compared-requires-clause-before
is_compared-requires-clause-before c = let e = ap (λ s. s.n) c.geometry.ensures.same in omega (arith, c.loop-region-test.true, c.regions-region-end.ensures.value, e)

pub is_compared-requires-clause-after : goal.is_compared-requires-clause-after
is_compared-requires-clause-after c =
    let e = ap (λ s. s.n) c.geometry.ensures.same in
    let same = ap (λ s. s.n) c.requires.table.geometry in
    omega (arith, c.loop-region-test.true, c.regions-region-end.ensures.value, e, same)

pub compare_region-requires-clause-region : goal.compare_region-requires-clause-region
compare_region-requires-clause-region c = let e = ap (λ s. s.n) c.geometry.ensures.same in omega (arith, c.loop-region-test.true, c.regions-region-end.ensures.value, e)

pub compare_region-requires-clause-outside : goal.compare_region-requires-clause-outside
compare_region-requires-clause-outside c = (c.is_compared.ensures.0 c.if-is_compared.true).0

pub compare_region-requires-clause-used : goal.compare_region-requires-clause-used
compare_region-requires-clause-used c = (c.is_compared.ensures.0 c.if-is_compared.true).1

pub compare_region-requires-clause-in_use : goal.compare_region-requires-clause-in_use
compare_region-requires-clause-in_use c = (c.is_compared.ensures.0 c.if-is_compared.true).2

pub loop-region-smaller : goal.loop-region-smaller
loop-region-smaller c = omega (arith, c.loop-region-test.true)

pub returns-in-Some-clause-compared : goal.returns-in-Some-clause-compared
returns-in-Some-clause-compared c = tt

pub returns-in-Some-clause-searched : goal.returns-in-Some-clause-searched
returns-in-Some-clause-searched c = tt

pub returns-clause-walk : goal.returns-clause-walk
returns-clause-walk c = c.loop-region.invariant.walk

pub returns-clause-grown : goal.returns-clause-grown
returns-clause-grown c = c.loop-region.invariant.grown

pub returns-clause-lost : goal.returns-clause-lost
returns-clause-lost c = tt

pub returns-clause-first : goal.returns-clause-first
returns-clause-first c = tt

pub returns-clause-compared : goal.returns-clause-compared
returns-clause-compared c =
    let e = ap (λ s. s.n) c.geometry.ensures.same in
    λ r lt. c.loop-region.invariant.compared r (omega (arith, lt, c.loop-region-test.false, c.regions-region-end.ensures.value, e))

pub returns-clause-searched : goal.returns-clause-searched
returns-clause-searched c =
    let pause = c.args.pause.now in
    let g : Heap = pause.heaps.before.now in
    let w : Pairs = c.loop-region.pairs in
    let n = ap (λ s. s.n) c.geometry.ensures.same in
    let last : c.loop-region.region ≡ g.geometry.n = omega (arith, n, c.loop-region-test.false, c.loop-region.auto.region-end, c.regions-region-end.ensures.value) in
    let end : suc (start g c.loop-region.region) ≡ suc (length g.words) = ap (λ r. suc (r * g.geometry.w)) last ∙ ap suc (sym (before_valid c.args.pause.now.heaps).word_count) in
    subst (λ z. Searches pause.fill pause.set.now g pause.heaps.after.now w z 0) end c.loop-region.invariant.search
