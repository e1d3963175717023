use Rattle.std.proofs.Common.{arith, ap, refl, subst, sym, suc, ℕ, ◌≡◌, ◌≤◌, ◌+◌, ◌∙◌, slice_index, Contains}
use Rattle.g1_words.specs.Heap.{Heap, word, object_at, objects}
use Rattle.g1_words.specs.declared.object.Object.{Object}
use Rattle.g1_same.proofs.Steps.{none_then, some_then, slots_read, within_old, within_new, old_word, new_word, old_names, new_names}
use Rattle.g1_kept.specs.declared.pairs.Pairs.{Pairs}
use Rattle.g1_kept.specs.Lost.{Disagree, slot}
use Rattle.g1_kept.specs.Pause.{IsLossIn}
use Rattle.g1_kept.specs.declared.lost.Lost.{Lost}
use Rattle.g1_kept.specs.declared.lost.Lost.TheVariants as lost
use Rattle.g1_kept.specs.Walk.{ArePaired, HasTurn, HasWords, PassesWords, StopsAtWords}
use Rattle.g1_kept.proofs.Growing.{grown_same, grown_more, slots_more}
use Rattle.g1_kept.proofs.Search.{slots_on}
use Rattle.g1_kept.proofs.Walking.{turn_more, words_at}
use Rattle.g1_kept.proofs.linking.link_slots.Goals as goal

pub link-requires-clause-x : goal.link-requires-clause-x
link-requires-clause-x c =
    let r = slots_read c.args.pause.now.heaps c.args.a c.args.b c.slots-here.result.now c.slots-there.result.now c.requires.pair.before c.requires.pair.after c.requires.alike.header
    c.object-old.ensures.value c.object-new.ensures.value c.slots-here.ensures.count c.slots-here.ensures.each c.slots-there.ensures.count c.slots-there.ensures.each in
    old_names r c.loop-number.number c.loop-number-test.true

pub link-requires-clause-y : goal.link-requires-clause-y
link-requires-clause-y c =
    let r = slots_read c.args.pause.now.heaps c.args.a c.args.b c.slots-here.result.now c.slots-there.result.now c.requires.pair.before c.requires.pair.after c.requires.alike.header
    c.object-old.ensures.value c.object-new.ensures.value c.slots-here.ensures.count c.slots-here.ensures.each c.slots-there.ensures.count c.slots-there.ensures.each in
    new_names r c.loop-number.number c.loop-number-test.true

pub link-requires-clause-found : goal.link-requires-clause-found
link-requires-clause-found c = λ x y ex ey of_set.
    let r = slots_read c.args.pause.now.heaps c.args.a c.args.b c.slots-here.result.now c.slots-there.result.now c.requires.pair.before c.requires.pair.after c.requires.alike.header
    c.object-old.ensures.value c.object-new.ensures.value c.slots-here.ensures.count c.slots-here.ensures.each c.slots-there.ensures.count c.slots-there.ensures.each in
    let n : ℕ = c.loop-number.number in
    let lt = within_old r n c.loop-number-test.true in
    let lt' = within_new r n c.loop-number-test.true in
    slot n c.requires.pair.matched lt lt' (sym (old_word r n c.loop-number-test.true) ∙ ex) (sym (new_word r n c.loop-number-test.true) ∙ ey) of_set

pub returns-in-Some-clause-grown : goal.returns-in-Some-clause-grown
returns-in-Some-clause-grown c = grown_more c.args.pairs.now c.loop-number.pairs c.link.new.pairs c.loop-number.invariant.grown c.in_ok-lost.ensures.grown

pub loop-number-preserved : goal.loop-number-preserved
loop-number-preserved c =
    let pause = c.args.pause.now in
    let g : Heap = pause.heaps.before.now in
    let h : Heap = pause.heaps.after.now in
    let r = slots_read c.args.pause.now.heaps c.args.a c.args.b c.slots-here.result.now c.slots-there.result.now c.requires.pair.before c.requires.pair.after c.requires.alike.header
    c.object-old.ensures.value c.object-new.ensures.value c.slots-here.ensures.count c.slots-here.ensures.each c.slots-there.ensures.count c.slots-there.ensures.each in
    let n : ℕ = c.loop-number.number in
    let v : Pairs = c.link.new.pairs in
    let x : ℕ = slice_index c.slots-here.result.now n in
    let y : ℕ = slice_index c.slots-there.result.now n in
    let l = none_then (ArePaired pause.set.now g v x y) c.in_ok-lost.field-0 c.in_default.not-Some c.in_ok-lost.ensures.paired in
    let x_is = old_word r n c.loop-number-test.true in
    let y_is = new_word r n c.loop-number-test.true in
    let l' : ArePaired pause.set.now g v (word g (c.args.a + 1 + n)) (word h (c.args.b + 1 + n)) =
    subst (λ z. ArePaired pause.set.now g v z (word h (c.args.b + 1 + n))) x_is (subst (λ z. ArePaired pause.set.now g v x z) y_is l) in
    let w : Pairs = c.loop-number.pairs in
    let passed = none_then (PassesWords pause.fill pause.set.now g h w v x y) c.in_ok-lost.field-0 c.in_default.not-Some c.in_ok-lost.ensures.passed in
    record {
      walk = c.in_ok-lost.ensures.walk;
      grown = grown_more c.args.pairs.now c.loop-number.pairs v c.loop-number.invariant.grown c.in_ok-lost.ensures.grown;
      search = λ t s turn. passed (suc t) (n + 1) (c.loop-number.invariant.search t s turn)
          (words_at pause.fill pause.set.now g h w t c.args.a c.args.b n x y (turn_more pause.fill pause.set.now g h c.args.pairs.now w t c.args.a c.args.b c.loop-number.invariant.grown turn)
          (within_old r n c.loop-number-test.true) (within_new r n c.loop-number-test.true) (sym x_is) (sym y_is));
      paired = slots_more pause.set.now g h c.loop-number.pairs v c.in_ok-lost.ensures.grown c.args.a c.args.b n c.loop-number.invariant.paired l';
    }

pub loop-number-smaller : goal.loop-number-smaller
loop-number-smaller c = omega (arith, c.loop-number-test.true)

pub loop-number-init : goal.loop-number-init
loop-number-init c = record {
  walk = c.requires.walk;
  grown = grown_same c.args.pairs.now;
  paired = λ n lt. absurd (omega (arith, lt));
  search = λ t s turn. s;
}

pub returns-in-Some-clause-first : goal.returns-in-Some-clause-first
returns-in-Some-clause-first c = λ t s turn.
    let pause = c.args.pause.now in
    let set = pause.set.now in
    let g : Heap = pause.heaps.before.now in
    let h : Heap = pause.heaps.after.now in
    let r = slots_read c.args.pause.now.heaps c.args.a c.args.b c.slots-here.result.now c.slots-there.result.now c.requires.pair.before c.requires.pair.after c.requires.alike.header
    c.object-old.ensures.value c.object-new.ensures.value c.slots-here.ensures.count c.slots-here.ensures.each c.slots-there.ensures.count c.slots-there.ensures.each in
    let w : Pairs = c.loop-number.pairs in
    let n : ℕ = c.loop-number.number in
    let a : ℕ = c.args.a in
    let b : ℕ = c.args.b in
    let x : ℕ = slice_index c.slots-here.result.now n in
    let y : ℕ = slice_index c.slots-there.result.now n in
    let lt = within_old r n c.loop-number-test.true in
    let lt' = within_new r n c.loop-number-test.true in
    let now : HasTurn set g h w t a b = turn_more pause.fill set g h c.args.pairs.now w t a b c.loop-number.invariant.grown turn in
    let at : HasWords set g h w (suc t) (n + 1) x y =
    words_at pause.fill set g h w t a b n x y now lt lt' (sym (old_word r n c.loop-number-test.true)) (sym (new_word r n c.loop-number-test.true)) in
    let one : n + 1 ≡ suc n = omega arith in
    let stops = some_then (λ (l : Lost). StopsAtWords pause.fill set g h w x y (lost.Slot a b n) l) c.in_ok-lost.field-0 c.in-Some.lost c.in-Some.is c.in_ok-lost.ensures.first in
    stops (suc t) (n + 1) (c.loop-number.invariant.search t s turn) at (λ clash. (t, refl, one, now, x, y, at, clash))

pub returns-clause-passed : goal.returns-clause-passed
returns-clause-passed c = λ t s turn.
    let pause = c.args.pause.now in
    let set = pause.set.now in
    let g : Heap = pause.heaps.before.now in
    let h : Heap = pause.heaps.after.now in
    let r = slots_read c.args.pause.now.heaps c.args.a c.args.b c.slots-here.result.now c.slots-there.result.now c.requires.pair.before c.requires.pair.after c.requires.alike.header
    c.object-old.ensures.value c.object-new.ensures.value c.slots-here.ensures.count c.slots-here.ensures.each c.slots-there.ensures.count c.slots-there.ensures.each in
    let w : Pairs = c.loop-number.pairs in
    let few : (object_at g c.args.a).refs ≤ c.loop-number.number = omega (arith, r.here.count, c.loop-number-test.false) in
    slots_on pause.fill set g h w.before.items w.after.items t c.args.a c.args.b c.loop-number.number (c.loop-number.invariant.search t s turn)
    (turn_more pause.fill set g h c.args.pairs.now w t c.args.a c.args.b c.loop-number.invariant.grown turn) few

pub returns-clause-paired : goal.returns-clause-paired
returns-clause-paired c = λ n lt.
    let g : Heap = c.args.pause.now.heaps.before.now in
    let r = slots_read c.args.pause.now.heaps c.args.a c.args.b c.slots-here.result.now c.slots-there.result.now c.requires.pair.before c.requires.pair.after c.requires.alike.header
    c.object-old.ensures.value c.object-new.ensures.value c.slots-here.ensures.count c.slots-here.ensures.each c.slots-there.ensures.count c.slots-there.ensures.each in
    let few : (object_at g c.args.a).refs ≤ c.loop-number.number = omega (arith, r.here.count, c.loop-number-test.false) in
    c.loop-number.invariant.paired n (omega (arith, lt, few))

pub bounds-there-number : goal.bounds-there-number
bounds-there-number c =
    let r = slots_read c.args.pause.now.heaps c.args.a c.args.b c.slots-here.result.now c.slots-there.result.now c.requires.pair.before c.requires.pair.after c.requires.alike.header
    c.object-old.ensures.value c.object-new.ensures.value c.slots-here.ensures.count c.slots-here.ensures.each c.slots-there.ensures.count c.slots-there.ensures.each in
    omega (arith, c.loop-number-test.true, r.refs, r.here.count, r.there.count)

pub link-requires-clause-walk : goal.link-requires-clause-walk
link-requires-clause-walk c = c.loop-number.invariant.walk

pub link-requires-clause-other : goal.link-requires-clause-other
link-requires-clause-other c = λ differ.
    let pause = c.args.pause.now in
    let g : Heap = pause.heaps.before.now in
    let h : Heap = pause.heaps.after.now in
    let r = slots_read c.args.pause.now.heaps c.args.a c.args.b c.slots-here.result.now c.slots-there.result.now c.requires.pair.before c.requires.pair.after c.requires.alike.header
    c.object-old.ensures.value c.object-new.ensures.value c.slots-here.ensures.count c.slots-here.ensures.each c.slots-there.ensures.count c.slots-there.ensures.each in
    let n : ℕ = c.loop-number.number in
    let lt = within_old r n c.loop-number-test.true in
    let x_is = old_word r n c.loop-number-test.true in
    let y_is = new_word r n c.loop-number-test.true in (
      c.requires.pair.matched,
      sym c.requires.alike.header,
      lt,
      subst (λ z. Disagree pause.set.now g h z (word h (c.args.b + 1 + n))) x_is (subst (Disagree pause.set.now g h (slice_index c.slots-here.result.now n)) y_is differ),
    )

pub returns-in-Some-clause-walk : goal.returns-in-Some-clause-walk
returns-in-Some-clause-walk c = c.in_ok-lost.ensures.walk

pub returns-in-Some-clause-lost : goal.returns-in-Some-clause-lost
returns-in-Some-clause-lost c = some_then (λ (l : Lost). IsLossIn c.args.pause.now l) c.in_ok-lost.field-0 c.in-Some.lost c.in-Some.is c.in_ok-lost.ensures.lost

pub bounds-here-number : goal.bounds-here-number
bounds-here-number c = c.loop-number-test.true

pub link-requires-clause-sizes : goal.link-requires-clause-sizes
link-requires-clause-sizes c = c.requires.sizes

pub offset_bounds-here-number : goal.offset_bounds-here-number
offset_bounds-here-number c =
    let refs = c.slots-here.ensures.count in
    let few = ap (λ o. o.refs) c.object-old.ensures.value in
    record { fits = omega (arith, c.loop-number-test.true, refs, few) }

pub offset_bounds-there-number : goal.offset_bounds-there-number
offset_bounds-there-number c =
    let refs = c.slots-here.ensures.count in
    let few = ap (λ o. o.refs) c.object-old.ensures.value in
    record { fits = omega (arith, c.loop-number-test.true, refs, few) }

pub slots-here-requires : goal.slots-here-requires
slots-here-requires c = subst (λ (o : Object). Contains (objects c.args.pause.now.heaps.before.now) o) (sym c.object-old.ensures.value) c.requires.pair.before

pub slots-there-requires : goal.slots-there-requires
slots-there-requires c = subst (λ (o : Object). Contains (objects c.args.pause.now.heaps.after.now) o) (sym c.object-new.ensures.value) c.requires.pair.after

pub returns-in-Some-clause-paired : goal.returns-in-Some-clause-paired
returns-in-Some-clause-paired c = tt

pub returns-in-Some-clause-passed : goal.returns-in-Some-clause-passed
returns-in-Some-clause-passed c = tt

pub returns-clause-walk : goal.returns-clause-walk
returns-clause-walk c = c.loop-number.invariant.walk

pub returns-clause-grown : goal.returns-clause-grown
returns-clause-grown c = c.loop-number.invariant.grown

pub returns-clause-lost : goal.returns-clause-lost
returns-clause-lost c = tt

pub returns-clause-first : goal.returns-clause-first
returns-clause-first c = tt

pub object-old-requires : goal.object-old-requires
object-old-requires c = c.requires.pair.before

pub object-new-requires : goal.object-new-requires
object-new-requires c = c.requires.pair.after
