use Rattle.std.proofs.Common.{arith, ap, subst, sym, suc, inl, inr, ℕ, zero, ◌≡◌, ◌<◌, ◌+◌, ◌-◌, ◌∙◌, Contains, length, slice_index}
use Rattle.std.proofs.lemmas.List.{get_or_read}
use Rattle.g1_words.specs.Heap.{Heap, object_at, objects}
use Rattle.g1_words.specs.declared.object.Object.{Object}
use Rattle.g1_same.specs.declared.walk.Walk.{Walk}
use Rattle.g1_same.specs.declared.difference.How.{How}
use Rattle.g1_same.specs.declared.stale.StaleWords.{StaleWords}
use Rattle.g1_same.specs.Walk.{IsEarlier, IsLinked, IsWay, IsBelow, IsSeen, IsLeast, HasGrown}
use Rattle.g1_same.specs.Behind.{HasNoneAt, IsFound, IsNext, IsNextStale, IsStaleAt}
use Rattle.g1_same.proofs.Adding.{grown_more, grown_same}
use Rattle.g1_same.proofs.Steps.{none_then, some_then, pair_read, slots_read, old_names, new_names, slots_way}
use Rattle.g1_same.proofs.Between.{between_none, between_step, between_row, between_kept, alike_none, alike_more, not_before}
use Rattle.g1_same.proofs.Passing.{IsPlain, passes_none, passes_step, passes_row, passes_kept, plain_slot}
use Rattle.g1_same.proofs.searching.link_slots.Goals as goal

earlier_row : (p q f n : ℕ) → IsEarlier p q f n → IsEarlier p q (f + 1) 0
earlier_row p q f n (inl lt) = inl (omega (arith, lt))
earlier_row p q f n (inr e) = inl (omega (arith, e.0))

pub object-old-requires : goal.object-old-requires
object-old-requires c =
    let place : c.args.first.from - 1 < length c.args.walk.now.before.items = omega (arith, c.requires.some, c.requires.pair) in
    let a_is = get_or_read c.args.walk.now.before.items (c.args.first.from - 1) c.index.result.now place c.index.ensures 0 in
    subst (λ z. Contains (objects c.args.heaps.before.now) (object_at c.args.heaps.before.now z)) (sym a_is) (c.requires.walk.names_before (c.args.first.from - 1) place)

pub object-new-requires : goal.object-new-requires
object-new-requires c =
    (pair_read c.args.heaps c.args.walk.now c.args.first.from c.requires.walk c.requires.some c.requires.pair c.index.ensures c.index-2.ensures).after_in

pub bounds-there-number : goal.bounds-there-number
bounds-there-number c =
    let pair = pair_read c.args.heaps c.args.walk.now c.args.first.from c.requires.walk c.requires.some c.requires.pair c.index.ensures c.index-2.ensures in
    let r = slots_read c.args.heaps c.index.result.now c.index-2.result.now c.slots-here.result.now c.slots-there.result.now pair.before_in pair.after_in pair.header
    c.object-old.ensures.value c.object-new.ensures.value c.slots-here.ensures.count c.slots-here.ensures.each c.slots-there.ensures.count c.slots-there.ensures.each in
    omega (arith, c.loop-number-test.true, r.refs, r.here.count, r.there.count)

pub link-requires-clause-x : goal.link-requires-clause-x
link-requires-clause-x c =
    let pair = pair_read c.args.heaps c.args.walk.now c.args.first.from c.requires.walk c.requires.some c.requires.pair c.index.ensures c.index-2.ensures in
    let r = slots_read c.args.heaps c.index.result.now c.index-2.result.now c.slots-here.result.now c.slots-there.result.now pair.before_in pair.after_in pair.header
    c.object-old.ensures.value c.object-new.ensures.value c.slots-here.ensures.count c.slots-here.ensures.each c.slots-there.ensures.count c.slots-there.ensures.each in
    old_names r c.loop-number.number c.loop-number-test.true

pub link-requires-clause-y : goal.link-requires-clause-y
link-requires-clause-y c =
    let pair = pair_read c.args.heaps c.args.walk.now c.args.first.from c.requires.walk c.requires.some c.requires.pair c.index.ensures c.index-2.ensures in
    let r = slots_read c.args.heaps c.index.result.now c.index-2.result.now c.slots-here.result.now c.slots-there.result.now pair.before_in pair.after_in pair.header
    c.object-old.ensures.value c.object-new.ensures.value c.slots-here.ensures.count c.slots-here.ensures.each c.slots-there.ensures.count c.slots-there.ensures.each in
    new_names r c.loop-number.number c.loop-number-test.true

pub link-requires-clause-way : goal.link-requires-clause-way
link-requires-clause-way c =
    let pair = pair_read c.args.heaps c.args.walk.now c.args.first.from c.requires.walk c.requires.some c.requires.pair c.index.ensures c.index-2.ensures in
    let r = slots_read c.args.heaps c.index.result.now c.index-2.result.now c.slots-here.result.now c.slots-there.result.now pair.before_in pair.after_in pair.header
    c.object-old.ensures.value c.object-new.ensures.value c.slots-here.ensures.count c.slots-here.ensures.each c.slots-there.ensures.count c.slots-there.ensures.each in
    slots_way c.loop-number.walk c.args.first.from c.requires.some pair r c.loop-number.invariant.grown c.loop-number.number c.loop-number-test.true

pub link-requires-clause-below : goal.link-requires-clause-below
link-requires-clause-below c = c.loop-number.invariant.below

pub link-requires-clause-walk : goal.link-requires-clause-walk
link-requires-clause-walk c = c.loop-number.invariant.walk

pub link-requires-clause-backward : goal.link-requires-clause-backward
link-requires-clause-backward c = omega (arith, c.requires.pair, c.loop-number.invariant.grown.more)

pub loop-number-preserved : goal.loop-number-preserved
loop-number-preserved c =
    let pair = pair_read c.args.heaps c.args.walk.now c.args.first.from c.requires.walk c.requires.some c.requires.pair c.index.ensures c.index-2.ensures in
    let r = slots_read c.args.heaps c.index.result.now c.index-2.result.now c.slots-here.result.now c.slots-there.result.now pair.before_in pair.after_in pair.header
    c.object-old.ensures.value c.object-new.ensures.value c.slots-here.ensures.count c.slots-here.ensures.each c.slots-there.ensures.count c.slots-there.ensures.each in
    let g : Heap = c.args.heaps.before.now in
    let h : Heap = c.args.heaps.after.now in
    let w : Walk = c.loop-number.walk in
    let f : ℕ = c.args.first.from in
    let n : ℕ = c.loop-number.number in
    let v : Walk = c.link.new.walk in
    let step : HasGrown w v = c.in_ok-how.ensures.grown in
    let more : HasGrown c.args.walk.now v = grown_more c.args.walk.now w v c.loop-number.invariant.grown step in
    let way = slots_way v f c.requires.some pair r more n c.loop-number-test.true in
    let b : ℕ = c.index-2.result.now in
    let x : ℕ = slice_index c.slots-here.result.now n in
    let y : ℕ = slice_index c.slots-there.result.now n in
    let at : c.object-new.result.at ≡ b = ap (λ o. o.at) c.object-new.ensures.value in
    let none = none_then (HasNoneAt c.args.stale.now.slots.now (c.object-new.result.at + 1 + n) y) c.stale_word.result c.in_default.not-Some c.stale_word.ensures.none in
    let plain : IsPlain c.args.stale.now v f n y = plain_slot c.args.stale.now v f n b y c.requires.some (more.news (f - 1) pair.place ∙ pair.after)
    (subst (λ q. HasNoneAt c.args.stale.now.slots.now (q + 1 + n) y) at none) in
    let l : IsLinked v f n x y = none_then (IsLinked v f n x y) c.in_ok-how.field-0 c.in_default-2.not-Some c.in_ok-how.ensures.linked in
    record {
      walk = c.in_ok-how.ensures.walk;
      grown = more;
      alike = alike_more g h c.args.walk.now w v c.loop-number.invariant.alike c.in_ok-how.ensures.alike step;
      linked = between_step g h v f c.args.first.number f n x y
          (between_kept g h w v f c.args.first.number f n step (omega (arith, c.requires.pair, c.loop-number.invariant.grown.more)) c.loop-number.invariant.linked) way l;
      passed = passes_step g h c.args.stale.now v f c.args.first.number f n x y
          (passes_kept g h c.args.stale.now w v f c.args.first.number f n step (omega (arith, c.requires.pair, c.loop-number.invariant.grown.more)) c.loop-number.invariant.passed) way plain;
      below = c.in_ok-how.ensures.below;
      on = omega (arith, c.loop-number.invariant.on);
    }

pub loop-number-init : goal.loop-number-init
loop-number-init c = record {
  walk = c.requires.walk;
  grown = grown_same c.args.walk.now;
  alike = alike_none c.args.heaps.before.now c.args.heaps.after.now c.args.walk.now;
  linked = between_none c.args.heaps.before.now c.args.heaps.after.now c.args.walk.now c.args.first.from c.args.first.number;
  passed = passes_none c.args.heaps.before.now c.args.heaps.after.now c.args.stale.now c.args.walk.now c.args.first.from c.args.first.number;
  below = c.requires.below;
  on = omega arith;
}

pub returns-in-Some-2-clause-walk : goal.returns-in-Some-2-clause-walk
returns-in-Some-2-clause-walk c = c.in_ok-how.ensures.walk

pub returns-in-Some-clause-walk : goal.returns-in-Some-clause-walk
returns-in-Some-clause-walk c = c.loop-number.invariant.walk

pub returns-in-Some-2-clause-grown : goal.returns-in-Some-2-clause-grown
returns-in-Some-2-clause-grown c = grown_more c.args.walk.now c.loop-number.walk c.link.new.walk c.loop-number.invariant.grown c.in_ok-how.ensures.grown

pub returns-in-Some-clause-grown : goal.returns-in-Some-clause-grown
returns-in-Some-clause-grown c = c.loop-number.invariant.grown

pub returns-in-Some-2-clause-alike : goal.returns-in-Some-2-clause-alike
returns-in-Some-2-clause-alike c =
    alike_more c.args.heaps.before.now c.args.heaps.after.now c.args.walk.now c.loop-number.walk c.link.new.walk c.loop-number.invariant.alike c.in_ok-how.ensures.alike c.in_ok-how.ensures.grown

pub returns-in-Some-clause-alike : goal.returns-in-Some-clause-alike
returns-in-Some-clause-alike c = c.loop-number.invariant.alike

pub returns-in-Some-2-clause-below : goal.returns-in-Some-2-clause-below
returns-in-Some-2-clause-below c = λ i lt. earlier_row _ _ c.args.first.from (c.loop-number.number + 1) (c.in_ok-how.ensures.below i lt)

pub returns-in-Some-clause-below : goal.returns-in-Some-clause-below
returns-in-Some-clause-below c = λ i lt. earlier_row _ _ c.args.first.from c.loop-number.number (c.loop-number.invariant.below i lt)

pub returns-in-Some-2-clause-until : goal.returns-in-Some-2-clause-until
returns-in-Some-2-clause-until c =
    subst (IsNext c.args.heaps.before.now c.args.heaps.after.now c.link.new.walk c.args.first.from c.args.first.number) (sym c.found_at-in-Some-2.ensures) (
      not_before c.args.first.from c.args.first.number c.loop-number.number c.loop-number.invariant.on,
      between_kept c.args.heaps.before.now c.args.heaps.after.now c.loop-number.walk c.link.new.walk c.args.first.from c.args.first.number c.args.first.from c.loop-number.number
          c.in_ok-how.ensures.grown (omega (arith, c.requires.pair, c.loop-number.invariant.grown.more)) c.loop-number.invariant.linked,
    )

pub returns-in-Some-clause-until : goal.returns-in-Some-clause-until
returns-in-Some-clause-until c =
    subst (IsNext c.args.heaps.before.now c.args.heaps.after.now c.loop-number.walk c.args.first.from c.args.first.number) (sym c.found_at.ensures)
    (not_before c.args.first.from c.args.first.number c.loop-number.number c.loop-number.invariant.on, c.loop-number.invariant.linked)

-- the place of a slot in the list of stale words
stale_slot : (s : StaleWords) (w : Walk) (f n b z : ℕ) → 0 < f → slice_index w.after.items (f - 1) ≡ b → Contains s.slots.now (b + 1 + n, z) → IsStaleAt s w f n z
stale_slot s w zero n b z some is c = absurd (omega (arith, some))
stale_slot s w (suc j) n b z some is c =
    let e : suc j - 1 ≡ j = omega arith in
    subst (λ q. Contains s.slots.now (q + 1 + n, z)) (sym (subst (λ k. slice_index w.after.items k ≡ b) e is)) c

pub returns-clause-walk : goal.returns-clause-walk
returns-clause-walk c = c.loop-number.invariant.walk

pub returns-clause-grown : goal.returns-clause-grown
returns-clause-grown c = c.loop-number.invariant.grown

pub returns-clause-alike : goal.returns-clause-alike
returns-clause-alike c = c.loop-number.invariant.alike

pub returns-clause-below : goal.returns-clause-below
returns-clause-below c = λ i lt. earlier_row _ _ c.args.first.from c.loop-number.number (c.loop-number.invariant.below i lt)

-- a slot of the pair at a place
slot_below : (g h : Heap) (w : Walk) (f j x y a : ℕ) → 0 < f → slice_index w.before.items (f - 1) ≡ a → IsWay g h w.before.items w.after.items f j x y → j < (object_at g a).refs
slot_below g h w zero j x y a some is way = absurd (omega (arith, some))
slot_below g h w (suc i) j x y a some is way =
    let e : suc i - 1 ≡ i = omega arith in
    subst (λ z. j < (object_at g z).refs) (subst (λ k. slice_index w.before.items k ≡ a) e is) way.1

pub returns-clause-linked : goal.returns-clause-linked
returns-clause-linked c =
    let pair = pair_read c.args.heaps c.args.walk.now c.args.first.from c.requires.walk c.requires.some c.requires.pair c.index.ensures c.index-2.ensures in
    let r = slots_read c.args.heaps c.index.result.now c.index-2.result.now c.slots-here.result.now c.slots-there.result.now pair.before_in pair.after_in pair.header
    c.object-old.ensures.value c.object-new.ensures.value c.slots-here.ensures.count c.slots-here.ensures.each c.slots-there.ensures.count c.slots-there.ensures.each in
    between_row c.args.heaps.before.now c.args.heaps.after.now c.loop-number.walk c.args.first.from c.args.first.number c.args.first.from c.loop-number.number c.loop-number.invariant.linked
    (λ j x y way. let lt = slot_below c.args.heaps.before.now c.args.heaps.after.now c.loop-number.walk c.args.first.from j x y c.index.result.now c.requires.some
    (c.loop-number.invariant.grown.olds (c.args.first.from - 1) pair.place ∙ pair.before) way in omega (arith, lt, c.loop-number-test.false, r.here.count))

pub index-requires : goal.index-requires
index-requires c = omega (arith, c.requires.some, c.requires.pair, c.args.walk.now.before.ok)

pub index-requires-2 : goal.index-requires-2
index-requires-2 c = omega (arith, c.requires.some, c.requires.pair, c.requires.walk.pairs, c.args.walk.now.after.ok)

pub offset_bounds-here-number : goal.offset_bounds-here-number
offset_bounds-here-number c =
    let refs = c.slots-here.ensures.count in
    let few = ap (λ o. o.refs) c.object-old.ensures.value in
    record { fits = omega (arith, c.loop-number-test.true, refs, few) }

pub offset_bounds-there-number : goal.offset_bounds-there-number
offset_bounds-there-number c =
    let refs = c.slots-here.ensures.count in
    let few = ap (λ o. o.refs) c.object-old.ensures.value in
    record { fits = omega (arith, c.loop-number-test.true, refs, few) }

pub bounds-here-number : goal.bounds-here-number
bounds-here-number c = c.loop-number-test.true

pub loop-number-smaller : goal.loop-number-smaller
loop-number-smaller c = omega (arith, c.loop-number-test.true)

pub overflow_cast-way : goal.overflow_cast-way
overflow_cast-way c =
    let refs = c.slots-here.ensures.count in
    let few = ap (λ o. o.refs) c.object-old.ensures.value in
    record { fits = omega (arith, c.loop-number-test.true, refs, few) }

pub slots-here-requires : goal.slots-here-requires
slots-here-requires c =
    subst (λ (o : Object). Contains (objects c.args.heaps.before.now) o) (sym c.object-old.ensures.value)
    (pair_read c.args.heaps c.args.walk.now c.args.first.from c.requires.walk c.requires.some c.requires.pair c.index.ensures c.index-2.ensures).before_in

pub slots-there-requires : goal.slots-there-requires
slots-there-requires c =
    subst (λ (o : Object). Contains (objects c.args.heaps.after.now) o) (sym c.object-new.ensures.value)
    (pair_read c.args.heaps c.args.walk.now c.args.first.from c.requires.walk c.requires.some c.requires.pair c.index.ensures c.index-2.ensures).after_in

pub returns-in-Some-clause-found : goal.returns-in-Some-clause-found
returns-in-Some-clause-found c =
    let pair = pair_read c.args.heaps c.args.walk.now c.args.first.from c.requires.walk c.requires.some c.requires.pair c.index.ensures c.index-2.ensures in
    let r = slots_read c.args.heaps c.index.result.now c.index-2.result.now c.slots-here.result.now c.slots-there.result.now pair.before_in pair.after_in pair.header
    c.object-old.ensures.value c.object-new.ensures.value c.slots-here.ensures.count c.slots-here.ensures.each c.slots-there.ensures.count c.slots-there.ensures.each in
    let g : Heap = c.args.heaps.before.now in
    let h : Heap = c.args.heaps.after.now in
    let w : Walk = c.loop-number.walk in
    let f : ℕ = c.args.first.from in
    let n : ℕ = c.loop-number.number in
    let b : ℕ = c.index-2.result.now in
    let at : c.object-new.result.at ≡ b = ap (λ o. o.at) c.object-new.ensures.value in
    subst (IsFound g h c.args.stale.now w) (sym c.found_at.ensures) (record {
      way = slots_way w c.args.first.from c.requires.some pair r c.loop-number.invariant.grown n c.loop-number-test.true;
      below = c.loop-number.invariant.below;
      differs = (
        stale_slot c.args.stale.now w f n b c.in-Some.word c.requires.some (c.loop-number.invariant.grown.news (f - 1) pair.place ∙ pair.after)
            (subst (λ q. Contains c.args.stale.now.slots.now (q + 1 + n, c.in-Some.word)) at c.in-Some.ensures.there),
        c.in-Some.ensures.null,
      );
    })

pub returns-in-Some-2-clause-found : goal.returns-in-Some-2-clause-found
returns-in-Some-2-clause-found c =
    let pair = pair_read c.args.heaps c.args.walk.now c.args.first.from c.requires.walk c.requires.some c.requires.pair c.index.ensures c.index-2.ensures in
    let r = slots_read c.args.heaps c.index.result.now c.index-2.result.now c.slots-here.result.now c.slots-there.result.now pair.before_in pair.after_in pair.header
    c.object-old.ensures.value c.object-new.ensures.value c.slots-here.ensures.count c.slots-here.ensures.each c.slots-there.ensures.count c.slots-there.ensures.each in
    let g : Heap = c.args.heaps.before.now in
    let h : Heap = c.args.heaps.after.now in
    let w : Walk = c.loop-number.walk in
    let f : ℕ = c.args.first.from in
    let n : ℕ = c.loop-number.number in
    let v : Walk = c.link.new.walk in
    let step : HasGrown w v = c.in_ok-how.ensures.grown in
    let more : HasGrown c.args.walk.now v = grown_more c.args.walk.now w v c.loop-number.invariant.grown step in
    let way = slots_way v f c.requires.some pair r more n c.loop-number-test.true in
    let k = some_then (λ (how : How). IsSeen g h v how (slice_index c.slots-here.result.now n) (slice_index c.slots-there.result.now n) × IsBelow v f n
    × IsLeast g h v how (slice_index c.slots-here.result.now n) (slice_index c.slots-there.result.now n)) c.in_ok-how.field-0 c.in-Some-2.how c.in-Some-2.is c.in_ok-how.ensures.clash in
    subst (IsFound g h c.args.stale.now v) (sym c.found_at-in-Some-2.ensures) (record {
      way = way;
      below = k.1;
      differs = (k.0, k.2);
    })

pub returns-in-Some-clause-no_stale : goal.returns-in-Some-clause-no_stale
returns-in-Some-clause-no_stale c =
    subst (IsNextStale c.args.heaps.before.now c.args.heaps.after.now c.args.stale.now c.loop-number.walk c.args.first.from c.args.first.number) (sym c.found_at.ensures) c.loop-number.invariant.passed

pub returns-in-Some-2-clause-no_stale : goal.returns-in-Some-2-clause-no_stale
returns-in-Some-2-clause-no_stale c =
    let pair = pair_read c.args.heaps c.args.walk.now c.args.first.from c.requires.walk c.requires.some c.requires.pair c.index.ensures c.index-2.ensures in
    let r = slots_read c.args.heaps c.index.result.now c.index-2.result.now c.slots-here.result.now c.slots-there.result.now pair.before_in pair.after_in pair.header
    c.object-old.ensures.value c.object-new.ensures.value c.slots-here.ensures.count c.slots-here.ensures.each c.slots-there.ensures.count c.slots-there.ensures.each in
    let g : Heap = c.args.heaps.before.now in
    let h : Heap = c.args.heaps.after.now in
    let w : Walk = c.loop-number.walk in
    let f : ℕ = c.args.first.from in
    let n : ℕ = c.loop-number.number in
    let v : Walk = c.link.new.walk in
    let step : HasGrown w v = c.in_ok-how.ensures.grown in
    let more : HasGrown c.args.walk.now v = grown_more c.args.walk.now w v c.loop-number.invariant.grown step in
    let way = slots_way v f c.requires.some pair r more n c.loop-number-test.true in
    let b : ℕ = c.index-2.result.now in
    let x : ℕ = slice_index c.slots-here.result.now n in
    let y : ℕ = slice_index c.slots-there.result.now n in
    let at : c.object-new.result.at ≡ b = ap (λ o. o.at) c.object-new.ensures.value in
    let none = none_then (HasNoneAt c.args.stale.now.slots.now (c.object-new.result.at + 1 + n) y) c.stale_word.result c.in_default.not-Some c.stale_word.ensures.none in
    let plain : IsPlain c.args.stale.now v f n y = plain_slot c.args.stale.now v f n b y c.requires.some (more.news (f - 1) pair.place ∙ pair.after)
    (subst (λ q. HasNoneAt c.args.stale.now.slots.now (q + 1 + n) y) at none) in
    subst (IsNextStale g h c.args.stale.now v f c.args.first.number) (sym c.found_at-in-Some-2.ensures) (
    passes_step g h c.args.stale.now v f c.args.first.number f n x y
    (passes_kept g h c.args.stale.now w v f c.args.first.number f n step (omega (arith, c.requires.pair, c.loop-number.invariant.grown.more)) c.loop-number.invariant.passed) way plain
    )

pub returns-clause-no_stale_left : goal.returns-clause-no_stale_left
returns-clause-no_stale_left c =
    let pair = pair_read c.args.heaps c.args.walk.now c.args.first.from c.requires.walk c.requires.some c.requires.pair c.index.ensures c.index-2.ensures in
    let r = slots_read c.args.heaps c.index.result.now c.index-2.result.now c.slots-here.result.now c.slots-there.result.now pair.before_in pair.after_in pair.header
    c.object-old.ensures.value c.object-new.ensures.value c.slots-here.ensures.count c.slots-here.ensures.each c.slots-there.ensures.count c.slots-there.ensures.each in
    passes_row c.args.heaps.before.now c.args.heaps.after.now c.args.stale.now c.loop-number.walk c.args.first.from c.args.first.number c.args.first.from c.loop-number.number c.loop-number.invariant.passed
    (λ j x y way. let lt = slot_below c.args.heaps.before.now c.args.heaps.after.now c.loop-number.walk c.args.first.from j x y c.index.result.now c.requires.some
    (c.loop-number.invariant.grown.olds (c.args.first.from - 1) pair.place ∙ pair.before) way in omega (arith, lt, c.loop-number-test.false, r.here.count))
