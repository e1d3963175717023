use Rattle.std.proofs.Common.{arith, ap, subst, sym, ◌∙◌, ◌≡◌, ◌≤◌, ◌+◌, ◌*◌, min, ℕ, length, map}
use Rattle.std.specs.Prelude.{None}
use Rattle.g1_words.specs.Geometry.{most_words}
use Rattle.g1_words.specs.Heap.{start, object_at}
use Rattle.g1_rem.specs.Marks.{IsMarkedTo}
use Rattle.g1_rem.specs.Starts.{address_below}
use Rattle.g1_rem.proofs.Next.{NextOf}
use Rattle.g1_rem.proofs.Marks.{below_next}
use Rattle.g1_rem.proofs.Walks.{marking_start, marking_front, marking_some, marking_step, marking_end}
use Rattle.g1_rem.proofs.starts.mark_region.Goals as goal
use Rattle.g1_rem.proofs.starts.mark_region.Goals.{In-objects, After-size_at-size}

-- the object whose cards are marked
front : (c : In-objects) → NextOf c.args.heap.now c.args.region c.objects.invariant.0.place c.objects.at
front c =
    marking_front c.args.heap.now c.args.from c.args.until c.args.region c.objects.at c.objects_end-end.result
    (map address_below c.objects.firsts.items) c.geometry-geometry.ensures.valid c.requires.region c.objects.invariant.0 c.objects-test.true

-- its size, as it was read
size_read : (c : After-size_at-size) → c.size_at-size.result ≡ (object_at c.args.heap.now c.objects.at).size
size_read c = c.size_at-size.ensures

pub objects-init : goal.objects-init
objects-init c =
    let h = c.args.heap.now in
    let from : c.start-at.result ≡ start c.args.heap.now c.args.region = c.start-at.ensures.value ∙ ap (λ g. c.args.region * g.w) c.geometry-geometry.ensures.same in (
      marking_start h c.args.from c.args.until c.args.region c.start-at.result c.objects_end-end.result (map address_below c.args.firsts.now.items)
          c.geometry-geometry.ensures.valid c.requires.region from c.objects_end-end.ensures c.requires.told,
      c.requires.room,
    )

pub size_at-size-requires : goal.size_at-size-requires
size_at-size-requires c =
    let n = front (goal.at.size_at-size-requires c).In-objects in
    omega (arith, n.fits, c.geometry-geometry.ensures.valid.word_count)

pub overflow_cast-at : goal.overflow_cast-at
overflow_cast-at c =
    let n = front (goal.at.overflow_cast-at c).In-objects in
    omega (arith, n.fits, c.geometry-geometry.ensures.valid.limits.words_most)

pub overflow_add-at-in-objects : goal.overflow_add-at-in-objects
overflow_add-at-in-objects c =
    let n = front (goal.at.overflow_add-at-in-objects c).In-objects in
    omega (arith, n.fits, c.geometry-geometry.ensures.valid.limits.words_most)

pub mark-requires-clause-card : goal.mark-requires-clause-card
mark-requires-clause-card c =
    let k = c.card_words-k.ensures.value in
    (omega (arith, k, c.card_words-k.ensures.limits.k_least), omega (arith, k, c.card_words-k.ensures.limits.k_most))

pub mark-requires-clause-address : goal.mark-requires-clause-address
mark-requires-clause-address c = omega (arith, c.min.ensures, c.requires.until)

pub mark-requires-clause-room : goal.mark-requires-clause-room
mark-requires-clause-room c =
    let k : c.card_words-k.result ≡ c.args.heap.now.geometry.k = c.card_words-k.ensures.value ∙ ap (λ g. g.k) c.geometry-geometry.ensures.same in
    subst (λ k. c.args.from + length c.objects.firsts.items * k ≤ 2 * most_words) (sym k) c.objects.invariant.1

pub mark-requires-in-objects-clause-card : goal.mark-requires-in-objects-clause-card
mark-requires-in-objects-clause-card c =
    let k = c.card_words-k.ensures.value in
    (omega (arith, k, c.card_words-k.ensures.limits.k_least), omega (arith, k, c.card_words-k.ensures.limits.k_most))

pub mark-requires-in-objects-clause-address : goal.mark-requires-in-objects-clause-address
mark-requires-in-objects-clause-address c = omega (arith, c.min-in-objects.ensures, c.requires.until)

pub mark-requires-in-objects-clause-room : goal.mark-requires-in-objects-clause-room
mark-requires-in-objects-clause-room c = c.mark.ensures.room

pub objects-smaller : goal.objects-smaller
objects-smaller c =
    let some = marking_some c.args.heap.now c.args.from c.args.until c.args.region c.objects.at c.objects_end-end.result
    (map address_below c.objects.firsts.items) c.geometry-geometry.ensures.valid c.requires.region c.objects.invariant.0 c.objects-test.true c.size_at-size.result c.size_at-size.ensures in
    omega (arith, some, c.objects-test.true)

pub objects-preserved : goal.objects-preserved
objects-preserved c =
    let b = goal.at.objects-preserved c in
    let at : ℕ = c.objects.at in
    let size : ℕ = c.size_at-size.result in
    let old = map address_below c.objects.firsts.items in
    let mid = map address_below c.mark.new.firsts.items in
    let new = map address_below c.mark-in-objects.new.firsts.items in
    let k : c.card_words-k.result ≡ c.args.heap.now.geometry.k = c.card_words-k.ensures.value ∙ ap (λ g. g.k) c.geometry-geometry.ensures.same in
    let gap = subst (λ k. IsMarkedTo old mid c.args.from k (min at c.args.until) None) k
    (subst (λ x. IsMarkedTo old mid c.args.from c.card_words-k.result x None) c.min.ensures c.in_ok-mark.ensures.marked) in
    let cards = subst (λ v. IsMarkedTo mid new c.args.from c.args.heap.now.geometry.k (min (at + size) c.args.until) v) (below_next at)
    (subst (λ k. IsMarkedTo mid new c.args.from k (min (at + size) c.args.until) (address_below (at + 1))) k
    (subst (λ x. IsMarkedTo mid new c.args.from c.card_words-k.result x (address_below (at + 1))) c.min-in-objects.ensures c.in_ok-mark-2.ensures.marked)) in (
      marking_step c.args.heap.now c.args.from c.args.until c.args.region at c.objects_end-end.result old c.geometry-geometry.ensures.valid
          c.requires.region c.objects.invariant.0 c.objects-test.true mid new size (size_read b.After-size_at-size) gap cards,
      subst (λ k. c.args.from + length c.mark-in-objects.new.firsts.items * k ≤ 2 * most_words) k c.mark-in-objects.ensures.room,
    )

pub returns-clause-told : goal.returns-clause-told
returns-clause-told c =
    marking_end c.args.heap.now c.args.from c.args.until c.args.region c.objects.at c.objects_end-end.result
    (map address_below c.objects.firsts.items) c.objects.invariant.0 (omega (arith, c.objects-test.false))

pub returns-in_err-mark-clause-room : goal.returns-in_err-mark-clause-room
returns-in_err-mark-clause-room c =
    let k : c.card_words-k.result ≡ c.args.heap.now.geometry.k = c.card_words-k.ensures.value ∙ ap (λ g. g.k) c.geometry-geometry.ensures.same in
    subst (λ k. c.args.from + length c.mark.new.firsts.items * k ≤ 2 * most_words) k c.mark.ensures.room

pub returns-in_err-mark-2-clause-room : goal.returns-in_err-mark-2-clause-room
returns-in_err-mark-2-clause-room c =
    let k : c.card_words-k.result ≡ c.args.heap.now.geometry.k = c.card_words-k.ensures.value ∙ ap (λ g. g.k) c.geometry-geometry.ensures.same in
    subst (λ k. c.args.from + length c.mark-in-objects.new.firsts.items * k ≤ 2 * most_words) k c.mark-in-objects.ensures.room

pub overflow_add-at : goal.overflow_add-at
overflow_add-at c =
    let n = front (goal.at.overflow_add-at c).In-objects in
    omega (arith, n.fits, c.size_at-size.ensures, c.geometry-geometry.ensures.valid.word_count, c.geometry-geometry.ensures.valid.limits.words_most)

pub returns-clause-room : goal.returns-clause-room
returns-clause-room c = c.objects.invariant.1

pub overflow_add-at-in-objects-2 : goal.overflow_add-at-in-objects-2
overflow_add-at-in-objects-2 c =
    let n = front (goal.at.overflow_add-at-in-objects-2 c).In-objects in
    omega (arith, n.fits, c.size_at-size.ensures, c.geometry-geometry.ensures.valid.word_count, c.geometry-geometry.ensures.valid.limits.words_most)
