use Rattle.std.proofs.Common.{arith, ap, subst, ◌≡◌, ◌<◌, ◌≤◌, ◌+◌, ◌*◌, ◌/◌, ◌%◌, ◌^◌, ◌∙◌, length, slice_index, ℕ}
use Rattle.g1_words.specs.Geometry.{most_words}
use Rattle.g1_words.specs.Heap.{Heap, word, start, objects_in, object_at}
use Rattle.g1_words.specs.Valid.{Tiles}
use Rattle.g1_rem.proofs.Next.{NextOf}
use Rattle.g1_rem.proofs.Walks.{asking_start, asking_front, asking_behind, asking_fits, asking_good, asking_found, asking_step, asking_end, asking_ready}
use Rattle.g1_rem.proofs.cover.first_in.Goals as goal
use Rattle.g1_rem.proofs.cover.first_in.Goals.{In-objects, After-words, After-header-object}

-- the object whose slots are asked
front : (c : In-objects) → NextOf c.args.image.now.heap c.args.region c.objects.invariant.place c.objects.at
front c =
    asking_front c.args.image.now c.args.region c.objects.at c.objects_end-end.result c.objects.places c.heap-heap.ensures.valid.heap c.requires.region c.objects.invariant c.objects-test.true

-- the words that were read are the heap's
the_words : (c : After-words) → c.words.result.now.items ≡ c.args.image.now.heap.words
the_words c = c.words.ensures.same ∙ ap (λ (h : Heap). h.words) c.heap-heap.ensures.same

-- its number of references and its size, as they were read
refs_read : (c : After-header-object) → c.header-object.result.refs ≡ word c.args.image.now.heap c.objects.at % 2 ^ 32
refs_read c = ap (λ o. o.refs) c.header-object.ensures.value ∙ ap (λ l. slice_index l c.objects.at % 2 ^ 32) (c.words.ensures.same ∙ ap (λ (h : Heap). h.words) c.heap-heap.ensures.same)

size_read : (c : After-header-object) → c.header-object.result.size ≡ (object_at c.args.image.now.heap c.objects.at).size
size_read c = ap (λ o. o.size) c.header-object.ensures.value ∙ ap (λ l. slice_index l c.objects.at / 2 ^ 32) (c.words.ensures.same ∙ ap (λ (h : Heap). h.words) c.heap-heap.ensures.same)

-- the object has a word at least, and ends within the words
fits : (c : In-objects) (size : ℕ) → size ≡ (object_at c.args.image.now.heap c.objects.at).size → (0 < size) × (c.objects.at + size ≤ most_words)
fits c size e =
    asking_fits c.args.image.now c.args.region c.objects.at c.objects_end-end.result c.objects.places c.heap-heap.ensures.valid.heap c.requires.region c.objects.invariant c.objects-test.true size e

pub objects-init : goal.objects-init
objects-init c =
    let i = c.args.image.now in
    let same = c.heap-heap.ensures.same in
    let from : c.start-at.result ≡ start c.args.image.now.heap c.args.region =
    c.start-at.ensures.value ∙ ap (λ g. c.args.region * g.w) c.geometry.ensures.same ∙ ap (λ (h : Heap). c.args.region * h.geometry.w) same in
    let row : Tiles c.args.image.now.heap.words (start c.args.image.now.heap c.args.region) (objects_in c.args.image.now.heap c.args.region) c.objects_end-end.result =
    subst (λ (h : Heap). Tiles h.words (start h c.args.region) (objects_in h c.args.region) c.objects_end-end.result) same c.objects_end-end.ensures in
    asking_start i c.args.region c.start-at.result c.objects_end-end.result c.args.places.now c.heap-heap.ensures.valid.heap c.requires.region from row c.requires.ready

pub header-object-requires : goal.header-object-requires
header-object-requires c =
    let b = goal.at.header-object-requires c in
    let n = front b.In-objects in
    let len = ap length (the_words b.After-words) in
    omega (arith, n.fits, len, c.heap-heap.ensures.valid.heap.word_count)

pub overflow_add-at : goal.overflow_add-at
overflow_add-at c =
    let n = front (goal.at.overflow_add-at c).In-objects in
    omega (arith, n.fits, c.heap-heap.ensures.valid.heap.limits.words_most)

pub overflow_add-at-in-objects : goal.overflow_add-at-in-objects
overflow_add-at-in-objects c =
    let n = front (goal.at.overflow_add-at-in-objects c).In-objects in
    omega (arith, n.fits, c.heap-heap.ensures.valid.heap.limits.words_most)

pub overflow_add-at-in-objects-2 : goal.overflow_add-at-in-objects-2
overflow_add-at-in-objects-2 c =
    let b = goal.at.overflow_add-at-in-objects-2 c in
    let n = front b.In-objects in
    let e = refs_read b.After-header-object in
    omega (arith, n.fits, e, n.refs_is, c.heap-heap.ensures.valid.heap.limits.words_most)

pub first_between-requires-clause-slots : goal.first_between-requires-clause-slots
first_between-requires-clause-slots c =
    let b = goal.at.first_between-requires-clause-slots c in
    let n = front b.In-objects in
    let e = refs_read b.After-header-object in
    omega (arith, n.fits, e, n.refs_is, c.heap-heap.ensures.valid.heap.word_count)

pub first_between-requires-clause-references : goal.first_between-requires-clause-references
first_between-requires-clause-references c =
    let b = goal.at.first_between-requires-clause-references c in
    asking_good c.args.image.now c.args.region c.objects.at c.objects_end-end.result c.objects.places c.heap-heap.ensures.valid.heap c.requires.region c.objects.invariant c.objects-test.true
    c.header-object.result.refs (refs_read b.After-header-object)

pub first_between-requires-clause-behind : goal.first_between-requires-clause-behind
first_between-requires-clause-behind c =
    asking_behind c.args.image.now c.args.region c.objects.at c.objects_end-end.result c.objects.places c.heap-heap.ensures.valid.heap c.requires.region c.objects.invariant c.objects-test.true

pub returns-in-Some-clause-first : goal.returns-in-Some-clause-first
returns-in-Some-clause-first c =
    let b = goal.at.returns-in-Some-clause-first c in
    asking_found c.args.image.now c.args.region c.objects.at c.objects_end-end.result c.objects.places c.heap-heap.ensures.valid.heap c.requires.region c.objects.invariant c.objects-test.true
    c.header-object.result.refs (refs_read b.After-header-object) c.in-Some.p c.in-Some.ensures.first

pub overflow_add-at-in-objects-3 : goal.overflow_add-at-in-objects-3
overflow_add-at-in-objects-3 c =
    let b = goal.at.overflow_add-at-in-objects-3 c in
    omega (arith, (fits b.In-objects c.header-object.result.size (size_read b.After-header-object)).1)

pub objects-smaller : goal.objects-smaller
objects-smaller c =
    let b = goal.at.objects-smaller c in
    omega (arith, (fits b.In-objects c.header-object.result.size (size_read b.After-header-object)).0, c.objects-test.true)

pub objects-preserved : goal.objects-preserved
objects-preserved c =
    let b = goal.at.objects-preserved c in
    asking_step c.args.image.now c.args.region c.objects.at c.objects_end-end.result c.objects.places c.heap-heap.ensures.valid.heap c.requires.region c.objects.invariant c.objects-test.true
    c.header-object.result.refs (refs_read b.After-header-object) c.first_between.new.places c.header-object.result.size
    (size_read b.After-header-object) c.in_default.ensures.first c.first_between.ensures.behind

pub returns-clause-first : goal.returns-clause-first
returns-clause-first c =
    asking_end c.args.image.now c.args.region c.objects.at c.objects_end-end.result c.objects.places c.objects.invariant (omega (arith, c.objects-test.false))

pub returns-clause-ready : goal.returns-clause-ready
returns-clause-ready c = λ none.
    asking_ready c.args.image.now c.args.region c.objects.at c.objects_end-end.result c.objects.places c.objects.invariant (omega (arith, c.objects-test.false))
