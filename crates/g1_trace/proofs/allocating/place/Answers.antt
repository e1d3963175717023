use Rattle.std.proofs.Common.{◌≡◌, ◌+◌, true, false, sym, ◌∙◌, subst, arith}
use Rattle.g1_words.specs.Heap.{Heap}
use Rattle.g1_words.specs.Valid.{IsValid}
use Rattle.g1_words.proofs.Shapes.{built}
use Rattle.g1_trace.specs.Mutator.{is_humongous}
use Rattle.g1_trace.proofs.Placed.{IsPlace, humongous_is, place_is, is_ordinary_heap, is_humongous_heap}
use Rattle.g1_trace.proofs.allocating.place.Goals as goal

pub place_humongous-requires-clause-region : goal.place_humongous-requires-clause-region
place_humongous-requires-clause-region c =
    let h : Heap = c.args.heap.now in
    let count = c.geometry-geometry.ensures.valid.region_count in
    let place : IsPlace h (1 + c.args.refs + c.args.words) c.args.r = place_is h (built h c.geometry-geometry.ensures.valid) (1 + c.args.refs + c.args.words) c.args.r (omega arith) c.requires.place in
    omega (arith, place.there, count)

pub place_humongous-requires-clause-free : goal.place_humongous-requires-clause-free
place_humongous-requires-clause-free c =
    let h : Heap = c.args.heap.now in
    let big : is_humongous h (1 + c.args.refs + c.args.words) ≡ true =
    humongous_is h c.geometry-geometry.result (1 + c.args.refs + c.args.words) c.is_humongous.result c.geometry-geometry.ensures.same c.is_humongous.ensures ∙ c.if-is_humongous.true in
    let place : IsPlace h (1 + c.args.refs + c.args.words) c.args.r = place_is h (built h c.geometry-geometry.ensures.valid) (1 + c.args.refs + c.args.words) c.args.r (omega arith) c.requires.place in
    place.low big

pub place_humongous-requires-clause-run : goal.place_humongous-requires-clause-run
place_humongous-requires-clause-run c =
    let h : Heap = c.args.heap.now in
    let big : is_humongous h (1 + c.args.refs + c.args.words) ≡ true =
    humongous_is h c.geometry-geometry.result (1 + c.args.refs + c.args.words) c.is_humongous.result c.geometry-geometry.ensures.same c.is_humongous.ensures ∙ c.if-is_humongous.true in
    let count = c.geometry-geometry.ensures.valid.region_count in
    let place : IsPlace h (1 + c.args.refs + c.args.words) c.args.r = place_is h (built h c.geometry-geometry.ensures.valid) (1 + c.args.refs + c.args.words) c.args.r (omega arith) c.requires.place in
    let run = place.run big in omega (arith, run, count)

pub place_humongous-requires-clause-header : goal.place_humongous-requires-clause-header
place_humongous-requires-clause-header c =
    let h : Heap = c.args.heap.now in
    let place : IsPlace h (1 + c.args.refs + c.args.words) c.args.r = place_is h (built h c.geometry-geometry.ensures.valid) (1 + c.args.refs + c.args.words) c.args.r (omega arith) c.requires.place in
    omega (arith, place.within)

pub place_humongous-requires-clause-kept : goal.place_humongous-requires-clause-kept
place_humongous-requires-clause-kept c =
    let h : Heap = c.args.heap.now in
    let big : is_humongous h (1 + c.args.refs + c.args.words) ≡ true =
    humongous_is h c.geometry-geometry.result (1 + c.args.refs + c.args.words) c.is_humongous.result c.geometry-geometry.ensures.same c.is_humongous.ensures ∙ c.if-is_humongous.true in
    let count = c.geometry-geometry.ensures.valid.region_count in
    subst IsValid (is_humongous_heap h count c.args.r (1 + c.args.refs + c.args.words) c.args.refs c.args.root big) c.requires.kept

pub place_ordinary-requires-clause-fits : goal.place_ordinary-requires-clause-fits
place_ordinary-requires-clause-fits c =
    let h : Heap = c.args.heap.now in
    let plain : is_humongous h (1 + c.args.refs + c.args.words) ≡ false =
    humongous_is h c.geometry-geometry.result (1 + c.args.refs + c.args.words) c.is_humongous.result c.geometry-geometry.ensures.same c.is_humongous.ensures ∙ c.if-is_humongous.false in
    let place : IsPlace h (1 + c.args.refs + c.args.words) c.args.r = place_is h (built h c.geometry-geometry.ensures.valid) (1 + c.args.refs + c.args.words) c.args.r (omega arith) c.requires.place in
    let fits = place.ordinary plain in omega (arith, fits, c.geometry-geometry.ensures.valid.limits.w_most)

pub place_ordinary-requires-clause-header : goal.place_ordinary-requires-clause-header
place_ordinary-requires-clause-header c =
    let h : Heap = c.args.heap.now in
    let place : IsPlace h (1 + c.args.refs + c.args.words) c.args.r = place_is h (built h c.geometry-geometry.ensures.valid) (1 + c.args.refs + c.args.words) c.args.r (omega arith) c.requires.place in
    omega (arith, place.within)

pub place_ordinary-requires-clause-kept : goal.place_ordinary-requires-clause-kept
place_ordinary-requires-clause-kept c =
    let h : Heap = c.args.heap.now in
    let plain : is_humongous h (1 + c.args.refs + c.args.words) ≡ false =
    humongous_is h c.geometry-geometry.result (1 + c.args.refs + c.args.words) c.is_humongous.result c.geometry-geometry.ensures.same c.is_humongous.ensures ∙ c.if-is_humongous.false in
    let count = c.geometry-geometry.ensures.valid.region_count in
    let place : IsPlace h (1 + c.args.refs + c.args.words) c.args.r = place_is h (built h c.geometry-geometry.ensures.valid) (1 + c.args.refs + c.args.words) c.args.r (omega arith) c.requires.place in
    subst IsValid (is_ordinary_heap h count c.args.r (1 + c.args.refs + c.args.words) c.args.refs c.args.root place.there plain) c.requires.kept

pub returns-then-is_humongous : goal.returns-then-is_humongous
returns-then-is_humongous c =
    let h : Heap = c.args.heap.now in
    let big : is_humongous h (1 + c.args.refs + c.args.words) ≡ true =
    humongous_is h c.geometry-geometry.result (1 + c.args.refs + c.args.words) c.is_humongous.result c.geometry-geometry.ensures.same c.is_humongous.ensures ∙ c.if-is_humongous.true in
    let count = c.geometry-geometry.ensures.valid.region_count in
    c.place_humongous.ensures ∙ sym (is_humongous_heap h count c.args.r (1 + c.args.refs + c.args.words) c.args.refs c.args.root big)

pub returns-else-is_humongous : goal.returns-else-is_humongous
returns-else-is_humongous c =
    let h : Heap = c.args.heap.now in
    let plain : is_humongous h (1 + c.args.refs + c.args.words) ≡ false =
    humongous_is h c.geometry-geometry.result (1 + c.args.refs + c.args.words) c.is_humongous.result c.geometry-geometry.ensures.same c.is_humongous.ensures ∙ c.if-is_humongous.false in
    let count = c.geometry-geometry.ensures.valid.region_count in
    let place : IsPlace h (1 + c.args.refs + c.args.words) c.args.r = place_is h (built h c.geometry-geometry.ensures.valid) (1 + c.args.refs + c.args.words) c.args.r (omega arith) c.requires.place in
    c.place_ordinary.ensures ∙ sym (is_ordinary_heap h count c.args.r (1 + c.args.refs + c.args.words) c.args.refs c.args.root place.there plain)
