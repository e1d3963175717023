use Rattle.std.proofs.Common.{◌≡◌, ◌≤◌, ◌<◌, ℕ, [], ◌++◌, ◌∙◌, inr, arith, sym, ap, subst, codes, decimal, slice_index, length}
use Rattle.std.specs.Prelude.{All}
use Rattle.std.proofs.lemmas.List.{get_or_default, take_all}
use borrow.Author.Count.{below_more}
use Rattle.g1_words.specs.Geometry.{Geometry}
use Rattle.g1_words.specs.Heap.{Heap}
use Rattle.g1_image.specs.Image.{IsUsedCard}
use Rattle.g1_text.proofs.Pushing.{push_joined}
use Rattle.g1heap_cli.specs.Refusals.{Tells, told_line, ended}
use Rattle.g1heap_cli.specs.Young.{region_cards, young_cards, HasRegionAt}
use Rattle.g1heap_cli.proofs.YoungUsed.{young_used}
use Rattle.g1heap_cli.proofs.young.cards_of.Goals as goal

pub loop-region-preserved : goal.loop-region-preserved
loop-region-preserved c =
    let i = c.args.image.now in
    let young = c.args.young.now in
    let k : ℕ = c.loop-region.region-index in
    let push = subst (λ (h : Heap). c.push_region.new.cards.items ≡ c.loop-region.cards.items ++ region_cards h (slice_index young k)) c.heap-heap.ensures.same c.in-Ok.ensures in
    let count : c.regions.result ≡ i.heap.geometry.n = c.regions.ensures.value ∙ ap (λ (g : Geometry). g.n) c.geometry-geometry.ensures.same ∙ ap (λ (h : Heap). h.geometry.n) c.heap-heap.ensures.same in
    record {
      cards = push_joined (region_cards i.heap) young 0 k
          (omega (arith, c.loop-region-test.true, c.loop-region.auto.region-index-end)) [] c.loop-region.cards.items c.push_region.new.cards.items
          c.loop-region.invariant.cards push;
      there = below_more (HasRegionAt i young) k c.loop-region.invariant.there (omega (arith, c.if-from-regions.false, c.from.ensures, count));
    }

-- the first region that the image lacks
pub returns-then-from-regions-clause-refused : goal.returns-then-from-regions-clause-refused
returns-then-from-regions-clause-refused c =
    let i = c.args.image.now in
    let young = c.args.young.now in
    let k : ℕ = c.loop-region.region-index in
    let count : c.regions.result ≡ i.heap.geometry.n = c.regions.ensures.value ∙ ap (λ (g : Geometry). g.n) c.geometry-geometry.ensures.same ∙ ap (λ (h : Heap). h.geometry.n) c.heap-heap.ensures.same in
    let again : c.regions-then-from-regions.result ≡ i.heap.geometry.n = c.regions-then-from-regions.ensures.value ∙ ap (λ (g : Geometry). g.n) c.geometry-geometry.ensures.same ∙ ap (λ (h : Heap). h.geometry.n) c.heap-heap.ensures.same in
    let lacks : i.heap.geometry.n ≤ slice_index young k = omega (arith, c.if-from-regions.true, c.from.ensures, count) in
    inr (
      k,
      record {
        within = omega (arith, c.loop-region-test.true, c.loop-region.auto.region-index-end);
        breach = λ (there : slice_index young k < i.heap.geometry.n). omega (arith, there, lacks);
        before = c.loop-region.invariant.there;
      },
      (
        lacks,
        subst (λ n. Tells 2 (λ t. t ≡ told_line c.args.name.now (codes "no region " ++ (decimal (slice_index young k) ++ (codes ": the image has " ++ ended (decimal n))))) c.no_region.result) again c.no_region.ensures,
      ),
    )

-- the regions are the heap's
pub returns-clause-used : goal.returns-clause-used
returns-clause-used c =
    let i = c.args.image.now in
    let young = c.args.young.now in
    let k : ℕ = c.loop-region.region-index in
    let whole : length young ≤ k = omega (arith, c.loop-region-test.false, c.loop-region.auto.region-index-end) in
    let all : All (λ r. r < i.heap.geometry.n) young = λ q d lt. subst (λ r. r < i.heap.geometry.n) (get_or_default young q 0 d lt) (c.loop-region.invariant.there q (omega (arith, lt, whole))) in
    let cards : c.loop-region.cards.items ≡ young_cards i.heap young = c.loop-region.invariant.cards ∙ ap (young_cards i.heap) (take_all k young whole) in
    subst (All (IsUsedCard i.heap)) (sym cards) (young_used i.heap c.heap-heap.ensures.valid.heap young all)
