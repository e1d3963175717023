use Rattle.std.proofs.Common.{arith, ◌≡◌, ◌<◌, ◌^◌, [], map, length, slice_index_or, refl, sym, ap, subst, ◌∙◌, below_more, false, true}
use Rattle.std.proofs.lemmas.List.{length-map}
use Rattle.g1_image.specs.Image.{IsRememberedSet}
use Rattle.g1_image.proofs.Logs.{map_at}
use Rattle.g1_image.proofs.cards.check_remembered.Goals as goal

pub is_remembered_set-requires-clause-count : goal.is_remembered_set-requires-clause-count
is_remembered_set-requires-clause-count c =
    let r = c.loop-r.r in
    let n : c.regions-regions.result ≡ c.args.draft.now.geometry.n = c.regions-regions.ensures.value ∙ ap (λ g. g.n) c.geometry.ensures.same in
    let lt : r < length c.args.remembered.now = omega (arith, c.loop-r-test.true, n, c.requires.one_each) in
    let same : slice_index_or (map (λ s. s.items) c.args.remembered.now) r [] ≡ c.index-remembered-r.result.items =
    map_at (λ s. s.items) c.args.remembered.now r c.index-remembered-r.result [] lt c.index-remembered-r.is in
    let fits : length (slice_index_or (map (λ s. s.items) c.args.remembered.now) r []) < 2 ^ 32 = c.requires.counts r [] (omega (arith, lt, length-map c.args.remembered.now (λ s. s.items))) in
    omega (arith, ap length (same ∙ sym c.deref.ensures.value), fits)

pub returns-then-not-is_remembered_set-clause-err : goal.returns-then-not-is_remembered_set-clause-err
returns-then-not-is_remembered_set-clause-err c =
    let h = c.args.draft.now in
    let r = c.loop-r.r in
    let n : c.regions-regions.result ≡ c.args.draft.now.geometry.n = c.regions-regions.ensures.value ∙ ap (λ g. g.n) c.geometry.ensures.same in
    let lt : r < length c.args.remembered.now = omega (arith, c.loop-r-test.true, n, c.requires.one_each) in
    let same : slice_index_or (map (λ s. s.items) c.args.remembered.now) r [] ≡ c.deref.result.now =
    map_at (λ s. s.items) c.args.remembered.now r c.index-remembered-r.result [] lt c.index-remembered-r.is ∙ sym c.deref.ensures.value in (
      r,
      refl,
      record {
        within = omega (arith, c.loop-r-test.true, n);
        breach = λ s. let e : false ≡ true = c.if-not-is_remembered_set.ensures.1 (subst (λ l. IsRememberedSet h r l) same s) in cc;
        before = c.loop-r.invariant;
      },
    )

pub loop-r-preserved : goal.loop-r-preserved
loop-r-preserved c =
    let h = c.args.draft.now in
    let r = c.loop-r.r in
    let n : c.regions-regions.result ≡ c.args.draft.now.geometry.n = c.regions-regions.ensures.value ∙ ap (λ g. g.n) c.geometry.ensures.same in
    let lt : r < length c.args.remembered.now = omega (arith, c.loop-r-test.true, n, c.requires.one_each) in
    let same : slice_index_or (map (λ s. s.items) c.args.remembered.now) r [] ≡ c.deref.result.now =
    map_at (λ s. s.items) c.args.remembered.now r c.index-remembered-r.result [] lt c.index-remembered-r.is ∙ sym c.deref.ensures.value in
    below_more _ _ c.loop-r.invariant (subst (λ l. IsRememberedSet h r l) (sym same) (c.if-not-is_remembered_set.ensures.0 refl))

pub loop-r-smaller : goal.loop-r-smaller
loop-r-smaller c = omega (arith, c.loop-r-test.true)

pub loop-r-init : goal.loop-r-init
loop-r-init c = λ q lt. absurd (omega (arith, lt))

pub bounds-remembered-r : goal.bounds-remembered-r
bounds-remembered-r c = omega (arith, c.loop-r-test.true, c.regions-regions.ensures.value, ap (λ g. g.n) c.geometry.ensures.same, c.requires.one_each)

pub is_remembered_set-requires-clause-there : goal.is_remembered_set-requires-clause-there
is_remembered_set-requires-clause-there c = omega (arith, c.loop-r-test.true, c.regions-regions.ensures.value, ap (λ g. g.n) c.geometry.ensures.same)

pub returns-clause-ok : goal.returns-clause-ok
returns-clause-ok c = λ r lt. c.loop-r.invariant r (omega (arith, lt, c.loop-r-test.false, c.regions-regions.ensures.value, ap (λ g. g.n) c.geometry.ensures.same))
