use Rattle.std.proofs.Common.{◌≡◌, ◌<◌, ◌+◌, ◌++◌, ◌∷◌, ◌==◌, [], ℕ, List, length, take, map, slice_index_or, arith, inr, refl, sym, ap, ◌∙◌, below_more}
use Rattle.std.proofs.lemmas.List.{take_all, take_more, map-append}
use Rattle.g1_words.specs.declared.region.Region.{Region}
use Rattle.g1_image.specs.Text.{Entry}
use Rattle.g1_image.specs.Image.{region_of_entry}
use Rattle.g1_image.specs.Faults.{IsKnownKind}
use Rattle.g1_image.proofs.table.regions.Goals as goal

-- the region of one entry more
regions_more : (table : List Entry) (r : ℕ) (d : Entry) (old new : List Region) (q : Region) → r < length table → old ≡ map region_of_entry (take r table) → new ≡ old ++ q ∷ [] →
    q ≡ region_of_entry (slice_index_or table r d) → new ≡ map region_of_entry (take (r + 1) table)
regions_more table r d old new q lt before pushed same =
    pushed ∙ (λ t. before t ++ same t ∷ [])
    ∙ sym (ap (map region_of_entry) (take_more table r d lt) ∙ map-append region_of_entry (take r table) (slice_index_or table r d ∷ []))

pub loop-r-init : goal.loop-r-init
loop-r-init c = (c.in_ok-regions.ensures.items, λ q lt. absurd (omega arith))

pub returns-clause-ok : goal.returns-clause-ok
returns-clause-ok c = (
  c.loop-r.invariant.0 ∙ ap (λ t. map region_of_entry t) (take_all c.loop-r.r c.args.table.now c.loop-r-test.false),
  λ r lt. c.loop-r.invariant.1 r (omega (arith, lt, c.loop-r-test.false)),
)

pub returns-in-None-clause-err : goal.returns-in-None-clause-err
returns-in-None-clause-err c =
    inr (c.loop-r.r, refl, record { within = c.loop-r-test.true; breach = λ known. omega (arith, known, c.in-None.ensures.none); before = c.loop-r.invariant.1 })

pub loop-r-smaller : goal.loop-r-smaller
loop-r-smaller c = omega (arith, c.loop-r-test.true)

pub loop-r-preserved : goal.loop-r-preserved
loop-r-preserved c =
    let table = c.args.table.now in
    let r = c.loop-r.r in
    let none : Entry = record { kind = 0; top = 0; flags = 0 } in
    let e : Entry = slice_index_or c.args.table.now c.loop-r.r (record { kind = 0; top = 0; flags = 0 }) in
    let found = c.in-Some.ensures.found in (
      regions_more table r none c.loop-r.regions.items _ _ c.loop-r-test.true c.loop-r.invariant.0 c.in_ok-push.ensures.items
          (λ t. record { kind = found.0 t; top = e.top; pinned = e.flags == 1 }),
      below_more (IsKnownKind table) r c.loop-r.invariant.1 found.1,
    )
