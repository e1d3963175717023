use Rattle.std.proofs.Common.{◌≡◌, ◌<◌, ℕ, length, arith, sym, ap, subst, ◌∙◌}
use Rattle.std.specs.Prelude.{All}
use Rattle.g1_words.specs.Heap.{Heap}
use Rattle.g1_words.specs.Valid.{IsValid}
use Rattle.g1_image.specs.Draft.{IsDraft}
use Rattle.g1_image.specs.Stale.{IsStaleRoot, IsStaleSlot, nulled, without}
use Rattle.g1_image.proofs.StaleWords.{gathers_of, slot_places, valid_without}
use Rattle.g1_image.proofs.stale.heap_without.Goals as goal
use Rattle.g1_image.proofs.stale.heap_without.Goals.{After-with_nulls}

pub words_without-requires : goal.words_without-requires
words_without-requires c =
    let h = c.args.draft in
    let stale = c.args.stale.now in
    let draft : IsDraft h = subst IsDraft c.draft.view_is c.draft.invariant.0 in
    let places = slot_places h stale.roots.items stale.slots.items draft c.requires.shaped
    (gathers_of (IsStaleRoot h) stale.roots.items c.requires.roots) (gathers_of (IsStaleSlot h) stale.slots.items c.requires.slots) in
    let here : All (λ (e : ℕ × ℕ). e.0 < length h.words) c.deref.result.now = subst (All (λ (e : ℕ × ℕ). e.0 < length h.words)) (sym c.deref.ensures.value) places in
    subst (λ n. All (λ (e : ℕ × ℕ). e.0 < n) c.deref.result.now) (sym (ap (λ (x : Heap). length x.words) c.draft.view_is)) here

-- the heap that is made is valid
valid_made : (c : After-with_nulls) → IsValid (record {
  geometry = c.draft.inside.geometry;
  words = c.words_without.result.items;
  regions = c.draft.inside.regions.items;
  roots = c.with_nulls.result.items;
  current = c.draft.inside.current;
})
valid_made c =
    let h = c.args.draft in
    let stale = c.args.stale.now in
    let draft : IsDraft h = subst IsDraft c.draft.view_is c.draft.invariant.0 in
    let made : Heap = record {
      geometry = c.draft.inside.geometry;
      words = c.words_without.result.items;
      regions = c.draft.inside.regions.items;
      roots = c.with_nulls.result.items;
      current = c.draft.inside.current;
    } in
    let words : c.words_without.result.items ≡ nulled stale.slots.items h.words = c.words_without.ensures.items ∙ (λ t. nulled (c.deref.ensures.value t) (c.draft.view_is t).words) in
    let roots : c.with_nulls.result.items ≡ nulled stale.roots.items h.roots = c.with_nulls.ensures ∙ (λ t. nulled (c.deref-2.ensures.value t) (c.draft.view_is t).roots) in
    let same : made ≡ without h stale.roots.items stale.slots.items = λ t. record {
      geometry = (c.draft.view_is t).geometry;
      words = words t;
      regions = (c.draft.view_is t).regions;
      roots = roots t;
      current = (c.draft.view_is t).current;
    } in
    subst IsValid (sym same) (valid_without h stale.roots.items stale.slots.items draft c.requires.shaped
    (gathers_of (IsStaleRoot h) stale.roots.items c.requires.roots) (gathers_of (IsStaleSlot h) stale.slots.items c.requires.slots) c.requires.pins c.requires.zeros)

pub invariant_of-result : goal.invariant_of-result
invariant_of-result c =
    let at = (goal.at.invariant_of-result c).After-with_nulls in
    let had = c.draft.invariant.1 in
    (valid_made at, λ r i lt small few. let there = had r i lt small few in omega (arith, there, at.words_without.ensures.laid))

pub returns-clause-valid : goal.returns-clause-valid
returns-clause-valid c = valid_made (goal.at.returns-clause-valid c).After-with_nulls
