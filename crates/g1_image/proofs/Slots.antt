-- A walk over headers that looks at each object's slots.
use Rattle.std.proofs.Common.{◌≡◌, ◌≤◌, ◌<◌, ℕ, ◌+◌, ◌-◌, ◌*◌, ◌^◌, inl, inr, slice_index, sym, arith, subst, ◌∙◌}
use Rattle.std.proofs.lemmas.Bool.{cases_lt}
use Rattle.std.proofs.Math.Nat.{mul-le-mul_left, mul-sub}
use Rattle.g1_words.specs.Heap.{Heap, region, end}
use Rattle.g1_words.specs.Valid.{HasObject, IsReference, IsShapedBy, IsSlotOf, IsWholeRun}
use Rattle.g1_words.specs.declared.object.Object.{Object}
use Rattle.g1_words.specs.declared.region.Kind.{Kind}
use Rattle.g1_words.specs.declared.region.Kind.TheVariants.{Free, Ordinary, HumongousFirst, Continuation}
use Rattle.g1_words.proofs.Tiling.{Tiles-le, same_object}
use Rattle.g1_words.proofs.Objects.{StandsIn}
use Rattle.g1_image.specs.Draft.{ShapedBelow}
use Rattle.g1_image.specs.Marks.{StartsAt}
use Rattle.g1_image.specs.Faults.{IsFirstBreach}
use Rattle.g1_image.specs.Strays.{SlotsBetween, IsGoodFrom}
use Rattle.g1_image.proofs.Tiled.{header_is}
use Rattle.g1_image.proofs.Rows.{apart, has_header, in_place}

pub SlotsBetween-start : (h : Heap) (from : ℕ) → SlotsBetween h from from
SlotsBetween-start h from = λ o p has ge lt. absurd (omega (arith, ge, lt))

-- no object starts at the address
pub SlotsBetween-none : (h : Heap) (from at : ℕ) → SlotsBetween h from at → (StartsAt h at → ⊥) → SlotsBetween h from (at + 1)
SlotsBetween-none h from at below none = λ o p has from_on lt slot. elim (cases_lt o.at at) [
  | inl before ↦ below o p has from_on before slot
  | inr ge ↦ absurd (none (o, has, (let e : o.at ≡ at = omega (arith, ge, lt) in e)))
]

module _ (h : Heap) (shaped : ShapedBelow h h.geometry.n) where
  within : (k : Kind) (r : ℕ) (o : Object) → r < h.geometry.n → IsShapedBy k h r → StandsIn k h r o → o.at + o.size ≤ h.geometry.n * h.geometry.w
  within Free r o lt s t = absurd t
  within Ordinary r o lt s t =
      let rows : h.geometry.w * (r + 1) ≤ h.geometry.w * h.geometry.n = mul-le-mul_left h.geometry.w (omega (arith, lt)) in
      omega (arith, Tiles-le h.words (o.at + o.size) t.after.0 (end h r) t.after.1, s.1, rows)
  within HumongousFirst r o lt s t =
      let same : s.0 ≡ o = same_object h.words s.0 o s.1.object t.1 (s.1.at ∙ sym t.0) in
      let run : IsWholeRun h r o.size = subst (λ q. IsWholeRun h r q.size) same s.4 in
      elim (cases_lt ((h.geometry.n - r) * h.geometry.w) o.size) [
        | inl less ↦ let past : r + (h.geometry.n - r) < h.geometry.n = (run (h.geometry.n - r) (omega (arith, lt)) less).0 in absurd (omega (arith, past))
        | inr ge ↦ omega (arith, t.0, ge, mul-sub h.geometry.w h.geometry.n r, mul-le-mul_left h.geometry.w lt)
      ]
  within Continuation r o lt s t = absurd t

  pub ends_within : (o : Object) → HasObject h o → o.at + o.size ≤ h.geometry.n * h.geometry.w
  ends_within o has = within (region h has.place).kind has.place o has.in_heap (shaped has.place has.in_heap).by_kind (in_place h o has)

-- the object at an address, whose header was read
module _ (h : Heap) (at : ℕ) (q : Object) (some : 0 < h.geometry.w) (shaped : ShapedBelow h h.geometry.n) (start : StartsAt h at)
    (word : slice_index h.words at ≡ q.size * 2 ^ 32 + q.refs) (refs : q.refs < 2 ^ 32) (size : q.size < 2 ^ 32) where
  same : (o : Object) → HasObject h o → o.at ≡ at → (o.size ≡ q.size) × (o.refs ≡ q.refs)
  same o has e = header_is h.words at q word refs size o e (has_header h o has)

  pub object_fits : (q.refs < q.size) × (at + q.size ≤ h.geometry.n * h.geometry.w)
  object_fits =
      let e = same start.0 start.1 start.2 in
      (omega (arith, e.0, e.1, (has_header h start.0 start.1).refs_fit), omega (arith, e.0, start.2, ends_within h shaped start.0 start.1))

  -- a slot of an object that starts below the end of this one, where the first m slots of this one are good
  seen : (from : ℕ) → SlotsBetween h from at → (m : ℕ) → ((i : ℕ) → i < m → IsReference h (slice_index h.words (at + 1 + i))) →
      (o : Object) (p : ℕ) → HasObject h o → from ≤ o.at → o.at < at + q.size → IsSlotOf o p → (o.at ≡ at → p < at + 1 + m) → IsReference h (slice_index h.words p)
  seen from below m good o p has from_on lt slot first = elim (cases_lt o.at at) [
    | inl before ↦ below o p has from_on before slot
    | inr ge ↦ elim (cases_lt at o.at) [
      | inl past ↦ absurd (omega (arith, apart h start.0 o some shaped start.1 has (omega (arith, start.2, past)), start.2, (same start.0 start.1 start.2).0, lt))
      | inr le ↦
          let here : o.at ≡ at = omega (arith, ge, le) in
          let place : at + 1 + (p - (at + 1)) ≡ p = omega (arith, slot.0, here) in
          subst (λ x. IsReference h (slice_index h.words x)) place (good (p - (at + 1)) (omega (arith, first here, slot.0, here)))
    ]
  ]

  pub SlotsBetween-object : (from : ℕ) → SlotsBetween h from at → ((i : ℕ) → i < q.refs → IsReference h (slice_index h.words (at + 1 + i))) → SlotsBetween h from (at + q.size)
  SlotsBetween-object from below good = λ o p has from_on lt slot. seen from below q.refs good o p has from_on lt slot (λ here. omega (arith, slot.1, here, (same o has here).1))

  -- the first bad slot of this object is the first of all from an address on
  pub slot_breach : (from : ℕ) → from ≤ at → SlotsBetween h from at → (i : ℕ) → i < q.refs → (IsReference h (slice_index h.words (at + 1 + i)) → ⊥) →
      ((k : ℕ) → k < i → IsReference h (slice_index h.words (at + 1 + k))) → IsFirstBreach (IsGoodFrom h from) (h.geometry.n * h.geometry.w) (at + 1 + i)
  slot_breach from order below i lt bad good = record {
    within = omega (arith, lt, object_fits.0, object_fits.1);
    breach = λ g. bad (g start.0 start.1 (omega (arith, start.2, order)) (omega (arith, start.2), omega (arith, start.2, lt, (same start.0 start.1 start.2).1)));
    before = λ p less o has from_on slot. seen from below i good o p has from_on (omega (arith, slot.0, less, lt, object_fits.0)) slot (λ here. less);
  }
