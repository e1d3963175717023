-- Objects lie within the words, and cards within regions.
use Rattle.std.proofs.Common.{◌≡◌, ℕ, ◌+◌, ◌-◌, ◌*◌, ◌/◌, ◌^◌, ◌<◌, ◌≤◌, inl, inr, arith, refl, sym, ap, subst, ◌∙◌}
use Rattle.std.proofs.lemmas.Bool.{cases_lt}
use Rattle.std.proofs.lemmas.Nat.{pow-add}
use Rattle.std.proofs.Math.Pow.{pow-lt}
use Rattle.std.proofs.Math.Nat.{mul-le-mul_left, mul-sub, mul-div_cancel, mul-div-mul_right, div-div-eq-div-mul, div-lt_iff_lt-mul}
use Rattle.g1_words.specs.Geometry.{IsWithinBounds}
use Rattle.g1_words.specs.declared.object.Object.{Object}
use Rattle.g1_words.specs.declared.region.Kind.{Kind}
use Rattle.g1_words.specs.declared.region.Kind.TheVariants.{Free, Ordinary, HumongousFirst, Continuation}
use Rattle.g1_words.specs.Heap.{Heap, kind, region_of, end}
use Rattle.g1_words.specs.Valid.{HasObject, IsShapedBy, IsWholeRun, IsValid}
use Rattle.g1_words.proofs.Tiling.{Tiles-le, same_object}
use Rattle.g1_words.proofs.Objects.{StandsIn, object_stands}

-- a region has a whole number of cards
pub cards_in_region : (w k n : ℕ) → IsWithinBounds w k n → (m : ℕ) × (w ≡ m * k)
cards_in_region w k n l =
    let a : ℕ = l.w_power.0 in
    let b : ℕ = l.k_power.0 in
    elim (cases_lt a b) [
      | inl lt ↦ absurd (omega (arith, pow-lt lt, l.w_power.1, l.k_power.1, l.k_in_w))
      | inr ge ↦
          let parts : (a - b) + b ≡ a = omega arith in
          (2 ^ (a - b), l.w_power.1 ∙ ap (λ e. 2 ^ e) (sym parts) ∙ pow-add 2 (a - b) b ∙ ap (λ x. 2 ^ (a - b) * x) (sym l.k_power.1))
    ]

-- the region of an address's card is the address's own
pub card_in_region : (w k m p : ℕ) → 0 < k → w ≡ m * k → p / k * k / w ≡ p / w
card_in_region w k m p some e =
    ap (λ x. p / k * k / x) e ∙ mul-div-mul_right (p / k) m some ∙ div-div-eq-div-mul p k m ∙ ap (λ x. p / x) (omega (arith, e))

-- an address among the words has one of the cards
pub card_below : (w k m n p : ℕ) → 0 < k → w ≡ m * k → p < n * w → p / k < n * w / k
card_below w k m n p some e lt =
    let whole : n * w ≡ n * m * k = ap (λ x. n * x) e ∙ omega arith in
    let count : n * w / k ≡ n * m = ap (λ x. x / k) whole ∙ mul-div_cancel (n * m) some in
    subst (λ c. p / k < c) (sym count) ((div-lt_iff_lt-mul some).1 (omega (arith, lt, whole)))

module _ (h : Heap) (valid : IsValid h) where
  within : (k : Kind) (r : ℕ) (o : Object) → r < h.geometry.n → IsShapedBy k h r → StandsIn k h r o → o.at + o.size ≤ h.geometry.n * h.geometry.w
  within Free r o lt s t = absurd t
  within Ordinary r o lt s t =
      let rows : h.geometry.w * (r + 1) ≤ h.geometry.w * h.geometry.n = mul-le-mul_left h.geometry.w (omega (arith, lt)) in
      omega (arith, Tiles-le h.words (o.at + o.size) t.after.0 (end h r) t.after.1, s.1, rows)
  within HumongousFirst r o lt s t =
      let same : s.0 ≡ o = same_object h.words s.0 o s.1.object t.1 (s.1.at ∙ sym t.0) in
      let run : IsWholeRun h r o.size = subst (λ q. IsWholeRun h r q.size) same s.4 in
      elim (cases_lt ((h.geometry.n - r) * h.geometry.w) o.size) [
        | inl less ↦ let past : r + (h.geometry.n - r) < h.geometry.n = (run (h.geometry.n - r) (omega (arith, lt)) less).0 in absurd (omega (arith, past))
        | inr ge ↦ omega (arith, t.0, ge, mul-sub h.geometry.w h.geometry.n r, mul-le-mul_left h.geometry.w lt)
      ]
  within Continuation r o lt s t = absurd t

  -- an object ends within the words
  pub object_within : (o : Object) → HasObject h o → o.at + o.size ≤ h.geometry.n * h.geometry.w
  object_within o has =
      let s = object_stands h o (region_of h o.at) valid has refl in
      within (kind h (region_of h o.at)) (region_of h o.at) o s.0 (valid.shaped (region_of h o.at) s.0).by_kind s.1
