-- The first stray slot of some regions, of those of ranges that follow one another.
use Rattle.std.proofs.Common.{◌≡◌, ◌≤◌, ◌<◌, ℕ, zero, suc, ◌+◌, ◌*◌, inl, inr, List, [], ◌∷◌, slice_index, arith, refl, ap, subst, ◌∙◌}
use Rattle.std.specs.Prelude.{Option, None, Some}
use Rattle.std.specs.List.{range_with_len, AllZip}
use Rattle.std.proofs.lemmas.Bool.{cases_lt}
use Rattle.std.proofs.Math.Nat.{mul-le-mul_right}
use Rattle.g1_words.specs.Heap.{Heap, region, start, end}
use Rattle.g1_words.specs.Valid.{HasObject, IsShapedBy}
use Rattle.g1_words.specs.declared.object.Object.{Object}
use Rattle.g1_words.specs.declared.region.Kind.{Kind}
use Rattle.g1_words.specs.declared.region.Kind.TheVariants.{Free, Ordinary, HumongousFirst, Continuation}
use Rattle.g1_words.proofs.Objects.{Within, stands_within}
use Rattle.g1_work.specs.Ranges.{IsCut, first_some}
use Rattle.g1_image.specs.Draft.{ShapedBelow}
use Rattle.g1_image.specs.Marks.{StartsIn}
use Rattle.g1_image.specs.Faults.{IsFirstBreach, IsGoodSlot}
use Rattle.g1_image.specs.Strays.{SlotsBetween, IsFirstStray, IsFirstStrayIn}
use Rattle.g1_image.proofs.Rows.{in_place, stands_starts}

-- the answers are the first of each range
abbrev pub AreFirstStrays : Heap → List ℕ → ℕ → List (Option ℕ) → Type 0
AreFirstStrays h begins ranges found = AllZip (IsFirstStrayIn h begins) (range_with_len 0 ranges) found

-- a region that an address lies in
one_region : (w a p r : ℕ) → p * w ≤ a → a < p * w + w → r * w ≤ a → a < (r + 1) * w → p ≡ r
one_region w a p r from to from2 to2 = elim (cases_lt p r) [
  | inl less ↦ absurd (omega (arith, to, from2, mul-le-mul_right w (let le : p + 1 ≤ r = omega (arith, less) in le)))
  | inr ge ↦ elim (cases_lt r p) [
    | inl more ↦ absurd (omega (arith, to2, from, mul-le-mul_right w (let le : r + 1 ≤ p = omega (arith, more) in le)))
    | inr le ↦ omega (arith, ge, le)
  ]
]

-- the used words of an ordinary region lie in the heap
pub top_in : (h : Heap) (r : ℕ) → (region h r).kind ≡ Ordinary → ShapedBelow h h.geometry.n → r < h.geometry.n → start h r + (region h r).top ≤ h.geometry.n * h.geometry.w
top_in h r kind shaped lt =
    let by : IsShapedBy Ordinary h r = subst (λ k. IsShapedBy k h r) kind (shaped r lt).by_kind in
    let le : r + 1 ≤ h.geometry.n = omega (arith, lt) in
    omega (arith, by.1, mul-le-mul_right h.geometry.w le)

-- an object that starts in a region is one of that region's
pub starts_here : (h : Heap) (r : ℕ) (o : Object) → 0 < h.geometry.w → ShapedBelow h h.geometry.n → HasObject h o → start h r ≤ o.at → o.at < start h (r + 1)
    → StartsIn (region h r).kind h r o.at
starts_here h r o some shaped has from to =
    let stands = in_place h o has in
    let within : Within h has.place o = stands_within (region h has.place).kind h has.place o some (shaped has.place has.in_heap).by_kind stands in
    let same : has.place ≡ r = one_region h.geometry.w o.at has.place r within.from within.to from to in
    subst (λ x. StartsIn (region h x).kind h x o.at) same (stands_starts (region h has.place).kind h has.place o stands)

-- where the objects of a region of this kind end to start
pub starts_before : (k : Kind) (h : Heap) (r last a : ℕ) → StartsIn k h r a → (k ≡ Ordinary → last ≡ end h r) → (k ≡ HumongousFirst → last ≡ start h r + 1) → a < last
starts_before Free h r last a t ordinary first = absurd t
starts_before Ordinary h r last a t ordinary first = omega (arith, t.1, ordinary refl)
starts_before HumongousFirst h r last a t ordinary first = omega (arith, t, first refl)
starts_before Continuation h r last a t ordinary first = absurd t

-- no object starts between two ends
pub stray_wider : (h : Heap) (from to wider : ℕ) → ((o : Object) → HasObject h o → from ≤ o.at → o.at < wider → o.at < to) → (found : Option ℕ)
    → IsFirstStray h from to found → IsFirstStray h from wider found
stray_wider h from to wider none None first = λ o p has ge lt slot. first o p has ge (none o has ge lt) slot
stray_wider h from to wider none (Some p) first = first

-- what comes first behind slots that are good comes first of all
pub stray_later : (h : Heap) (from mid to : ℕ) → from ≤ mid → SlotsBetween h from mid → (found : Option ℕ) → IsFirstStray h mid to found → IsFirstStray h from to found
stray_later h from mid to order good None first = λ o p has ge lt slot. elim (cases_lt o.at mid) [
  | inl less ↦ good o p has ge less slot
  | inr more ↦ first o p has more lt slot
]
stray_later h from mid to order good (Some p) first = record {
  within = first.within;
  breach = λ g. first.breach (λ o has ge slot. g o has (omega (arith, order, ge)) slot);
  before = λ q lt o has ge slot. elim (cases_lt o.at mid) [
    | inl less ↦ good o q has ge less slot
    | inr more ↦ first.before q lt o has more slot
  ];
}

-- the end does not count where a stray slot was found
pub stray_anywhere : (h : Heap) (from to to2 p : ℕ) → IsFirstStray h from to (Some p) → IsFirstStray h from to2 (Some p)
stray_anywhere h from to to2 p first = first

module _ (h : Heap) (ranges : ℕ) (begins : List ℕ) (cut : IsCut h.geometry.n ranges begins) where
  -- the first of the ranges from one on
  strays_from : (j m : ℕ) (found : List (Option ℕ)) → j + m ≤ ranges → AllZip (IsFirstStrayIn h begins) (range_with_len j m) found
      → IsFirstStray h (start h (slice_index begins j)) (start h (slice_index begins (j + m))) (first_some found)
  strays_from j zero [] le z = subst (λ x. IsFirstStray h (start h (slice_index begins j)) (start h (slice_index begins x)) None) (let e : j ≡ j + zero = omega arith in e)
      (λ o p has ge lt. absurd (omega (arith, ge, lt)))
  strays_from j zero (x ∷ found) le z = absurd z
  strays_from j (suc m) [] le z = absurd z
  strays_from j (suc m) (Some p ∷ found) le z =
      stray_anywhere h (start h (slice_index begins j)) (start h (slice_index begins (j + 1))) (start h (slice_index begins (j + suc m))) p z.0
  strays_from j (suc m) (None ∷ found) le z =
      let order = mul-le-mul_right h.geometry.w (cut.each j (omega (arith, le))).order in
      let shifted : (j + 1) + m ≡ j + suc m = omega arith in
      let later = subst (λ x. IsFirstStray h (start h (slice_index begins (j + 1))) (start h (slice_index begins x)) (first_some found)) shifted
      (strays_from (j + 1) m found (omega (arith, le)) z.1) in
      stray_later h (start h (slice_index begins j)) (start h (slice_index begins (j + 1))) (start h (slice_index begins (j + suc m))) order z.0 (first_some found) later

  -- the first of all ranges is the first of all regions
  pub strays_all : (found : List (Option ℕ)) → AreFirstStrays h begins ranges found → IsFirstStray h 0 (h.geometry.n * h.geometry.w) (first_some found)
  strays_all found z =
      let shifted : 0 + ranges ≡ ranges = omega arith in
      let zero : start h (slice_index begins 0) ≡ 0 = ap (λ x. x * h.geometry.w) cut.first ∙ (let e : 0 * h.geometry.w ≡ 0 = omega arith in e) in
      subst (λ x. IsFirstStray h x (h.geometry.n * h.geometry.w) (first_some found)) zero
      (subst (λ x. IsFirstStray h (start h (slice_index begins 0)) (x * h.geometry.w) (first_some found)) (ap (slice_index begins) shifted ∙ cut.last) (strays_from 0 ranges found (omega arith) z))

-- the answer for all regions is the heap's
pub no_stray : (h : Heap) → IsFirstStray h 0 (h.geometry.n * h.geometry.w) None → (p : ℕ) → p < h.geometry.n * h.geometry.w → IsGoodSlot h p
no_stray h none = λ p lt o has slot. none o p has (omega arith) (omega (arith, slot.0, lt)) slot

pub stray_breach : (h : Heap) (p : ℕ) → IsFirstStray h 0 (h.geometry.n * h.geometry.w) (Some p) → IsFirstBreach (IsGoodSlot h) (h.geometry.n * h.geometry.w) p
stray_breach h p first = record {
  within = first.within;
  breach = λ g. first.breach (λ o has ge slot. g o has slot);
  before = λ q lt o has slot. first.before q lt o has (omega arith) slot;
}
