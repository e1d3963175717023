-- What a valid heap keeps, told of the lists that are computed.
use Rattle.std.proofs.Common.{◌≡◌, ◌≢◌, ℕ, zero, suc, ◌+◌, ◌-◌, ◌*◌, ◌/◌, ◌<◌, ◌≤◌, inl, inr, Contains, length, flat_map, arith, refl, sym, ap, subst, ◌∙◌, div-add-mod'}
use Rattle.std.proofs.lemmas.Bool.{cases_lt}
use Rattle.std.proofs.Math.Nat.{le-div_iff_mul-le, mul-sub}
use Rattle.g1_words.specs.declared.object.Object.{Object}
use Rattle.g1_words.specs.declared.region.Kind.{Kind}
use Rattle.g1_words.specs.declared.region.Kind.TheVariants.{Free, Ordinary, HumongousFirst, Continuation}
use Rattle.g1_words.specs.Heap.{Heap, kind, start, end, word, region_of, objects, objects_in, object_at, slots}
use Rattle.g1_words.specs.Valid.{IsObject, HasObject, IsReference, IsShapedBy, IsWholeRun, IsValid}
use Rattle.g1_words.specs.References.{Ref, refs, refs_at, named, root_targets}
use Rattle.g1_words.proofs.Members.{flat_map_cases, map_cases, none_contains}
use Rattle.g1_words.proofs.Tiling.{Tiles-le, same_object}
use Rattle.g1_words.proofs.Bounds.{object_within}
use Rattle.g1_words.proofs.Objects.{StandsIn, object_stands, object_place, div_between}
use Rattle.g1_words.proofs.Computed.{object_is, has_contains, contains_has, in_region_has, none_in_past, range_below, range_above}

pub record IsSound (h : Heap) : Type 0 where
  pub w_positive : 0 < h.geometry.w
  pub in_region : (r : ℕ) (o : Object) → Contains (objects_in h r) o → region_of h o.at ≡ r
  pub in_used : (o : Object) → Contains (objects h) o → kind h (region_of h o.at) ≢ Free
  pub fits : (o : Object) → Contains (objects h) o → kind h (region_of h o.at) ≡ Ordinary → (0 < o.size) × (o.size ≤ h.geometry.w)
  pub slots_fit : (o : Object) → Contains (objects h) o → o.refs < o.size
  pub slots_at_home : (o : Object) (p : ℕ) → Contains (objects h) o → Contains (slots o) p → kind h (region_of h p) ≡ Ordinary → region_of h p ≡ region_of h o.at
  pub root_named : (a : ℕ) → Contains (root_targets h) a → Contains (objects h) (object_at h a)
  pub slot_named : (e : Ref) → Contains (refs h) e → Contains (objects h) (object_at h e.target)

-- the object that stands in a region of some kind is an object
pub stands_object : (k : Kind) (h : Heap) (r : ℕ) (o : Object) → StandsIn k h r o → IsObject h.words o
stands_object Free h r o t = absurd t
stands_object Ordinary h r o t = t.object
stands_object HumongousFirst h r o t = t.1
stands_object Continuation h r o t = absurd t

pub named_is : (x a : ℕ) → Contains (named x) a → x ≡ a + 1
named_is zero a i = absurd (omega (arith, i.1))
named_is (suc b) a (zero, lt, e) = omega (arith, e)
named_is (suc b) a (suc k, lt, e) = absurd (omega (arith, lt))

-- an object of a valid heap is the one that its header tells
pub w_positive : (h : Heap) → IsValid h → 0 < h.geometry.w
w_positive h valid = let least = valid.limits.w_least in omega arith

pub k_positive : (h : Heap) → IsValid h → 0 < h.geometry.k
k_positive h valid = let least = valid.limits.k_least in omega arith

pub has_is : (h : Heap) (o : Object) → IsValid h → HasObject h o → o ≡ object_at h o.at
has_is h o valid has =
    let s = object_stands h o (o.at / h.geometry.w) valid has refl in
    object_is h o (stands_object (kind h (o.at / h.geometry.w)) h (o.at / h.geometry.w) o s.1)

pub named_suc : (x a : ℕ) → Contains (named x) a → x ≡ suc a
named_suc x a i = let k = named_is x a i in omega arith

-- a reference word names an object
pub reference_named : (h : Heap) (x a : ℕ) → IsValid h → IsReference h x → Contains (named x) a → Contains (objects h) (object_at h a)
reference_named h x a valid (inl e) i = let k = named_is x a i in absurd (omega arith)
reference_named h x a valid (inr r) i =
    let k = named_is x a i in
    let o : Object = r.0 in
    let at : o.at ≡ a = omega (arith, k, r.2) in
    subst (λ q. Contains (objects h) q) (has_is h o valid r.1 ∙ ap (object_at h) at) (has_contains h o r.1)

module _ (h : Heap) (valid : IsValid h) where
  has_of : (o : Object) → Contains (objects h) o → HasObject h o
  has_of o c = contains_has h o valid.shaped c

  not_free : (k : Kind) (r : ℕ) (o : Object) → StandsIn k h r o → k ≢ Free
  not_free Free r o t e = t
  not_free Ordinary r o t e = cc
  not_free HumongousFirst r o t e = cc
  not_free Continuation r o t e = t

  size_fits : (k : Kind) (r : ℕ) (o : Object) → k ≡ Ordinary → IsShapedBy k h r → StandsIn k h r o → (0 < o.size) × (o.size ≤ h.geometry.w)
  size_fits Free r o e s t = absurd t
  size_fits Ordinary r o e s t = (
    omega (arith, t.object.refs_fit),
    omega (arith, Tiles-le h.words (start h r) t.before.0 o.at t.before.1, Tiles-le h.words (o.at + o.size) t.after.0 (end h r) t.after.1, s.1),
  )
  size_fits HumongousFirst r o e s t = cc
  size_fits Continuation r o e s t = absurd t

  -- of the regions of a run only the first isn't a continuation
  run_home : (r q size : ℕ) → IsWholeRun h r size → r ≤ q → (q - r) * h.geometry.w < size → kind h q ≡ Ordinary → q ≡ r
  run_home r q size run le lt e = elim (cases_lt r q) [
    | inl more ↦
        let k : kind h (r + (q - r)) ≡ Continuation = (run (q - r) (omega arith) lt).1 in
        let same : r + (q - r) ≡ q = omega arith in
        let clash : Ordinary ≡ Continuation = sym e ∙ ap (kind h) (sym same) ∙ k in
        cc
    | inr ge ↦ omega arith
  ]

  slot_at_home : (k : Kind) (r : ℕ) (o : Object) (p : ℕ) → r < h.geometry.n → IsShapedBy k h r → StandsIn k h r o → o.at < p → p ≤ o.at + o.refs → kind h (region_of h p) ≡ Ordinary → region_of h p ≡ r
  slot_at_home Free r o p lt s t from to e = absurd t
  slot_at_home Ordinary r o p lt s t from to e =
      div_between p h.geometry.w r
      (omega (arith, Tiles-le h.words (start h r) t.before.0 o.at t.before.1))
      (omega (arith, t.object.refs_fit, Tiles-le h.words (o.at + o.size) t.after.0 (end h r) t.after.1, s.1))
  slot_at_home HumongousFirst r o p lt s t from to e =
      let same : s.0 ≡ o = same_object h.words s.0 o s.1.object t.1 (s.1.at ∙ sym t.0) in
      let some : 0 < h.geometry.w = omega (arith, valid.limits.w_least) in
      let run : IsWholeRun h r o.size = subst (λ q. IsWholeRun h r q.size) same s.4 in
      run_home r (p / h.geometry.w) o.size run
      ((le-div_iff_mul-le some).1 (omega (arith, t.0, from)))
      (omega (arith, t.0, to, t.1.refs_fit, div-add-mod' p h.geometry.w, mul-sub h.geometry.w (p / h.geometry.w) r)) e
  slot_at_home Continuation r o p lt s t from to e = absurd t

  standing : (o : Object) → Contains (objects h) o → (region_of h o.at < h.geometry.n) × StandsIn (kind h (region_of h o.at)) h (region_of h o.at) o
  standing o c = object_stands h o (region_of h o.at) valid (has_of o c) refl

  within_regions : (r : ℕ) (o : Object) → Contains (objects_in h r) o → r < h.geometry.n
  within_regions r o i = elim (cases_lt r h.geometry.n) [
    | inl lt ↦ lt
    | inr ge ↦ absurd (none_contains o (subst (λ l. Contains l o) (none_in_past h r (omega (arith, ge, valid.region_count))) i))
  ]

  in_its_region : (r : ℕ) (o : Object) → Contains (objects_in h r) o → region_of h o.at ≡ r
  in_its_region r o c =
      let lt : r < h.geometry.n = within_regions r o c in
      object_place h o valid (in_region_has h r o valid.shaped lt c)

  slot_place : (o : Object) (p : ℕ) → Contains (slots o) p → (o.at < p) × (p ≤ o.at + o.refs)
  slot_place o p i = (omega (arith, range_above (o.at + 1) o.refs p i), omega (arith, range_below (o.at + 1) o.refs p i))

  pub sound : IsSound h
  sound = record {
    w_positive = omega (arith, valid.limits.w_least);
    in_region = in_its_region;
    in_used = λ o c. not_free (kind h (region_of h o.at)) (region_of h o.at) o (standing o c).1;
    fits = λ o c e. let s = standing o c in size_fits (kind h (region_of h o.at)) (region_of h o.at) o e (valid.shaped (region_of h o.at) s.0).by_kind s.1;
    slots_fit = λ o c. (stands_object (kind h (region_of h o.at)) h (region_of h o.at) o (standing o c).1).refs_fit;
    slots_at_home = λ o p c d e.
        let s = standing o c in
        let b = slot_place o p d in
        slot_at_home (kind h (region_of h o.at)) (region_of h o.at) o p s.0 (valid.shaped (region_of h o.at) s.0).by_kind s.1 b.0 b.1 e;
    root_named = λ a c.
        let m = flat_map_cases named h.roots a c in
        let k = m.1 in
        reference_named h m.0 a valid (subst (IsReference h) k.2 (valid.roots k.0 m.0 k.1)) m.2;
    slot_named = λ e c.
        let m = flat_map_cases (λ o. flat_map (refs_at h) (slots o)) (objects h) e c in
        let o : Object = m.0 in
        let p = flat_map_cases (refs_at h) (slots o) e m.2 in
        let b = slot_place o p.0 p.1 in
        let q = map_cases (λ a. record { slot = p.0; target = a }) (named (word h p.0)) e p.2 in
        let named_there : Contains (named (word h p.0)) e.target = subst (λ (x : Ref). Contains (named (word h p.0)) x.target) q.2 q.1 in
        reference_named h (word h p.0) e.target valid (valid.slots o p.0 (has_of o m.1) (b.0, b.1)) named_there;
  }

-- an object of the heap ends within its words, and so do its slots within it
pub object_in : (h : Heap) (a : ℕ) → IsValid h → Contains (objects h) (object_at h a) →
    ((object_at h a).refs < (object_at h a).size) × (a + (object_at h a).size ≤ length h.words)
object_in h a valid c =
    let within = object_within h valid (object_at h a) (contains_has h (object_at h a) valid.shaped c) in
    ((sound h valid).slots_fit (object_at h a) c, omega (arith, within, valid.word_count))
