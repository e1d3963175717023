-- The rules of a valid heap, told of the lists that are computed.
use Rattle.std.proofs.Common.{◌≡◌, ℕ, zero, suc, ◌+◌, ◌-◌, ◌*◌, ◌^◌, ◌<◌, ◌≤◌, inl, inr, List, [], ◌∷◌, length, get_or, flat_map, min, Contains, refl, sym, ◌∙◌, ap, subst, arith}
use Rattle.std.specs.Prelude.{All, Option, Some, None, IfSome}
use Rattle.std.proofs.lemmas.Bool.{cases_lt}
use Rattle.std.proofs.lemmas.List.{get_or_default, get_or_past}
use Rattle.std.proofs.Math.Nat.{mul-le-mul_right}
use Rattle.g1_words.specs.Geometry.{IsWithinBounds, most_roots}
use Rattle.g1_words.specs.declared.object.Object.{Object}
use Rattle.g1_words.specs.declared.region.Kind.{Kind}
use Rattle.g1_words.specs.declared.region.Kind.TheVariants.{Free, Ordinary, HumongousFirst, Continuation}
use Rattle.g1_words.specs.Heap.{Heap, kind, top, start, end, word, objects, objects_in, object_at, slots}
use Rattle.g1_words.specs.Valid.{IsObject, Tiles, IsFirst, HoldsBy, HasObject, IsReference, IsSlotOf, IsWholeRun, IsShapedBy, AllShaped, MayBePinned, IsValid}
use Rattle.g1_words.specs.References.{Ref, refs, refs_at, named, root_targets}
use Rattle.g1_words.proofs.Members.{Contains-flat_map, Contains-map}
use Rattle.g1_words.proofs.Computed.{object_is, holds_are, has_contains, contains_has, Contains-range}
use Rattle.g1_words.proofs.Sound.{sound}

-- the object is one of an ordinary region
abbrev pub IsPlain : Heap → Object → Type 0
IsPlain h o = (o.refs < o.size) × (4 * o.size ≤ 3 * h.geometry.w)

-- these objects, none of them humongous, fill the words from a up to end
abbrev pub IsTiled : Heap → ℕ → List Object → ℕ → Type 0
IsTiled h a [] end = a ≡ end
IsTiled h a (o ∷ os) end = (o ≡ object_at h a) × IsPlain h o × IsTiled h (a + o.size) os end

-- a humongous object of so many words takes the regions from r on
abbrev pub TakesRun : Heap → ℕ → ℕ → Type 0
TakesRun h r size = (q : ℕ) → q * h.geometry.w < size → (r + q < h.geometry.n) × (top h (r + q) ≡ min h.geometry.w (size - q * h.geometry.w)) × (0 < q → kind h (r + q) ≡ Continuation)

-- a humongous object stands at the start of region r
pub record BeginsRun (h : Heap) (r : ℕ) : Type 0 where
  pub refs : (object_at h (r * h.geometry.w)).refs < (object_at h (r * h.geometry.w)).size
  pub humongous : 3 * h.geometry.w < 4 * (object_at h (r * h.geometry.w)).size
  pub run : TakesRun h r (object_at h (r * h.geometry.w)).size

-- the rules for a region of this kind
abbrev pub IsBuiltBy : Heap → ℕ → Kind → Type 0
IsBuiltBy h r Free = top h r ≡ 0
IsBuiltBy h r Ordinary = (0 < top h r) × (top h r ≤ h.geometry.w) × IsTiled h (r * h.geometry.w) (objects_in h r) (r * h.geometry.w + top h r)
IsBuiltBy h r HumongousFirst = BeginsRun h r
IsBuiltBy h r Continuation = (first : ℕ) × (kind h first ≡ HumongousFirst) × (first < r) × ((r - first) * h.geometry.w < (object_at h (first * h.geometry.w)).size)

-- the rules of a heap, told of the lists that are computed
pub record IsBuilt (h : Heap) : Type 0 where
  pub limits : IsWithinBounds h.geometry.w h.geometry.k h.geometry.n
  pub word_count : length h.words ≡ h.geometry.n * h.geometry.w
  pub word_fits : (a : ℕ) → word h a < 2 ^ 64
  pub region_count : length h.regions ≡ h.geometry.n
  pub root_count : length h.roots ≤ most_roots
  pub shaped : (r : ℕ) → r < h.geometry.n → IsBuiltBy h r (kind h r)
  pub pins : (r : ℕ) → r < h.geometry.n → MayBePinned h r
  pub zero_above : (r m : ℕ) → r < h.geometry.n → top h r ≤ m → m < h.geometry.w → word h (r * h.geometry.w + m) ≡ 0
  pub root_named : (a : ℕ) → Contains (root_targets h) a → Contains (objects h) (object_at h a)
  pub slot_named : (e : Ref) → Contains (refs h) e → Contains (objects h) (object_at h e.target)
  pub current : (r : ℕ) → h.current ≡ Some r → (r < h.geometry.n) × (kind h r ≡ Ordinary)

-- ---- from the rules

tiled_all : (h : Heap) (from : ℕ) (os : List Object) (to : ℕ) → Tiles h.words from os to → ((o : Object) → Contains os o → 4 * o.size ≤ 3 * h.geometry.w) → IsTiled h from os to
tiled_all h from [] to t f = t
tiled_all h from (o ∷ os) to t f =
    (object_is h o t.1 ∙ ap (object_at h) t.0, (t.1.refs_fit, f o (zero, omega arith, refl)), tiled_all h (from + o.size) os to t.2 (λ q k. f q (suc k.0, omega (arith, k.1), k.2)))

module _ (h : Heap) (valid : IsValid h) where
  ordinary_built : (r : ℕ) → r < h.geometry.n → kind h r ≡ Ordinary → IsShapedBy Ordinary h r → IsBuiltBy h r Ordinary
  ordinary_built r lt e s =
      let os : List Object = s.2 in
      let held : HoldsBy Ordinary h r os = subst (λ k. HoldsBy k h r os) e s.3 in
      let same : os ≡ objects_in h r = holds_are (kind h r) h r os s.3 in
      let bound : (o : Object) → Contains os o → 4 * o.size ≤ 3 * h.geometry.w = λ o k.
      let c = k in subst (λ (x : Object). 4 * x.size ≤ 3 * h.geometry.w) c.2 (s.4 c.0 o c.1) in
      (s.0, s.1, subst (λ xs. IsTiled h (start h r) xs (end h r)) same (tiled_all h (start h r) os (end h r) held bound))

  first_by : (r : ℕ) → r < h.geometry.n → kind h r ≡ HumongousFirst → IsShapedBy HumongousFirst h r
  first_by r lt e = subst (λ k. IsShapedBy k h r) e (valid.shaped r lt).by_kind

  first_is : (r : ℕ) (o : Object) → IsFirst h r o → o ≡ object_at h (start h r)
  first_is r o f = object_is h o f.object ∙ ap (object_at h) f.at

  -- the first region of the run that a continuation belongs to
  run_top : (r q : ℕ) (o : Object) → IsFirst h r o → IsWholeRun h r o.size → 0 < q → q * h.geometry.w < o.size → r + q < h.geometry.n → kind h (r + q) ≡ Continuation
      → top h (r + q) ≡ min h.geometry.w (o.size - q * h.geometry.w)
  run_top r q o f run pos lt below e =
      let s : IsShapedBy Continuation h (r + q) = subst (λ k. IsShapedBy k h (r + q)) e (valid.shaped (r + q) below).by_kind in
      let g : ℕ = s.0 in
      let p : Object = s.1 in
      let first : IsFirst h g p = s.2 in
      elim (cases_lt g r) [
        | inl a ↦
            let t = first_by g (omega (arith, a, below)) first.kind in
            let same : p ≡ t.0 = first_is g p first ∙ sym (first_is g t.0 t.1) in
            let less : (r - g) * h.geometry.w ≤ (r + q - g) * h.geometry.w = mul-le-mul_right h.geometry.w (omega (arith, a)) in
            let size = ap (λ (x : Object). x.size) same in
            let k : kind h (g + (r - g)) ≡ Continuation = (t.4 (r - g) (omega (arith, a)) (omega (arith, less, s.4, size))).1 in
            let z : g + (r - g) ≡ r = omega (arith, a) in
            let clash : HumongousFirst ≡ Continuation = sym f.kind ∙ ap (kind h) (sym z) ∙ k in
            cc
        | inr b ↦ elim (cases_lt r g) [
          | inl c ↦
              let less : (g - r) * h.geometry.w ≤ q * h.geometry.w = mul-le-mul_right h.geometry.w (omega (arith, c, s.3)) in
              let k : kind h (r + (g - r)) ≡ Continuation = (run (g - r) (omega (arith, c)) (omega (arith, less, lt))).1 in
              let z : r + (g - r) ≡ g = omega (arith, c) in
              let clash : HumongousFirst ≡ Continuation = sym first.kind ∙ ap (kind h) (sym z) ∙ k in
              cc
          | inr d ↦
              let here : g ≡ r = omega (arith, b, d) in
              let same : p ≡ o = first_is g p first ∙ ap (λ x. object_at h (start h x)) here ∙ sym (first_is r o f) in
              let z : r + q - g ≡ q = omega (arith, here) in
              s.5 ∙ (λ t. min h.geometry.w ((same t).size - z t * h.geometry.w))
        ]
      ]

  first_built : (r : ℕ) → r < h.geometry.n → kind h r ≡ HumongousFirst → IsShapedBy HumongousFirst h r → BeginsRun h r
  first_built r lt e s =
      let o : Object = s.0 in
      let same : o ≡ object_at h (start h r) = first_is r o s.1 in
      record {
        refs = subst (λ (x : Object). x.refs < x.size) same s.1.object.refs_fit;
        humongous = subst (λ (x : Object). 3 * h.geometry.w < 4 * x.size) same s.2;
        run = subst (λ (x : Object). TakesRun h r x.size) same (λ q less. elim (cases_lt 0 q) [
          | inl pos ↦ let k = s.4 q pos less in (k.0, run_top r q o s.1 s.4 pos less k.0 k.1, λ p. k.1)
          | inr none ↦
              let z : q ≡ 0 = omega (arith, none) in
              let at : r ≡ r + q = omega (arith, z) in
              let none_yet : q * h.geometry.w ≡ 0 * h.geometry.w = ap (λ x. x * h.geometry.w) z in
              let size : o.size ≡ o.size - q * h.geometry.w = omega (arith, none_yet) in
              (omega (arith, lt, z), ap (top h) (sym at) ∙ s.3 ∙ ap (min h.geometry.w) size, λ p. absurd (omega (arith, p, none)))
        ]);
      }

  built_by : (r : ℕ) (k : Kind) → r < h.geometry.n → kind h r ≡ k → IsShapedBy k h r → IsBuiltBy h r k
  built_by r Free lt e s = s
  built_by r Ordinary lt e s = ordinary_built r lt e s
  built_by r HumongousFirst lt e s = first_built r lt e s
  built_by r Continuation lt e s =
      let same : s.1 ≡ object_at h (start h s.0) = first_is s.0 s.1 s.2 in
      (s.0, s.2.kind, s.3, subst (λ (x : Object). (r - s.0) * h.geometry.w < x.size) same s.4)

  -- a valid heap keeps the rules as they are told here
  pub built : IsBuilt h
  built = record {
    limits = valid.limits;
    word_count = valid.word_count;
    word_fits = λ a. elim (cases_lt a (length h.words)) [
      | inl lt ↦ valid.word_fits a 0 lt
      | inr ge ↦ let z : word h a ≡ 0 = get_or_past h.words a 0 ge in omega (arith, z)
    ];
    region_count = valid.region_count;
    root_count = valid.root_count;
    shaped = λ r lt. built_by r (kind h r) lt refl (valid.shaped r lt).by_kind;
    pins = valid.pins;
    zero_above = valid.zero_above;
    root_named = (sound h valid).root_named;
    slot_named = (sound h valid).slot_named;
    current = λ r e. (subst (λ c. IfSome c (λ r. r < h.geometry.n)) e valid.current_in, current_ordinary r e);
  }
    where
      current_ordinary : (r : ℕ) → h.current ≡ Some r → kind h r ≡ Ordinary
      current_ordinary r e = (valid.shaped r (subst (λ c. IfSome c (λ r. r < h.geometry.n)) e valid.current_in)).current e

-- ---- back to the rules

object_of : (h : Heap) (a : ℕ) → word h a < 2 ^ 64 → (object_at h a).refs < (object_at h a).size → IsObject h.words (object_at h a)
object_of h a small fits = record { header = omega arith; refs_fit = fits; size_fits = omega (arith, small) }

module _ (h : Heap) (b : IsBuilt h) where
  tiles_of : (from : ℕ) (os : List Object) (to : ℕ) → IsTiled h from os to → Tiles h.words from os to
  tiles_of from [] to t = t
  tiles_of from (o ∷ os) to t =
      let whole : IsObject h.words (object_at h from) = object_of h from (b.word_fits from) (subst (λ (x : Object). x.refs < x.size) t.0 t.1.0) in
      (ap (λ (x : Object). x.at) t.0, subst (IsObject h.words) (sym t.0) whole, tiles_of (from + o.size) os to t.2)

  bounds_of : (from : ℕ) (os : List Object) (to : ℕ) → IsTiled h from os to → All (λ o. 4 * o.size ≤ 3 * h.geometry.w) os
  bounds_of from [] to t k d lt = absurd (omega arith)
  bounds_of from (o ∷ os) to t zero d lt = t.1.1
  bounds_of from (o ∷ os) to t (suc k) d lt = bounds_of (from + o.size) os to t.2 k d (omega arith)

  first_of : (r : ℕ) → kind h r ≡ HumongousFirst → BeginsRun h r → IsFirst h r (object_at h (start h r))
  first_of r e s = record { kind = e; at = refl; object = object_of h (start h r) (b.word_fits (start h r)) s.refs }

  shaped_of : (r : ℕ) (k : Kind) → r < h.geometry.n → kind h r ≡ k → IsBuiltBy h r k → IsShapedBy k h r
  shaped_of r Free lt e s = s
  shaped_of r Ordinary lt e s =
      (s.0, s.1, objects_in h r, subst (λ k. HoldsBy k h r (objects_in h r)) (sym e) (tiles_of (start h r) (objects_in h r) (end h r) s.2), bounds_of (start h r) (objects_in h r) (end h r) s.2)
  shaped_of r HumongousFirst lt e s =
      let o : Object = object_at h (start h r) in
      let z : 0 * h.geometry.w ≡ 0 = omega arith in
      let at : r + 0 ≡ r = omega arith in
      let pos : 0 * h.geometry.w < o.size = omega (arith, s.refs) in
      let size : o.size - 0 * h.geometry.w ≡ o.size = omega (arith, z) in
      (o, first_of r e s, s.humongous, ap (top h) (sym at) ∙ (s.run 0 pos).1 ∙ ap (min h.geometry.w) size, λ q pos less. let k = s.run q less in (k.0, k.2 pos))
  shaped_of r Continuation lt e s =
      let g : ℕ = s.0 in
      let first : BeginsRun h g = subst (IsBuiltBy h g) s.1 (b.shaped g (omega (arith, lt, s.2))) in
      let k = first.run (r - g) s.3 in
      let at : g + (r - g) ≡ r = omega (arith, s.2) in
      (g, object_at h (start h g), first_of g s.1 first, s.2, s.3, ap (top h) (sym at) ∙ k.1)

  all_shaped : AllShaped h
  all_shaped r lt = record { by_kind = shaped_of r (kind h r) lt refl (b.shaped r lt); current = λ e. (b.current r e).1 }

  reference_of : (x : ℕ) → ((a : ℕ) → Contains (named x) a → Contains (objects h) (object_at h a)) → IsReference h x
  reference_of zero f = inl refl
  reference_of (suc a) f = inr (object_at h a, contains_has h (object_at h a) all_shaped (f a (zero, omega arith, refl)), omega arith)

  slot_kept : (o : Object) (p : ℕ) → HasObject h o → IsSlotOf o p → IsReference h (word h p)
  slot_kept o p has slot = reference_of (word h p) (λ a k.
      let e : Ref = record { slot = p; target = a } in
      let here : Contains (slots o) p = Contains-range (o.at + 1) o.refs p (omega (arith, slot.0)) (omega (arith, slot.1)) in
      let there : Contains (refs_at h p) e = Contains-map (λ a. record { slot = p; target = a }) (named (word h p)) a k in
      let one : Contains (flat_map (refs_at h) (slots o)) e = Contains-flat_map (refs_at h) (slots o) p e here there in
      b.slot_named e (Contains-flat_map (λ o. flat_map (refs_at h) (slots o)) (objects h) o e (has_contains h o has) one))

  current_of : (c : Option ℕ) → h.current ≡ c → IfSome c (λ r. r < h.geometry.n)
  current_of None e = tt
  current_of (Some r) e = (b.current r e).0

  -- and a heap that keeps these is valid
  pub valid_of : IsValid h
  valid_of = record {
    limits = b.limits;
    word_count = b.word_count;
    word_fits = λ k d lt. subst (λ x. x < 2 ^ 64) (get_or_default h.words k 0 d lt) (b.word_fits k);
    region_count = b.region_count;
    root_count = b.root_count;
    shaped = all_shaped;
    pins = b.pins;
    zero_above = b.zero_above;
    roots = λ k d lt. reference_of (get_or h.roots k d) (λ a m.
        let x : ℕ = get_or h.roots k d in
        b.root_named a (Contains-flat_map named h.roots x a (k, lt, get_or_default h.roots k x d lt) m));
    slots = slot_kept;
    current_in = current_of h.current refl;
  }
