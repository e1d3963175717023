-- Objects and references stand in rising order.
use Rattle.std.proofs.Common.{◌≡◌, ℕ, zero, suc, ◌+◌, ◌-◌, ◌*◌, ◌<◌, ◌≤◌, inl, inr, Bool, true, false, cond, List, [], ◌∷◌, ◌++◌, map, filter, flat_map, Contains, AllPairs, arith, refl, sym}
use Rattle.std.proofs.Common.{ap, subst, ◌∙◌}
use Rattle.std.specs.List.{range_with_len}
use Rattle.std.proofs.lemmas.Bool.{cases_lt}
use Rattle.std.proofs.Math.Nat.{mul-le-mul_left, mul-sub}
use Rattle.std.proofs.lemmas.List.Elements.{Contains-append_cases}
use Rattle.g1_words.specs.declared.object.Object.{Object}
use Rattle.g1_words.specs.declared.region.Kind.{Kind}
use Rattle.g1_words.specs.declared.region.Kind.TheVariants.{Free, Ordinary, HumongousFirst, Continuation}
use Rattle.g1_words.specs.Heap.{Heap, kind, start, end, word, regions, objects_in, objects, slots}
use Rattle.g1_words.specs.Valid.{Tiles, HoldsBy, HasObject, IsSlotOf, IsShapedBy, IsWholeRun, IsValid}
use Rattle.g1_words.specs.References.{Ref, refs, refs_at, named}
use Rattle.g1_words.proofs.Members.{Contains-flat_map, flat_map_cases, Contains-map, map_cases, filter_member, none_contains}
use Rattle.g1_words.proofs.Ordered.{Ordered, pairs_from_ordered}
use Rattle.g1_words.proofs.Tiling.{Tiles-le, same_object}
use Rattle.g1_words.proofs.Objects.{StandsIn, holds_stands, stands_within}
use Rattle.g1_words.proofs.Computed.{holds_computed, Contains-range, range_above, range_below, has_contains, contains_has}
use Rattle.g1_words.proofs.Sound.{named_is, sound}

-- ---- lists in order

pub Ordered-append : {A : Type 0} (R : A → A → Type 0) (xs ys : List A) → Ordered R xs → Ordered R ys → ((x y : A) → Contains xs x → Contains ys y → R x y) → Ordered R (xs ++ ys)
Ordered-append R [] ys a b f = b
Ordered-append R (x ∷ xs) ys a b f = (
  (λ y i. elim (Contains-append_cases xs ys y i) [ inl k ↦ a.0 y k | inr k ↦ f x y (zero, omega arith, refl) k ]),
  Ordered-append R xs ys a.1 b (λ z y i. f z y (suc i.0, omega (arith, i.1), i.2)),
)

pub Ordered-flat_map : {A B : Type 0} (S : A → A → Type 0) (R : B → B → Type 0) (f : A → List B) (xs : List A) → Ordered S xs
    → ((x : A) → Contains xs x → Ordered R (f x)) → ((x y : A) (a b : B) → Contains xs x → Contains xs y → S x y → Contains (f x) a → Contains (f y) b → R a b) → Ordered R (flat_map f xs)
Ordered-flat_map S R f [] o each across = tt
Ordered-flat_map S R f (x ∷ xs) o each across =
    Ordered-append R (f x) (flat_map f xs) (each x (zero, omega arith, refl))
    (Ordered-flat_map S R f xs o.1 (λ y i. each y (suc i.0, omega (arith, i.1), i.2)) (λ y z a b i j. across y z a b (suc i.0, omega (arith, i.1), i.2) (suc j.0, omega (arith, j.1), j.2)))
    (λ a b i j. let m = flat_map_cases f xs b j in across x m.0 a b (zero, omega arith, refl) (suc m.1.0, omega (arith, m.1.1), m.1.2) (o.0 m.0 m.1) i m.2)

pub Ordered-filter : {A : Type 0} (R : A → A → Type 0) (p : A → Bool) (xs : List A) → Ordered R xs → Ordered R (filter p xs)
Ordered-filter R p [] o = tt
Ordered-filter {A} R p (x ∷ xs) o =
    elim (p x) as (λ b. Ordered R (cond b (x ∷ filter p xs) (filter p xs))) [
      | true ↦ ((λ y i. o.0 y (filter_member p xs y i).0), Ordered-filter R p xs o.1)
      | false ↦ Ordered-filter R p xs o.1
    ]

pub Ordered-map : {A B : Type 0} (R : B → B → Type 0) (f : A → B) (xs : List A) → Ordered (λ x y. R (f x) (f y)) xs → Ordered R (map f xs)
Ordered-map R f [] o = tt
Ordered-map R f (x ∷ xs) o = (
  (λ y i. let m = map_cases f xs y i in subst (R (f x)) m.2 (o.0 m.0 m.1)),
  Ordered-map R f xs o.1,
)

pub Ordered-range : (a n : ℕ) → Ordered (λ x y. x < y) (range_with_len a n)
Ordered-range a zero = tt
Ordered-range a (suc n) = ((λ y i. let k = range_above (a + 1) n y i in omega arith), Ordered-range (a + 1) n)

-- ---- the objects

-- the one ends before the other begins
abbrev pub IsBefore : Object → Object → Type 0
IsBefore o q = o.at + o.size ≤ q.at

Tiles-from : (words : List ℕ) (from : ℕ) (os : List Object) (to : ℕ) (q : Object) → Tiles words from os to → Contains os q → from ≤ q.at
Tiles-from words from [] to q t i = absurd (omega (arith, i.1))
Tiles-from words from (o ∷ os) to q t (zero, b, e) = let k : o.at ≡ q.at = ap (λ (x : Object). x.at) e in omega (arith, t.0, k)
Tiles-from words from (o ∷ os) to q t (suc j, b, e) = let k = Tiles-from words (from + o.size) os to q t.2 (j, omega (arith, b), e) in omega arith

Tiles-ordered : (words : List ℕ) (from : ℕ) (os : List Object) (to : ℕ) → Tiles words from os to → Ordered IsBefore os
Tiles-ordered words from [] to t = tt
Tiles-ordered words from (o ∷ os) to t = (
  (λ q i. let k = Tiles-from words (from + o.size) os to q t.2 i in omega (arith, t.0)),
  Tiles-ordered words (from + o.size) os to t.2,
)

held_ordered : (k : Kind) (h : Heap) (r : ℕ) (os : List Object) → HoldsBy k h r os → Ordered IsBefore os
held_ordered Free h r os t = subst (Ordered IsBefore) (sym t) tt
held_ordered Ordinary h r os t = Tiles-ordered h.words (start h r) os (end h r) t
held_ordered HumongousFirst h r os (o, first, e) = subst (Ordered IsBefore) (sym e) ((λ q i. absurd (none_contains q i)), tt)
held_ordered Continuation h r os t = subst (Ordered IsBefore) (sym t) tt

module _ (h : Heap) (valid : IsValid h) where
  standing : (r : ℕ) (o : Object) → r < h.geometry.n → Contains (objects_in h r) o → StandsIn (kind h r) h r o
  standing r o lt i = holds_stands (kind h r) h r (objects_in h r) o (holds_computed h r valid.shaped lt) i

  -- an object ends before every later region that has objects
  ends_before : (k : Kind) (r q : ℕ) (o : Object) → IsShapedBy k h r → StandsIn k h r o → r < q → (kind h q ≡ Continuation → ⊥) → o.at + o.size ≤ start h q
  ends_before Free r q o s t lt live = absurd t
  ends_before Ordinary r q o s t lt live =
      let next : (r + 1) * h.geometry.w ≤ q * h.geometry.w = rows (r + 1) q (omega arith) in
      omega (arith, Tiles-le h.words (o.at + o.size) t.after.0 (end h r) t.after.1, s.1, next)
    where
      rows : (a b : ℕ) → a ≤ b → a * h.geometry.w ≤ b * h.geometry.w
      rows a b le = omega (arith, mul-le-mul_left h.geometry.w le)
  ends_before HumongousFirst r q o s t lt live =
      let same : s.0 ≡ o = same_object h.words s.0 o s.1.object t.1 (s.1.at ∙ sym t.0) in
      let run : IsWholeRun h r o.size = subst (λ q. IsWholeRun h r q.size) same s.4 in
      elim (cases_lt ((q - r) * h.geometry.w) o.size) [
        | inl less ↦
            let e : r + (q - r) ≡ q = omega arith in
            absurd (live (ap (kind h) (sym e) ∙ (run (q - r) (omega arith) less).1))
        | inr ge ↦ omega (arith, t.0, ge, mul-sub h.geometry.w q r, mul-le-mul_left h.geometry.w lt)
      ]
  ends_before Continuation r q o s t lt live = absurd t

  no_continuation : (k : Kind) (q : ℕ) (o : Object) → StandsIn k h q o → k ≡ Continuation → ⊥
  no_continuation Free q o t e = t
  no_continuation Ordinary q o t e = cc
  no_continuation HumongousFirst q o t e = cc
  no_continuation Continuation q o t e = t

  objects_ordered : Ordered IsBefore (objects h)
  objects_ordered =
      Ordered-flat_map (λ x y. x < y) IsBefore (objects_in h) (regions h) (Ordered-range 0 h.geometry.n)
      (λ r i. held_ordered (kind h r) h r (objects_in h r) (holds_computed h r valid.shaped (there r i)))
      (λ r q o p i j lt a b.
      let s = standing r o (there r i) a in
      let t = standing q p (there q j) b in
      let w = stands_within (kind h q) h q p (omega (arith, valid.limits.w_least)) (valid.shaped q (there q j)).by_kind t in
      let e = ends_before (kind h r) r q o (valid.shaped r (there r i)).by_kind s lt (no_continuation (kind h q) q p t) in
      omega (arith, e, w.from))
    where
      there : (r : ℕ) → Contains (regions h) r → r < h.geometry.n
      there r i = omega (arith, range_below 0 h.geometry.n r i)

  -- each object ends before the next begins
  pub objects_apart : AllPairs IsBefore (objects h)
  objects_apart = pairs_from_ordered IsBefore (objects h) objects_ordered

  -- ---- the references

  slot_of : (o : Object) (e : Ref) → Contains (flat_map (refs_at h) (slots o)) e → IsSlotOf o e.slot × (word h e.slot ≡ e.target + 1)
  slot_of o e i =
      let p = flat_map_cases (refs_at h) (slots o) e i in
      let q = map_cases (λ a. record { slot = p.0; target = a }) (named (word h p.0)) e p.2 in
      let k : word h p.0 ≡ q.0 + 1 = named_is (word h p.0) q.0 q.1 in
      subst (λ (x : Ref). IsSlotOf o x.slot × (word h x.slot ≡ x.target + 1)) q.2
      ((omega (arith, range_above (o.at + 1) o.refs p.0 p.1), omega (arith, range_below (o.at + 1) o.refs p.0 p.1)), k)

  -- what a slot of an object names
  pub ref_tells : (e : Ref) → Contains (refs h) e → (o : Object) × HasObject h o × IsSlotOf o e.slot × (word h e.slot ≡ e.target + 1)
  ref_tells e c =
      let m = flat_map_cases (λ o. flat_map (refs_at h) (slots o)) (objects h) e c in
      let s = slot_of m.0 e m.2 in
      (m.0, contains_has h m.0 valid.shaped m.1, s.0, s.1)

  named_there : (x a : ℕ) → x ≡ a + 1 → Contains (named x) a
  named_there zero a e = absurd (omega (arith, e))
  named_there (suc b) a e = (zero, omega arith, omega (arith, e))

  pub told_ref : (e : Ref) (o : Object) → HasObject h o → IsSlotOf o e.slot → word h e.slot ≡ e.target + 1 → Contains (refs h) e
  told_ref e o has s w =
      let i : Contains (slots o) e.slot = Contains-range (o.at + 1) o.refs e.slot (omega (arith, s.0)) (omega (arith, s.1)) in
      let k : Contains (refs_at h e.slot) e = Contains-map (λ a. record { slot = e.slot; target = a }) (named (word h e.slot)) e.target (named_there (word h e.slot) e.target w) in
      Contains-flat_map (λ o. flat_map (refs_at h) (slots o)) (objects h) o e
      (has_contains h o has) (Contains-flat_map (refs_at h) (slots o) e.slot e i k)

  abbrev RefBefore : Ref → Ref → Type 0
  RefBefore e f = e.slot < f.slot

  refs_at_ordered : (p x : ℕ) → Ordered RefBefore (map (λ a. record { slot = p; target = a }) (named x))
  refs_at_ordered p zero = tt
  refs_at_ordered p (suc a) = ((λ q i. absurd (none_contains q i)), tt)

  at_slot : (p : ℕ) (e : Ref) → Contains (refs_at h p) e → e.slot ≡ p
  at_slot p e i = let q = map_cases (λ a. record { slot = p; target = a }) (named (word h p)) e i in sym (ap (λ (x : Ref). x.slot) q.2)

  refs_of_ordered : (o : Object) → Ordered RefBefore (flat_map (refs_at h) (slots o))
  refs_of_ordered o =
      Ordered-flat_map (λ x y. x < y) RefBefore (refs_at h) (slots o) (Ordered-range (o.at + 1) o.refs)
      (λ p i. refs_at_ordered p (word h p))
      (λ p q e f i j lt a b. omega (arith, at_slot p e a, at_slot q f b, lt))

  pub refs_ordered : Ordered RefBefore (refs h)
  refs_ordered =
      Ordered-flat_map IsBefore RefBefore (λ o. flat_map (refs_at h) (slots o)) (objects h) objects_ordered
      (λ o i. refs_of_ordered o)
      (λ o p e f i j lt a b.
      let s = (slot_of o e a).0 in
      let t = (slot_of p f b).0 in
      omega (arith, s.1, t.0, lt, (sound h valid).slots_fit o i))

  -- the references stand by rising slot
  pub refs_rise : AllPairs (λ e f. e.slot < f.slot) (refs h)
  refs_rise = pairs_from_ordered RefBefore (refs h) refs_ordered
