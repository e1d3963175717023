-- The objects of a region that is as it was, one after another.
use Rattle.std.proofs.Common.{◌≡◌, ◌≢◌, ℕ, zero, suc, ◌+◌, ◌*◌, ◌/◌, ◌^◌, ◌<◌, ◌≤◌, inl, inr, Bool, true, false, List, [], ◌∷◌, length, map, Contains, IsFalse, refl, sym, ap, subst, ◌∙◌}
use Rattle.std.proofs.Common.{arith, slice_index, ltb}
use Rattle.std.proofs.lemmas.Bool.{cases_lt, false≢true, ltb-true, lt-ltb}
use Rattle.std.proofs.lemmas.List.{length-map}
use Rattle.std.proofs.lemmas.List.Elements.{Contains-get_or}
use Rattle.g1_words.specs.declared.object.Object.{Object}
use Rattle.g1_words.specs.declared.region.Kind.{Kind}
use Rattle.g1_words.specs.declared.region.Kind.TheVariants.{Free, Ordinary, HumongousFirst, Continuation}
use Rattle.g1_words.specs.Lists.{has}
use Rattle.g1_words.specs.Heap.{Heap, free_region, kind, top, start, end, word, region_of, tiles, objects_by, objects_in, objects, object_at, regions}
use Rattle.g1_words.specs.Valid.{IsValid}
use Rattle.g1_words.proofs.Members.{Contains-flat_map, Contains-later, map_cases, Contains-map}
use Rattle.g1_words.proofs.Objects.{div_between, tops_fit}
use Rattle.g1_words.proofs.Computed.{Contains-range, in_region_has, has_contains}
use Rattle.g1_words.proofs.Shapes.{built}
use Rattle.g1_words.proofs.Sound.{sound, has_is}
use Rattle.g1_words.proofs.Standing.{home}
use Rattle.g1_same.proofs.Tables.{place_of}
use Rattle.g1_kept.specs.declared.pairs.Pairs.{Pairs}
use Rattle.g1_kept.specs.Keeps.{MayHoldCopy, IsAsItWas, IsOutside, KeepsTable}
use Rattle.g1_kept.specs.Lost.{HasOtherTop}
use Rattle.g1_kept.specs.Walk.{IsCompared, ComparesRegion}
use Rattle.g1_kept.proofs.Growing.{ComparesFirst}

-- the addresses of some objects
abbrev pub starts_of : List Object → List ℕ
starts_of os = map (λ o. o.at) os

-- the tiles from one address on, by whether it is before the end
abbrev tiles_if : Heap → ℕ → ℕ → ℕ → Bool → List Object
tiles_if h m from to b = elim b as (λ _. List Object) [ true ↦ object_at h from ∷ tiles h m (from + (object_at h from).size) to | false ↦ [] ]

-- the headers of the first objects are the same
abbrev SameFirst : Heap → Heap → List ℕ → ℕ → Type 0
SameFirst g h starts i = (j : ℕ) → j < i → word g (slice_index starts j) ≡ word h (slice_index starts j)

along_if : (g h : Heap) (m n from to end : ℕ) (b c : Bool) → (b ≡ true → c ≡ true) → (i : ℕ)
    → ((j : ℕ) → j < length (tiles g m (from + (object_at g from).size) to) → SameFirst g h (starts_of (tiles g m (from + (object_at g from).size) to)) j
    → Contains (tiles h n (from + (object_at g from).size) end) (object_at h (slice_index (starts_of (tiles g m (from + (object_at g from).size) to)) j)))
    → i < length (tiles_if g m from to b) → SameFirst g h (starts_of (tiles_if g m from to b)) i
    → Contains (tiles_if h n from end c) (object_at h (slice_index (starts_of (tiles_if g m from to b)) i))
along_if g h m n from to end false c also i rest lt same = absurd (omega (arith, lt))
along_if g h m n from to end true false also i rest lt same = absurd (false≢true (also refl))
along_if g h m n from to end true true also zero rest lt same = (zero, omega arith, refl)
along_if g h m n from to end true true also (suc i) rest lt same =
    let first : word g from ≡ word h from = same 0 (omega arith) in
    let size : (object_at g from).size ≡ (object_at h from).size = ap (λ x. x / 2 ^ 32) first in
    let there = rest i (omega (arith, lt)) (λ j p. same (suc j) (omega (arith, p))) in
    let o : Object = object_at h (slice_index (starts_of (tiles g m (from + (object_at g from).size) to)) i) in
    Contains-later (object_at h from) (tiles h n (from + (object_at h from).size) end) o (subst (λ z. Contains (tiles h n (from + z) end) o) size there)

below_too : (from to end : ℕ) → to ≤ end → ltb from to ≡ true → ltb from end ≡ true
below_too from to end le e = elim (cases_lt from end) [
  | inl lt ↦ lt-ltb from end lt
  | inr ge ↦ let lt = ltb-true from to e in absurd (omega (arith, lt, ge, le))
]

-- where the headers of the first tiles are the same, the next tile stands at the same place, also if further tiles follow
along : (g h : Heap) (m n from to end i : ℕ) → m ≤ n → to ≤ end → i < length (tiles g m from to) → SameFirst g h (starts_of (tiles g m from to)) i
    → Contains (tiles h n from end) (object_at h (slice_index (starts_of (tiles g m from to)) i))
along g h zero n from to end i few low lt same = absurd (omega (arith, lt))
along g h (suc m) zero from to end i few low lt same = absurd (omega (arith, few))
along g h (suc m) (suc n) from to end i few low lt same =
    along_if g h m n from to end (ltb from to) (ltb from end) (below_too from to end low) i (λ j. along g h m n (from + (object_at g from).size) to end j (omega (arith, few)) low) lt same

along_region : (k : Kind) (g h : Heap) (r i : ℕ) → h.geometry ≡ g.geometry → top g r ≤ top h r → i < length (objects_by k g r)
    → SameFirst g h (starts_of (objects_by k g r)) i → Contains (objects_by k h r) (object_at h (slice_index (starts_of (objects_by k g r)) i))
along_region Free g h r i sizes tops lt same = absurd (omega (arith, lt))
along_region Ordinary g h r i sizes tops lt same =
    let o : Object = object_at h (slice_index (starts_of (tiles g (top g r) (start g r) (end g r))) i) in
    let there : Contains (tiles h (top h r) (r * g.geometry.w) (r * g.geometry.w + top h r)) o =
    along g h (top g r) (top h r) (start g r) (end g r) (r * g.geometry.w + top h r) i tops (omega (arith, tops)) lt same in
    subst (λ s. Contains (tiles h (top h r) (r * s.w) (r * s.w + top h r)) o) (sym sizes) there
along_region HumongousFirst g h r zero sizes tops lt same = (zero, omega arith, ap (λ s. object_at h (r * s.w)) sizes)
along_region HumongousFirst g h r (suc i) sizes tops lt same = absurd (omega (arith, lt))
along_region Continuation g h r i sizes tops lt same = absurd (omega (arith, lt))

-- a word below the new top of a region lies in the region
pub word_here : (g h : Heap) (r i : ℕ) → IsValid g → IsValid h → h.geometry ≡ g.geometry → r < g.geometry.n → i < top h r → region_of g (start g r + i) ≡ r
word_here g h r i left right sizes lt less =
    let in_regions : r < length h.regions = omega (arith, lt, right.region_count, ap (λ s. s.n) sizes) in
    let fits : top h r ≤ h.geometry.w = tops_fit h right r free_region in_regions in
    div_between (start g r + i) g.geometry.w r (omega arith) (omega (arith, less, fits, ap (λ s. s.w) sizes))

module _ (fill : Bool) (g h : Heap) (r : ℕ) (left : IsValid g) (right : IsValid h) (sizes : h.geometry ≡ g.geometry) (lt : r < g.geometry.n) where
  -- where copies may fill the region, they may be anywhere behind its top
  pub filled_above : fill ≡ true → kind g r ≡ Ordinary → (i : ℕ) → top g r ≤ i → i < top h r → MayHoldCopy fill g (start g r + i)
  filled_above may ordinary i le less =
      let here : region_of g (start g r + i) ≡ r = word_here g h r i left right sizes lt less in
      let behind : start g r + top g r ≤ start g r + i = omega (arith, le) in
      inr (may, record { ordinary = ap (kind g) here ∙ ordinary; behind = subst (λ q. start g q + top g q ≤ start g r + i) (sym here) behind })

  pub lower_top : fill ≡ true → kind g r ≡ Ordinary → HasOtherTop fill g h r → top h r < top g r
  lower_top may ordinary (inl lower) = lower
  lower_top may ordinary (inr (i, le, less, never)) = absurd (never (filled_above may ordinary i le less))

  -- where they may not, any other top is one
  pub changed_top : kind g r ≢ Free → (fill ≡ true → kind g r ≡ Ordinary → ⊥) → top h r ≢ top g r → HasOtherTop fill g h r
  changed_top used unfilled other = elim (cases_lt (top h r) (top g r)) [
    | inl lower ↦ inl lower
    | inr ge ↦ let less : top g r < top h r = omega (arith, ge, other) in inr (top g r, omega arith, less, never less)
  ] where
    never : top g r < top h r → MayHoldCopy fill g (start g r + top g r) → ⊥
    never less (inl free) = let here = word_here g h r (top g r) left right sizes lt less in used (sym (ap (kind g) here) ∙ free)
    never less (inr (may, b)) = let here = word_here g h r (top g r) left right sizes lt less in unfilled may (sym (ap (kind g) here) ∙ b.ordinary)

  pub other_changed : HasOtherTop fill g h r → top h r ≢ top g r
  other_changed (inl lower) e = omega (arith, lower, e)
  other_changed (inr (i, le, less, never)) e = omega (arith, le, less, e)

-- a region that is as it was has no other top
pub other_top : (fill : Bool) (g h : Heap) (r : ℕ) → IsAsItWas fill g h r → HasOtherTop fill g h r → ⊥
other_top fill g h r was (inl lower) = omega (arith, lower, was.filled)
other_top fill g h r was (inr (i, le, lt, never)) = never (was.above i le lt)

-- no copy is where an object begins
pub not_at_object : (fill : Bool) (g : Heap) (a : ℕ) → IsValid g → Contains (objects g) (object_at g a) → MayHoldCopy fill g a → ⊥
not_at_object fill g a valid object (inl free) = (sound g valid).in_used (object_at g a) object free
not_at_object fill g a valid object (inr (may, b)) =
    let o : Object = object_at g a in
    let m = home g (built g valid) o object in
    let here : region_of g a ≡ m.0 = (sound g valid).in_region m.0 o m.1 in
    let size = (sound g valid).slots_fit o object in
    let behind : start g m.0 + top g m.0 ≤ a = subst (λ r. start g r + top g r ≤ a) here b.behind in
    elim m.2.2 [
      | inl s ↦ omega (arith, s.high, size, behind)
      | inr s ↦ let clash : HumongousFirst ≡ Ordinary = sym s.kind ∙ ap (kind g) (sym here) ∙ b.ordinary in cc
    ]

module _ (fill : Bool) (set : List ℕ) (g h : Heap) (left : IsValid g) (right : IsValid h) (table : KeepsTable fill set g h) (r : ℕ) (lt : r < g.geometry.n)
    (out : IsFalse (has set r)) (used : kind g r ≢ Free) (in_use : kind h r ≢ Free) (starts : List ℕ) (is : starts ≡ starts_of (objects_in g r)) where
  as_it_was : IsAsItWas fill g h r
  as_it_was = elim ((table.regions r lt).other out) [
    | inl e ↦ absurd (used e)
    | inr s ↦ elim s [ inl f ↦ absurd (in_use f.1) | inr was ↦ was ]
  ]

  -- each address is that of an object of the region
  pub start_object : (i : ℕ) → i < length starts → Contains (objects_in g r) (object_at g (slice_index starts i))
  start_object i p =
      let m = map_cases (λ (o : Object). o.at) (objects_in g r) (slice_index starts i) (subst (λ l. Contains l (slice_index starts i)) is (Contains-get_or starts i 0 p)) in
      let c = m.1 in
      let same : m.0 ≡ object_at g (slice_index starts i) = has_is g m.0 left (in_region_has g r m.0 left.shaped lt c) ∙ ap (object_at g) m.2 in
      subst (Contains (objects_in g r)) same c

  pub start_in : (i : ℕ) → i < length starts → Contains (objects g) (object_at g (slice_index starts i))
  start_in i p = has_contains g (object_at g (slice_index starts i)) (in_region_has g r (object_at g (slice_index starts i)) left.shaped lt (start_object i p))

  -- of an object outside the set
  pub start_outside : (i : ℕ) → i < length starts → IsOutside set g h (slice_index starts i)
  start_outside i p =
      let a : ℕ = slice_index starts i in
      let here : region_of g a ≡ r = (sound g left).in_region r (object_at g a) (start_object i p) in
      record {
        object = start_in i p;
        outside = ap (has set) here ∙ out;
        in_use = λ e. in_use (sym (ap (kind h) here) ∙ e);
      }

  -- after the first objects were compared, the next one stands in its place
  pub start_stands : (w : Pairs) (i : ℕ) → i < length starts → ComparesFirst set g h w starts i → Contains (objects h) (object_at h (slice_index starts i))
  start_stands w i p compared =
      let was = as_it_was in
      let few : i < length (objects_in g r) = omega (arith, p, ap length is, length-map (objects_in g r) (λ (o : Object). o.at)) in
      let same : SameFirst g h (starts_of (objects_in g r)) i = subst (λ l. SameFirst g h l i) is (λ j q. (compared j q).alike.header) in
      let there = along_region (kind g r) g h r i table.geometry was.filled few same in
      let here : Contains (objects_by (kind h r) h r) (object_at h (slice_index (starts_of (objects_in g r)) i)) =
      subst (λ k. Contains (objects_by k h r) (object_at h (slice_index (starts_of (objects_in g r)) i))) (sym was.same_kind) there in
      let place : Contains (regions h) r = Contains-range 0 h.geometry.n r (omega arith) (omega (arith, lt, ap (λ s. s.n) table.geometry)) in
      let o : Object = object_at h (slice_index (starts_of (objects_in g r)) i) in
      subst (λ l. Contains (objects h) (object_at h (slice_index l i))) (sym is) (Contains-flat_map (objects_in h) (regions h) r o place here)

  -- when all were compared, the region was
  pub region_compared : (w : Pairs) → ComparesFirst set g h w starts (length starts) → ComparesRegion set g h w r
  region_compared w compared a c =
      let m : Contains starts a = subst (λ l. Contains l a) (sym is) (Contains-map (λ (o : Object). o.at) (objects_in g r) (object_at g a) c) in
      let k = place_of starts a m in
      subst (λ z. IsCompared set g h w z z) k.2 (compared k.0 k.1)
