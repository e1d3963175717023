-- The objects of regions that follow one another.
use Rattle.std.proofs.Common.{◌≡◌, ◌≤◌, ◌<◌, ℕ, zero, suc, ◌+◌, ◌-◌, ◌*◌, ◌/◌, inl, inr, List, [], ◌∷◌, ◌++◌, flat_map, Contains, arith, refl, sym, ap, subst, ◌∙◌}
use Rattle.std.specs.List.{range_with_len}
use Rattle.std.proofs.lemmas.Bool.{cases_lt}
use Rattle.std.proofs.lemmas.Grind.{flat_map-append}
use Rattle.std.proofs.Math.Nat.{mul-le-mul_left, mul-le-mul_right, div-mul-le_self}
use Rattle.g1_words.specs.declared.object.Object.{Object}
use Rattle.g1_words.specs.declared.region.Kind.{Kind}
use Rattle.g1_words.specs.declared.region.Kind.TheVariants.{Free, Ordinary, HumongousFirst, Continuation}
use Rattle.g1_words.specs.Heap.{Heap, kind, start, end, objects, objects_in}
use Rattle.g1_words.specs.Valid.{IsValid, IsShapedBy, IsWholeRun}
use Rattle.g1_words.proofs.Lists.{range_split}
use Rattle.g1_words.proofs.Members.{flat_map_cases}
use Rattle.g1_words.proofs.Computed.{range_above, range_below, in_region_has, has_contains, holds_computed}
use Rattle.g1_words.proofs.Objects.{StandsIn, holds_stands}
use Rattle.g1_words.proofs.Sound.{sound}
use Rattle.g1_words.proofs.Tiling.{Tiles-le, same_object}
use Rattle.g1_rem.specs.Marks.{Chain, objects_between, objects_from}
use Rattle.g1_rem.proofs.Order.{Chain-weaken, objects_chain, object_fits}

-- numbers that follow one another
runs_append : (a b c : ℕ) → a ≤ b → b ≤ c → range_with_len a (c - a) ≡ range_with_len a (b - a) ++ range_with_len b (c - b)
runs_append a b c le more =
    let at : a + (b - a) ≡ b = omega (arith, le) in
    let whole : c - a ≡ (b - a) + (c - b) = omega (arith, le, more) in
    ap (range_with_len a) whole ∙ range_split a (b - a) (c - b) ∙ ap (λ x. range_with_len a (b - a) ++ range_with_len x (c - b)) at

module _ (h : Heap) where
  -- the objects of one range, and those of the next
  pub between_append : (a b c : ℕ) → a ≤ b → b ≤ c → objects_between h a c ≡ objects_between h a b ++ objects_between h b c
  between_append a b c le more =
      ap (flat_map (objects_in h)) (runs_append a b c le more) ∙ flat_map-append (objects_in h) (range_with_len a (b - a)) (range_with_len b (c - b))

  -- those of the first region, and the rest
  pub front_region : (r b : ℕ) → r < b → objects_between h r b ≡ objects_in h r ++ objects_between h (r + 1) b
  front_region r b lt = let e : b - r ≡ suc (b - (r + 1)) = omega (arith, lt) in ap (λ m. flat_map (objects_in h) (range_with_len r m)) e

  -- all regions have all objects
  pub between_all : objects_between h 0 h.geometry.n ≡ objects h
  between_all = let e : h.geometry.n - 0 ≡ h.geometry.n = omega arith in ap (λ m. flat_map (objects_in h) (range_with_len 0 m)) e

  -- no region has none
  pub between_none : (r b : ℕ) → b ≤ r → objects_between h r b ≡ []
  between_none r b le = let e : b - r ≡ 0 = omega (arith, le) in ap (λ m. flat_map (objects_in h) (range_with_len r m)) e

-- the rest of a chain
pub Chain-rest : (lo : ℕ) (xs ys : List Object) → Chain lo (xs ++ ys) → Chain lo ys
Chain-rest lo [] ys c = c
Chain-rest lo (x ∷ xs) ys c = Chain-rest lo xs ys (Chain-weaken lo (x.at + x.size) (xs ++ ys) (omega (arith, c.0)) c.2)

-- a chain whose objects all stand past an address
pub Chain-past : (lo hi : ℕ) (os : List Object) → Chain lo os → ((o : Object) → Contains os o → hi ≤ o.at) → Chain hi os
Chain-past lo hi [] c each = tt
Chain-past lo hi (o ∷ os) c each = (each o (zero, omega arith, refl), c.1, c.2)

module _ (h : Heap) (valid : IsValid h) where
  -- an object of a region from one on stands past that one's first word
  pub from_past : (r : ℕ) (o : Object) → Contains (objects_from h r) o → start h r ≤ o.at
  from_past r o i =
      let m = flat_map_cases (objects_in h) (range_with_len r (h.geometry.n - r)) o i in
      let there : o.at / h.geometry.w ≡ m.0 = (sound h valid).in_region m.0 o m.2 in
      let below : m.0 * h.geometry.w ≤ o.at = subst (λ x. x * h.geometry.w ≤ o.at) there (div-mul-le_self o.at h.geometry.w) in
      omega (arith, below, mul-le-mul_right h.geometry.w (range_above r (h.geometry.n - r) m.0 m.1))

  -- the objects are those before a region and those from it on
  pub from_rest : (r : ℕ) → r ≤ h.geometry.n → objects h ≡ objects_between h 0 r ++ objects_from h r
  from_rest r le = sym (between_all h) ∙ between_append h 0 r h.geometry.n (omega arith) le

  -- they come one after another, from the region's first word on
  pub from_chain : (r : ℕ) → r ≤ h.geometry.n → Chain (start h r) (objects_from h r)
  from_chain r le =
      let c : Chain 0 (objects_between h 0 r ++ objects_from h r) = subst (Chain 0) (from_rest r le) (objects_chain h valid) in
      Chain-past 0 (start h r) (objects_from h r) (Chain-rest 0 (objects_between h 0 r) (objects_from h r) c) (from_past r)

  -- an object of a region before one that is no continuation ends before that one
  ends_in : (k : Kind) (r f : ℕ) (o : Object) → r < f → f < h.geometry.n → (kind h f ≡ Continuation → ⊥) → IsShapedBy k h r → StandsIn k h r o → o.at + o.size ≤ start h f
  ends_in Free r f o lt there other s t = absurd t
  ends_in Ordinary r f o lt there other s t =
      let rows : h.geometry.w * (r + 1) ≤ h.geometry.w * f = mul-le-mul_left h.geometry.w (omega (arith, lt)) in
      omega (arith, Tiles-le h.words (o.at + o.size) t.after.0 (end h r) t.after.1, s.1, rows)
  ends_in HumongousFirst r f o lt there other s t =
      let same : s.0 ≡ o = same_object h.words s.0 o s.1.object t.1 (s.1.at ∙ sym t.0) in
      let run : IsWholeRun h r o.size = subst (λ q. IsWholeRun h r q.size) same s.4 in
      let at : r + (f - r) ≡ f = omega (arith, lt) in
      let rows : start h f ≡ start h r + (f - r) * h.geometry.w = ap (λ x. x * h.geometry.w) (sym at) ∙ omega arith in
      elim (cases_lt ((f - r) * h.geometry.w) o.size) [
        | inl less ↦ absurd (other (subst (λ x. kind h x ≡ Continuation) at (run (f - r) (omega (arith, lt)) less).1))
        | inr ge ↦ omega (arith, t.0, ge, rows)
      ]
  ends_in Continuation r f o lt there other s t = absurd t

  -- so do all objects before it
  pub between_ends : (f : ℕ) (o : Object) → f ≤ h.geometry.n → (0 < f → f < h.geometry.n → kind h f ≡ Continuation → ⊥) → Contains (objects_between h 0 f) o → o.at + o.size ≤ start h f
  between_ends f o le other i =
      let m = flat_map_cases (objects_in h) (range_with_len 0 (f - 0)) o i in
      let lt : m.0 < f = omega (arith, range_below 0 (f - 0) m.0 m.1) in
      let there : m.0 < h.geometry.n = omega (arith, lt, le) in
      let mine : Contains (objects_in h m.0) o = m.2 in
      elim (cases_lt f h.geometry.n) [
        | inl inside ↦ ends_in (kind h m.0) m.0 f o lt inside (other (omega (arith, lt)) inside) (valid.shaped m.0 there).by_kind
            (holds_stands (kind h m.0) h m.0 (objects_in h m.0) o (holds_computed h m.0 valid.shaped there) mine)
        | inr past ↦ (
            let same : f ≡ h.geometry.n = omega (arith, past, le) in
            let fits = object_fits h valid o (has_contains h o (in_region_has h m.0 o valid.shaped there mine)) in
            omega (arith, fits, ap (λ x. x * h.geometry.w) same))
      ]
