-- Every used word of a heap is one of an object's.
use Rattle.std.proofs.Common.{◌≡◌, ℕ, ◌+◌, ◌-◌, ◌*◌, ◌<◌, ◌≤◌, ◌⊎◌, inl, inr, List, [], ◌∷◌, refl, sym, ◌∙◌, ap, subst, arith, Contains}
use Rattle.std.proofs.lemmas.Bool.{cases_lt}
use Rattle.std.proofs.Math.Nat.{add-mul}
use Rattle.g1_words.proofs.Members.{Contains-first, Contains-later}
use Rattle.g1_words.proofs.Shapes.{BeginsRun, IsBuilt, IsBuiltBy, IsTiled}
use Rattle.g1_words.proofs.Standing.{run_object, w_pos}
use Rattle.g1_words.specs.Heap.{Heap, kind, object_at, objects_in, top}
use Rattle.g1_words.specs.declared.object.Object.{Object}
use Rattle.g1_words.specs.declared.region.Kind.{Kind}
use Rattle.g1_words.specs.declared.region.Kind.TheVariants.{Continuation, Free, HumongousFirst, Ordinary}

tiled_covers : (h : Heap) (a : ℕ) (os : List Object) (end p : ℕ) → IsTiled h a os end → a ≤ p → p < end → (o : Object) × Contains os o × (o.at ≤ p) × (p < o.at + o.size)
tiled_covers h a [] end p t le lt = absurd (omega (arith, t))
tiled_covers h a (o ∷ os) end p t le lt =
    let at : o.at ≡ a = ap (λ (x : Object). x.at) t.0 in
    elim (cases_lt p (a + o.size)) [
      | inl b ↦ (o, Contains-first o os, omega arith, omega arith)
      | inr b ↦ let r = tiled_covers h (a + o.size) os end p t.2 b lt in (r.0, Contains-later o os r.0 r.1, r.2, r.3)
    ]

module _ (h : Heap) (valid : IsBuilt h) where
  covers_by : (r m : ℕ) (k : Kind) → r < h.geometry.n → kind h r ≡ k → IsBuiltBy h r k → m < top h r
      → (q : ℕ) × (q < h.geometry.n) × ((q ≡ r) ⊎ (kind h q ≡ HumongousFirst)) × (o : Object) × Contains (objects_in h q) o × (x : ℕ) × (x < o.size) × (o.at + x ≡ r * h.geometry.w + m)
  covers_by r m Free lt e s b = absurd (omega (arith, s))
  covers_by r m Ordinary lt e s b =
      let c = tiled_covers h (r * h.geometry.w) (objects_in h r) (r * h.geometry.w + top h r) (r * h.geometry.w + m) s.2 (omega arith) (omega arith) in
      let low = c.2 in let high = c.3 in
      (r, lt, inl refl, c.0, c.1, r * h.geometry.w + m - c.0.at, omega arith, omega arith)
  covers_by r m HumongousFirst lt e s b =
      let z : 0 * h.geometry.w ≡ 0 = omega arith in
      let rz : r + 0 ≡ r = omega arith in
      let p : 0 * h.geometry.w < (object_at h (r * h.geometry.w)).size = omega (arith, s.refs) in
      let t = ap (top h) (sym rz) ∙ (s.run 0 p).1 in
      (r, lt, inl refl, object_at h (r * h.geometry.w), run_object h (w_pos h valid) r e s, m, omega arith, refl)
  covers_by r m Continuation lt e s b =
      let first : ℕ = s.0 in
      let below : first < r = s.2 in
      let f : BeginsRun h first = subst (IsBuiltBy h first) s.1 (valid.shaped first (omega arith)) in
      let k = f.run (r - first) s.3 in
      let z : first + (r - first) ≡ r = omega arith in
      let t = ap (top h) (sym z) ∙ k.1 in
      let sum : (first + (r - first)) * h.geometry.w ≡ first * h.geometry.w + (r - first) * h.geometry.w = add-mul first (r - first) h.geometry.w in
      let same : (first + (r - first)) * h.geometry.w ≡ r * h.geometry.w = ap (λ y. y * h.geometry.w) z in
      (first, omega arith, inr s.1, object_at h (first * h.geometry.w), run_object h (w_pos h valid) first s.1 f, (r - first) * h.geometry.w + m, omega arith, omega arith)

  pub covers : (r m : ℕ) → r < h.geometry.n → m < top h r
      → (q : ℕ) × (q < h.geometry.n) × ((q ≡ r) ⊎ (kind h q ≡ HumongousFirst)) × (o : Object) × Contains (objects_in h q) o × (x : ℕ) × (x < o.size) × (o.at + x ≡ r * h.geometry.w + m)
  covers r m lt b = covers_by r m (kind h r) lt refl (valid.shaped r lt) b
