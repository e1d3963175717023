-- A humongous object is there as a whole, or all regions of its run are free.
use Rattle.std.proofs.Common.{◌≡◌, ◌≢◌, ℕ, ◌+◌, ◌-◌, ◌*◌, ◌/◌, ◌^◌, ◌<◌, ◌≤◌, ◌⊎◌, inl, inr, List, Contains, IsFalse, refl, sym, ap, subst, ◌∙◌, arith, Bool}
use Rattle.std.proofs.lemmas.Bool.{cases_Bool, cases_lt}
use Rattle.std.proofs.Math.Nat.{mul-le-mul_right}
use native.Mathlib.Decide.{ℕ_discrete}
use Rattle.g1_words.specs.declared.object.Object.{Object}
use Rattle.g1_words.specs.declared.region.Kind.{Kind}
use Rattle.g1_words.specs.declared.region.Kind.TheVariants.{Free, Ordinary, HumongousFirst, Continuation}
use Rattle.g1_words.specs.Lists.{has}
use Rattle.g1_words.specs.Heap.{Heap, kind, start, region_of, word, object_at, objects}
use Rattle.g1_words.specs.Valid.{IsValid, IsFirst, IsShapedBy, IsWholeRun}
use Rattle.g1_words.proofs.Computed.{object_is, has_contains}
use Rattle.g1_words.proofs.Objects.{first_has, div_between}
use Rattle.g1_same.proofs.Copies.{copied_header}
use Rattle.g1_kept.specs.Keeps.{IsAsItWas, Keeps, Remains, outside}
use Rattle.g1_kept.specs.Laws.{FreesRuns}

free≢first : Free ≢ HumongousFirst
free≢first e = cc

free≢continuation : Free ≢ Continuation
free≢continuation e = cc

first≢continuation : HumongousFirst ≢ Continuation
first≢continuation e = cc

-- the first region of a run, its object, and the run
record IsRun (h : Heap) (r : ℕ) : Type 0 where
  first : IsFirst h r (object_at h (start h r))
  whole : IsWholeRun h r (object_at h (start h r)).size

run_of : (h : Heap) (r : ℕ) → IsValid h → r < h.geometry.n → kind h r ≡ HumongousFirst → IsRun h r
run_of h r valid lt e =
    let s : IsShapedBy HumongousFirst h r = subst (λ k. IsShapedBy k h r) e (valid.shaped r lt).by_kind in
    let is : s.0 ≡ object_at h (start h r) = object_is h s.0 s.1.object ∙ ap (object_at h) s.1.at in
    record { first = subst (IsFirst h r) is s.1; whole = subst (λ (o : Object). IsWholeRun h r o.size) is s.4 }

module _ (fill : Bool) (set : List ℕ) (g h : Heap) (r : ℕ) (left : IsValid g) (right : IsValid h) (k : Keeps fill set g h)
    (lt : r < g.geometry.n) (first : kind g r ≡ HumongousFirst) where
  run : IsRun g r
  run = run_of g r left lt first

  -- a region in use is outside the set
  not_chosen : (q : ℕ) → q < g.geometry.n → kind h q ≢ Free → IsFalse (has set q)
  not_chosen q inside used = elim (cases_Bool (has set q)) [ inl t ↦ absurd (used ((k.table.regions q inside).of_set t)) | inr f ↦ f ]

  part : (i : ℕ) → 0 < i → i * g.geometry.w < (object_at g (start g r)).size → (r + i < g.geometry.n) × (kind g (r + i) ≡ Continuation)
  part i some within = run.whole i some within

  same_n : h.geometry.n ≡ g.geometry.n
  same_n = ap (λ s. s.n) k.table.geometry

  same_w : h.geometry.w ≡ g.geometry.w
  same_w = ap (λ s. s.w) k.table.geometry

  -- a continuation that is in use is one still
  still : (q : ℕ) → q < g.geometry.n → kind g q ≡ Continuation → kind h q ≢ Free → kind h q ≡ Continuation
  still q inside e used = elim ((k.table.regions q inside).other (not_chosen q inside used)) [
    | inl f ↦ absurd (free≢continuation (sym f ∙ e))
    | inr s ↦ elim s [ inl f ↦ absurd (used f.1) | inr was ↦ was.same_kind ∙ e ]
  ]

  -- where the first region is free, so are the others
  rest_free : (i : ℕ) → 0 < i → i * g.geometry.w < (object_at g (start g r)).size → kind h r ≡ Free → kind h (r + i) ≢ Free → ⊥
  rest_free i some within free used =
      let p = part i some within in
      let here : kind h (r + i) ≡ Continuation = still (r + i) p.0 p.1 used in
      let s : IsShapedBy Continuation h (r + i) = subst (λ x. IsShapedBy x h (r + i)) here (right.shaped (r + i) (omega (arith, p.0, same_n))).by_kind in
      let f : ℕ = s.0 in
      let begins : kind h f ≡ HumongousFirst = s.2.kind in
      let f_lt : f < h.geometry.n = omega (arith, s.3, p.0, same_n) in
      let object_run = run_of h f right f_lt begins in
      let is : s.1 ≡ object_at h (start h f) = object_is h s.1 s.2.object ∙ ap (object_at h) s.2.at in
      let long : (r + i - f) * h.geometry.w < (object_at h (start h f)).size = subst (λ (o : Object). (r + i - f) * h.geometry.w < o.size) is s.4 in
      elim (cases_lt f r) [
        | inl before ↦
            let le : (r - f) * h.geometry.w ≤ (r + i - f) * h.geometry.w = mul-le-mul_right h.geometry.w (omega (arith, before)) in
            let c : kind h (f + (r - f)) ≡ Continuation = (object_run.whole (r - f) (omega (arith, before)) (omega (arith, le, long))).1 in
            let same : f + (r - f) ≡ r = omega (arith, before) in
            free≢continuation (sym free ∙ ap (kind h) (sym same) ∙ c)
        | inr after ↦ elim (ℕ_discrete f r) [
          | yes e ↦ free≢first (sym free ∙ ap (kind h) (sym e) ∙ begins)
          | no d ↦
              let more : r < f = omega (arith, after, d) in
              let le : (f - r) * g.geometry.w ≤ i * g.geometry.w = mul-le-mul_right g.geometry.w (omega (arith, more, s.3)) in
              let q = part (f - r) (omega (arith, more)) (omega (arith, le, within)) in
              let same : r + (f - r) ≡ f = omega (arith, more) in
              let c : kind h f ≡ Continuation = still f (subst (λ x. x < g.geometry.n) same q.0) (ap (kind g) (sym same) ∙ q.1) (λ e. free≢first (sym e ∙ begins)) in
              first≢continuation (sym begins ∙ c)
        ]
      ]

  -- where the first region is in use, so are the others
  rest_used : (i : ℕ) → 0 < i → i * g.geometry.w < (object_at g (start g r)).size → kind h r ≢ Free → kind h (r + i) ≡ Continuation
  rest_used i some within used =
      let a : ℕ = start g r in
      let out : IsFalse (has set r) = not_chosen r lt used in
      let was : IsAsItWas fill g h r = elim ((k.table.regions r lt).other out) [
        | inl f ↦ absurd (free≢first (sym f ∙ first))
        | inr s ↦ elim s [ inl f ↦ absurd (used f.1) | inr was ↦ was ]
      ] in
      let begins : kind h r ≡ HumongousFirst = was.same_kind ∙ first in
      let there = run_of h r right (omega (arith, lt, same_n)) begins in
      let object_has = first_has g r (object_at g a) lt run.first in
      let home : region_of g a ≡ r = div_between a g.geometry.w r (omega arith) (omega (arith, left.limits.w_least)) in
      let object : Contains (objects g) (object_at g a) = has_contains g (object_at g a) object_has in
      let remains : Remains set g h a = outside (record { object = object; outside = ap (has set) home ∙ out; in_use = λ e. used (sym (ap (kind h) home) ∙ e) }) in
      let head : word h (k.rename a) ≡ word g a = copied_header k.rename g h a left object (k.copies a remains) in
      let stays : k.rename a ≡ a = k.stays a (ap (has set) home ∙ out) in
      let at : start h r ≡ a = ap (λ w. r * w) same_w in
      let size : (object_at h (start h r)).size ≡ (object_at g a).size = ap (λ x. word h x / 2 ^ 32) (at ∙ sym stays) ∙ ap (λ x. x / 2 ^ 32) head in
      let within' : i * h.geometry.w < (object_at h (start h r)).size = subst (λ w. i * w < (object_at h (start h r)).size) (sym same_w) (omega (arith, within, size)) in
      (there.whole i some within').1

pub frees_runs : FreesRuns
frees_runs fill set g h r i left right k lt first within = elim (ℕ_discrete i 0) [
  | yes e ↦ let same : r + i ≡ r = omega (arith, e) in (λ f. ap (kind h) (sym same) ∙ f, λ f. ap (kind h) same ∙ f)
  | no d ↦ (
    λ f. elim (is_free (kind h r)) [
      | inl free ↦ free
      | inr used ↦ absurd (free≢continuation (sym f ∙ rest_used fill set g h r left right k lt first i (omega (arith, d)) within used))
    ],
    λ free. elim (is_free (kind h (r + i))) [
      | inl f ↦ f
      | inr used ↦ absurd (rest_free fill set g h r left right k lt first i (omega (arith, d)) within free used)
    ],
  )
]
  where
    is_free : (x : Kind) → (x ≡ Free) ⊎ (x ≢ Free)
    is_free Free = inl refl
    is_free Ordinary = inr (λ e. cc)
    is_free HumongousFirst = inr (λ e. cc)
    is_free Continuation = inr (λ e. cc)
