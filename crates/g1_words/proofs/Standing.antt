-- What the rules of a valid heap say of its objects: where each stands, that no two meet, and the sound part of the rules.
use Rattle.std.proofs.Common.{◌≡◌, ◌≢◌, ℕ, ◌+◌, ◌-◌, ◌*◌, ◌/◌, ◌%◌, ◌<◌, ◌≤◌, ◌⊎◌, inl, inr, List, [], ◌∷◌, Contains, refl, sym, ◌∙◌, ap, subst, arith, mod-lt, div-add-mod', min, zero, suc}
use Rattle.std.proofs.lemmas.Bool.{cases_lt}
use Rattle.std.proofs.lemmas.Nat.{div-mul-add}
use Rattle.std.proofs.Math.Nat.{mul-le-mul_right, add-mul}
use Rattle.g1_words.proofs.Computed.{none_in_past}
use Rattle.g1_words.proofs.Indices.{range_bounds}
use Rattle.g1_words.proofs.Members.{flat_map_cases, none_contains}
use Rattle.g1_words.proofs.Shapes.{BeginsRun, IsBuilt, IsBuiltBy, IsPlain, IsTiled}
use Rattle.g1_words.proofs.Sound.{IsSound}
use Rattle.g1_words.specs.Geometry.{IsWithinBounds}
use Rattle.g1_words.specs.Heap.{Heap, end, kind, object_at, objects, objects_by, objects_in, region_of, regions, top}
use Rattle.g1_words.specs.declared.object.Object.{Object}
use Rattle.g1_words.specs.declared.region.Kind.{Kind}
use Rattle.g1_words.specs.declared.region.Kind.TheVariants.{Continuation, Free, HumongousFirst, Ordinary}

pub width_positive : (w k n : ℕ) → IsWithinBounds w k n → 0 < w
width_positive w k n l = omega (arith, l.w_least)

pub card_positive : (w k n : ℕ) → IsWithinBounds w k n → 0 < k
card_positive w k n l = omega (arith, l.k_least)

-- ---- objects that fill a region

pub tiled_from : (h : Heap) (a : ℕ) (os : List Object) (end : ℕ) → IsTiled h a os end → a ≤ end
tiled_from h a [] end t = omega (arith, t)
tiled_from h a (o ∷ os) end t = let k = tiled_from h (a + o.size) os end t.2 in omega arith

pub tiled_member : (h : Heap) (a : ℕ) (os : List Object) (end : ℕ) → IsTiled h a os end → (o : Object) → Contains os o → (a ≤ o.at) × (o.at + o.size ≤ end) × (o ≡ object_at h o.at) × IsPlain h o
tiled_member h a [] end t o k = absurd (omega (arith, k.1))
tiled_member h a (p ∷ os) end t o (zero, b, e) =
    let at : p.at ≡ a = ap (λ (x : Object). x.at) t.0 in
    let m = tiled_from h (a + p.size) os end t.2 in
    let whole : p ≡ object_at h p.at = t.0 ∙ ap (object_at h) (sym at) in
    subst (λ (x : Object). (a ≤ x.at) × (x.at + x.size ≤ end) × (x ≡ object_at h x.at) × IsPlain h x) e (omega arith, omega arith, whole, t.1)
tiled_member h a (p ∷ os) end t o (suc j, b, e) = let m = tiled_member h (a + p.size) os end t.2 o (j, omega (arith, b), e) in (omega (arith, m.0), m.1, m.2, m.3)

pub tiled_apart : (h : Heap) (a : ℕ) (os : List Object) (end : ℕ) → IsTiled h a os end → (o p : Object) → Contains os o → Contains os p → (o.at ≡ p.at) ⊎ ((o.at + o.size ≤ p.at) ⊎ (p.at + p.size ≤ o.at))
tiled_apart h a [] end t o p k m = absurd (omega (arith, k.1))
tiled_apart h a (q ∷ os) end t o p (zero, b, e) (zero, lt, f) = inl (ap (λ (x : Object). x.at) (sym e ∙ f))
tiled_apart h a (q ∷ os) end t o p (zero, lt, e) (suc k, less, eq) =
    let at : q.at ≡ a = ap (λ (x : Object). x.at) t.0 in
    let b = tiled_member h (a + q.size) os end t.2 p (k, omega (arith, less), eq) in
    let c : q.at + q.size ≤ p.at = omega (arith, at, b.0) in
    inr (inl (subst (λ (x : Object). x.at + x.size ≤ p.at) e c))
tiled_apart h a (q ∷ os) end t o p (suc j, lt, e) (zero, less, f) =
    let at : q.at ≡ a = ap (λ (x : Object). x.at) t.0 in
    let b = tiled_member h (a + q.size) os end t.2 o (j, omega (arith, lt), e) in
    let c : q.at + q.size ≤ o.at = omega (arith, at, b.0) in
    inr (inr (subst (λ (x : Object). x.at + x.size ≤ o.at) f c))
tiled_apart h a (q ∷ os) end t o p (suc j, b, e) (suc i, lt, eq) = tiled_apart h (a + q.size) os end t.2 o p (j, omega (arith, b), e) (i, omega (arith, lt), eq)

-- ---- where an object of a region stands

-- an object of an ordinary region lies in it up to its top
pub record InOrdinary (h : Heap) (r : ℕ) (o : Object) : Type 0 where
  pub kind : kind h r ≡ Ordinary
  pub low : r * h.geometry.w ≤ o.at
  pub high : o.at + o.size ≤ r * h.geometry.w + top h r
  pub top : top h r ≤ h.geometry.w
  pub plain : IsPlain h o

-- a humongous object stands at the start of its first region
pub record InHumongous (h : Heap) (r : ℕ) (o : Object) : Type 0 where
  pub kind : kind h r ≡ HumongousFirst
  pub at : o.at ≡ r * h.geometry.w
  pub size : o.size ≡ (object_at h (r * h.geometry.w)).size
  pub refs : o.refs < o.size
  pub first : BeginsRun h r

abbrev pub Stands : Heap → ℕ → Object → Type 0
Stands h r o = (r < h.geometry.n) × (o ≡ object_at h o.at) × (InOrdinary h r o ⊎ InHumongous h r o)

stands_by : (h : Heap) (r : ℕ) (k : Kind) → r < h.geometry.n → kind h r ≡ k → IsBuiltBy h r k → (o : Object)
    → Contains (objects_in h r) o → Contains (objects_by k h r) o → Stands h r o
stands_by h r Free lt e s o all m = absurd (omega (arith, m.1))
stands_by h r Ordinary lt e s o all m =
    let t = tiled_member h (r * h.geometry.w) (objects_in h r) (r * h.geometry.w + top h r) s.2 o all in
    (lt, t.2, inl (record { kind = e; low = t.0; high = t.1; top = s.1; plain = t.3 }))
stands_by h r HumongousFirst lt e s o all (suc k, b, eq) = absurd (omega (arith, b))
stands_by h r HumongousFirst lt e s o all (zero, b, m) =
    let q : o ≡ object_at h (r * h.geometry.w) = sym m in
    let at : o.at ≡ r * h.geometry.w = ap (λ (x : Object). x.at) q in
    (lt, q ∙ ap (object_at h) (sym at), inr (record { kind = e; at = at; size = ap (λ (x : Object). x.size) q; refs = subst (λ (x : Object). x.refs < x.size) (sym q) s.refs; first = s }))
stands_by h r Continuation lt e s o all m = absurd (omega (arith, m.1))

module _ (h : Heap) (valid : IsBuilt h) where
  pub w_pos : 0 < h.geometry.w
  w_pos = width_positive h.geometry.w h.geometry.k h.geometry.n valid.limits

  -- a number past the last region has no objects
  none_past : (r : ℕ) → h.geometry.n ≤ r → (o : Object) → Contains (objects_in h r) o → ⊥
  none_past r le o k = none_contains o (subst (λ xs. Contains xs o) (none_in_past h r (omega (arith, valid.region_count, le))) k)

  pub stands : (r : ℕ) (o : Object) → Contains (objects_in h r) o → Stands h r o
  stands r o k = elim (cases_lt r h.geometry.n) [
    | inl lt ↦ stands_by h r (kind h r) lt refl (valid.shaped r lt) o k k
    | inr ge ↦ absurd (none_past r ge o k)
  ]

  pub home : (o : Object) → Contains (objects h) o → (r : ℕ) × Contains (objects_in h r) o × Stands h r o
  home o c = let m = flat_map_cases (objects_in h) (regions h) o c in (m.0, m.2, stands m.0 o m.2)

  -- a word of an ordinary object lies in its region, below top
  pub ordinary_word : (r : ℕ) (o : Object) (m : ℕ) → InOrdinary h r o → m < o.size → (region_of h (o.at + m) ≡ r) × (o.at + m < r * h.geometry.w + top h r)
  ordinary_word r o m s lt =
      let x : ℕ = o.at + m - r * h.geometry.w in
      let a = s.low in let b = s.high in let c = s.top in
      let e : o.at + m ≡ r * h.geometry.w + x = omega arith in
      (ap (λ y. y / h.geometry.w) e ∙ div-mul-add r h.geometry.w x (omega arith), omega arith)

  -- a word of a humongous object lies in its run, below top
  pub run_word : (r : ℕ) (o : Object) (m : ℕ) → InHumongous h r o → m < o.size
      → (c : ℕ) × (region_of h (o.at + m) ≡ r + c) × (c * h.geometry.w ≤ m) × (c * h.geometry.w < (object_at h (r * h.geometry.w)).size) × (o.at + m < (r + c) * h.geometry.w + top h (r + c))
  run_word r o m s lt =
      let c : ℕ = m / h.geometry.w in
      let p = w_pos in
      let d : c * h.geometry.w + m % h.geometry.w ≡ m = div-add-mod' m h.geometry.w in
      let q : m % h.geometry.w < h.geometry.w = mod-lt m w_pos in
      let at = s.at in
      let sum : (r + c) * h.geometry.w ≡ r * h.geometry.w + c * h.geometry.w = add-mul r c h.geometry.w in
      let e : o.at + m ≡ (r + c) * h.geometry.w + m % h.geometry.w = omega arith in
      let size = s.size in
      let less : c * h.geometry.w < (object_at h (r * h.geometry.w)).size = omega arith in
      let t = (s.first.run c less).1 in
      (c, ap (λ y. y / h.geometry.w) e ∙ div-mul-add (r + c) h.geometry.w (m % h.geometry.w) q, omega arith, less, omega arith)

  -- a word of an object lies in a used region
  pub word_used : (r : ℕ) (o : Object) (m : ℕ) → Stands h r o → m < o.size
      → (region_of h (o.at + m) < h.geometry.n) × (kind h (region_of h (o.at + m)) ≢ Free) × (o.at + m < region_of h (o.at + m) * h.geometry.w + top h (region_of h (o.at + m)))
  word_used r o m s lt = elim s.2 [
    | inl a ↦ let b = ordinary_word r o m a lt in
        subst (λ q. (q < h.geometry.n) × (kind h q ≢ Free) × (o.at + m < q * h.geometry.w + top h q)) (sym b.0)
        (s.0, (λ z. let clash : Ordinary ≡ Free = sym a.kind ∙ ap (kind h) (sym b.0) ∙ ap (kind h) b.0 ∙ z in cc), b.1)
    | inr a ↦ let b = run_word r o m a lt in
        let k : (r + b.0 < h.geometry.n) × (top h (r + b.0) ≡ min h.geometry.w ((object_at h (r * h.geometry.w)).size - b.0 * h.geometry.w))
        × (0 < b.0 → kind h (r + b.0) ≡ Continuation) = a.first.run b.0 b.3 in
        subst (λ q. (q < h.geometry.n) × (kind h q ≢ Free) × (o.at + m < q * h.geometry.w + top h q)) (sym b.1) (
          k.0,
          (λ z. elim (cases_lt 0 b.0) [
            | inl lt' ↦ let clash : Continuation ≡ Free = sym (k.2 lt') ∙ z in cc
            | inr ge ↦ let e : r + b.0 ≡ r = omega arith in let clash : HumongousFirst ≡ Free = sym a.kind ∙ ap (kind h) (sym e) ∙ z in cc
          ]),
          b.4,
        )
  ]

  -- a word in an ordinary region is one of an object of that region
  pub word_in_ordinary : (r : ℕ) (o : Object) (m : ℕ) → Stands h r o → m < o.size → kind h (region_of h (o.at + m)) ≡ Ordinary → InOrdinary h r o × (region_of h (o.at + m) ≡ r)
  word_in_ordinary r o m s lt one = elim s.2 [
    | inl a ↦ (a, (ordinary_word r o m a lt).0)
    | inr a ↦ let b = run_word r o m a lt in
        let k = a.first.run b.0 b.3 in
        let e : kind h (r + b.0) ≡ Ordinary = ap (kind h) (sym b.1) ∙ one in
        elim (cases_lt 0 b.0) [
          | inl lt' ↦ let clash : Continuation ≡ Ordinary = sym (k.2 lt') ∙ e in cc
          | inr ge ↦ let z : r + b.0 ≡ r = omega arith in let clash : HumongousFirst ≡ Ordinary = sym a.kind ∙ ap (kind h) (sym z) ∙ e in cc
        ]
  ]

  -- the later of two runs doesn't begin within the earlier
  runs_apart : (r q : ℕ) (o p : Object) (c d : ℕ) → InHumongous h r o → InHumongous h q p → r + c ≡ q + d → c * h.geometry.w < (object_at h (r * h.geometry.w)).size → r < q → ⊥
  runs_apart r q o p c d a b e lt le =
      let x : ℕ = q - r in
      let less : x * h.geometry.w ≤ c * h.geometry.w = mul-le-mul_right h.geometry.w (omega arith) in
      let k = a.first.run x (omega arith) in
      let three : kind h (r + x) ≡ Continuation = k.2 (omega arith) in
      let z : r + x ≡ q = omega arith in
      let clash : Continuation ≡ HumongousFirst = sym three ∙ ap (kind h) z ∙ b.kind in
      cc

  -- no two objects meet
  pub words_apart : (r q : ℕ) (o p : Object) (m k : ℕ) → Contains (objects_in h r) o → Contains (objects_in h q) p → m < o.size → k < p.size → o.at + m ≡ p.at + k → o.at ≡ p.at
  words_apart r q o p m k io ip lm lk e =
      let s = stands r o io in
      let t = stands q p ip in
      elim s.2 [
        | inl a ↦
            let one : kind h (region_of h (p.at + k)) ≡ Ordinary = ap (λ x. kind h (region_of h x)) (sym e) ∙ ap (kind h) (ordinary_word r o m a lm).0 ∙ a.kind in
            let b = word_in_ordinary q p k t lk one in
            let same : r ≡ q = sym (ordinary_word r o m a lm).0 ∙ ap (region_of h) e ∙ b.1 in
            let shape : IsBuiltBy h r Ordinary = subst (IsBuiltBy h r) a.kind (valid.shaped r s.0) in
            elim (tiled_apart h (r * h.geometry.w) (objects_in h r) (r * h.geometry.w + top h r) shape.2 o p io (subst (λ x. Contains (objects_in h x) p) (sym same) ip)) [
              | inl z ↦ z
              | inr (inl z) ↦ absurd (omega arith)
              | inr (inr z) ↦ absurd (omega arith)
            ]
        | inr a ↦ elim t.2 [
          | inl b ↦
              let one : kind h (region_of h (o.at + m)) ≡ Ordinary = ap (λ x. kind h (region_of h x)) e ∙ ap (kind h) (ordinary_word q p k b lk).0 ∙ b.kind in
              let c = word_in_ordinary r o m s lm one in
              let clash : HumongousFirst ≡ Ordinary = sym a.kind ∙ c.0.kind in cc
          | inr b ↦
              let x = run_word r o m a lm in
              let y = run_word q p k b lk in
              let same : r + x.0 ≡ q + y.0 = sym x.1 ∙ ap (region_of h) e ∙ y.1 in
              elim (cases_lt r q) [
                | inl lt ↦ absurd (runs_apart r q o p x.0 y.0 a b same x.3 lt)
                | inr ge ↦ elim (cases_lt q r) [
                  | inl lt ↦ absurd (runs_apart q r p o y.0 x.0 b a (sym same) y.3 lt)
                  | inr ge' ↦ let z : r ≡ q = omega arith in a.at ∙ ap (λ x. x * h.geometry.w) z ∙ sym b.at
                ]
              ]
        ]
      ]

  pub home_region : (r : ℕ) (o : Object) → Stands h r o → region_of h o.at ≡ r
  home_region r o s =
      let z : o.at + 0 ≡ o.at = omega arith in
      elim s.2 [
        | inl a ↦ let p = a.plain.0 in ap (region_of h) (sym z) ∙ (ordinary_word r o 0 a (omega arith)).0
        | inr a ↦ let e : o.at ≡ r * h.geometry.w + 0 = omega (arith, a.at) in ap (λ y. y / h.geometry.w) e ∙ div-mul-add r h.geometry.w 0 w_pos
      ]

  pub stands_refs : (r : ℕ) (o : Object) → Stands h r o → o.refs < o.size
  stands_refs r o s = elim s.2 [ inl a ↦ a.plain.0 | inr a ↦ a.refs ]

  pub built_is_sound : IsSound h
  built_is_sound = record {
    w_positive = w_pos;
    in_region = λ r o c. home_region r o (stands r o c);
    in_used = λ o c. let m = home o c in let z : o.at + 0 ≡ o.at = omega arith in
        subst (λ x. kind h (region_of h x) ≢ Free) z (word_used m.0 o 0 m.2 (let p = stands_refs m.0 o m.2 in omega arith)).1;
    fits = λ o c one. let m = home o c in
        let k : kind h m.0 ≡ Ordinary = ap (kind h) (sym (home_region m.0 o m.2)) ∙ one in
        elim m.2.2 [
          | inl a ↦ (let p = a.plain.0 in omega arith, let x = a.low in let y = a.high in let z = a.top in omega arith)
          | inr a ↦ let clash : HumongousFirst ≡ Ordinary = sym a.kind ∙ k in cc
        ];
    slots_fit = λ o c. let m = home o c in stands_refs m.0 o m.2;
    slots_at_home = λ o p c d one.
        let m = home o c in
        let b = range_bounds (o.at + 1) o.refs p d in
        let s = stands_refs m.0 o m.2 in
        let x : ℕ = p - o.at in
        let e : o.at + x ≡ p = omega arith in
        let k = word_in_ordinary m.0 o x m.2 (omega arith) (ap (λ y. kind h (region_of h y)) e ∙ one) in
        ap (region_of h) (sym e) ∙ k.1 ∙ sym (home_region m.0 o m.2);
    root_named = valid.root_named;
    slot_named = valid.slot_named;
  }

-- a humongous first region has its object
pub run_object : (h : Heap) → 0 < h.geometry.w → (r : ℕ) → kind h r ≡ HumongousFirst → BeginsRun h r → Contains (objects_in h r) (object_at h (r * h.geometry.w))
run_object h pos r two s = subst (λ k. Contains (objects_by k h r) (object_at h (r * h.geometry.w))) (sym two) (zero, omega arith, refl)

-- the same objects fill the same words of a heap that has their headers
pub tiled_same : (h j : Heap) (a : ℕ) (os : List Object) (end : ℕ) → j.geometry.w ≡ h.geometry.w → ((o : Object) → Contains os o → object_at j o.at ≡ o) → IsTiled h a os end → IsTiled j a os end
tiled_same h j a [] end w f t = t
tiled_same h j a (o ∷ os) end w f t =
    let at : o.at ≡ a = ap (λ (x : Object). x.at) t.0 in
    (sym (f o (zero, omega arith, refl)) ∙ ap (object_at j) at, subst (λ y. (o.refs < o.size) × (4 * o.size ≤ 3 * y)) (sym w) t.1, tiled_same h j (a + o.size) os end w (λ p k. f p (suc k.0, omega (arith, k.1), k.2)) t.2)
