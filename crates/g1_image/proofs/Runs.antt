-- Regions of humongous objects.
use Rattle.std.proofs.Common.{◌≡◌, ◌≤◌, ◌<◌, ◌≢◌, ℕ, ◌+◌, ◌-◌, ◌*◌, ◌^◌, inl, inr, slice_index, min, arith, refl, sym, ap, subst, ◌∙◌}
use Rattle.std.proofs.lemmas.Bool.{cases_lt}
use Rattle.std.proofs.Math.Nat.{mul-le-mul_right}
use Rattle.g1_words.specs.Heap.{Heap, region, start}
use Rattle.g1_words.specs.Valid.{IsFirst, IsWholeRun, IsShapedBy, IsShaped}
use Rattle.g1_words.specs.declared.object.Object.{Object}
use Rattle.g1_words.specs.declared.region.Kind.{Kind}
use Rattle.g1_words.specs.declared.region.Kind.TheVariants.{HumongousFirst, Continuation}
use Rattle.g1_words.proofs.Tiling.{same_size}
use Rattle.g1_image.specs.Draft.{Latest, ShapedBelow}
use Rattle.g1_image.proofs.Tiled.{header_is}

shape_of : (h : Heap) (k : Kind) (r : ℕ) → IsShaped h r → (region h r).kind ≡ k → IsShapedBy k h r
shape_of h k r s e = subst (λ k. IsShapedBy k h r) e s.by_kind

module _ (h : Heap) (r first size : ℕ) (latest : Latest h r first size) (shaped : ShapedBelow h r) where
  -- a humongous object that comes up to r is the last one that starts before r
  earlier : (f : ℕ) (o : Object) → 0 < size → IsFirst h f o → (r - f) * h.geometry.w < o.size → f < first → ⊥
  earlier f o some i lt le =
      let b : first < r = latest.before some in
      let s : IsShapedBy HumongousFirst h f = shape_of h HumongousFirst f (shaped f (omega arith)) i.kind in
      let e : s.0.size ≡ o.size = same_size h.words s.0 o s.1.object i.object (s.1.at ∙ sym i.at) in
      let gap : first - f ≤ r - f = omega arith in
      let k = s.4 (first - f) (omega arith) (omega (arith, e, lt, mul-le-mul_right h.geometry.w gap)) in
      let place : f + (first - f) ≡ first = omega arith in
      let one : (region h first).kind ≡ Continuation = subst (λ x. (region h x).kind ≡ Continuation) place k.1 in
      let two : (region h first).kind ≡ HumongousFirst = (latest.object some).1.kind in
      let clash : HumongousFirst ≡ Continuation = sym two ∙ one in
      cc

  is_latest : (f : ℕ) (o : Object) → 0 < size → IsFirst h f o → f < r → (r - f) * h.geometry.w < o.size → f ≡ first
  is_latest f o some i lt fits = elim (cases_lt f first) [
    | inl le ↦ absurd (earlier f o some i fits le)
    | inr ge ↦ elim (cases_lt first f) [ inl gt ↦ absurd (latest.last some f gt lt i.kind) | inr eq ↦ omega arith ]
  ]

  pub continues : 0 < size → IsShapedBy Continuation h r → ((r - first) * h.geometry.w < size) × ((region h r).top ≡ min h.geometry.w (size - (r - first) * h.geometry.w))
  continues some s =
      let same : s.0 ≡ first = is_latest s.0 s.1 some s.2 s.3 s.4 in
      let k = latest.object some in
      let at : s.1.at ≡ start h first = s.2.at ∙ ap (λ f. start h f) same in
      let e : s.1.size ≡ size = same_size h.words s.1 (record { at = start h first; size = size; refs = k.0 }) s.2.object k.1.object at in
      let gap : (r - s.0) * h.geometry.w ≡ (r - first) * h.geometry.w = ap (λ f. (r - f) * h.geometry.w) same in
      (omega (arith, s.4, gap, e), s.5 ∙ (λ t. min h.geometry.w (e t - gap t)))

  pub continues_some : IsShapedBy Continuation h r → size ≡ 0 → ⊥
  continues_some s z = latest.none z s.0 s.3 s.2.kind

  pub continued_by : 0 < size → (r - first) * h.geometry.w < size → (region h r).top ≡ min h.geometry.w (size - (r - first) * h.geometry.w) → IsShapedBy Continuation h r
  continued_by some lt top =
      let k = latest.object some in
      (first, record { at = start h first; size = size; refs = k.0 }, k.1, latest.before some, lt, top)

module _ (h : Heap) (r : ℕ) (q : Object) (at : q.at ≡ start h r) (word : slice_index h.words (start h r) ≡ q.size * 2 ^ 32 + q.refs) (refs : q.refs < 2 ^ 32) (size : q.size < 2 ^ 32) where
  pub first_read : IsShapedBy HumongousFirst h r → (q.refs < q.size) × (3 * h.geometry.w < 4 * q.size) × ((region h r).top ≡ min h.geometry.w q.size) × IsWholeRun h r q.size
  first_read s =
      let e = header_is h.words (start h r) q word refs size s.0 s.1.at s.1.object in
      (omega (arith, e.0, e.1, s.1.object.refs_fit), omega (arith, e.0, s.2), s.3 ∙ ap (λ x. min h.geometry.w x) e.0, subst (λ x. IsWholeRun h r x) e.0 s.4)

  pub read_first : (region h r).kind ≡ HumongousFirst → q.refs < q.size → IsFirst h r q
  read_first kind fit = record { kind = kind; at = at; object = record { header = ap (λ a. slice_index h.words a) at ∙ word; refs_fit = fit; size_fits = size } }

  pub first_made : (region h r).kind ≡ HumongousFirst → q.refs < q.size → 3 * h.geometry.w < 4 * q.size → (region h r).top ≡ min h.geometry.w q.size →
      IsWholeRun h r q.size → IsShapedBy HumongousFirst h r
  first_made kind fit big top run = (q, read_first kind fit, big, top, run)

  -- the last humongous object that starts before a later region
  pub Latest-found : (later : ℕ) → r < later → ((p : ℕ) → r < p → p < later → (region h p).kind ≢ HumongousFirst) → IsShaped h r → (region h r).kind ≡ HumongousFirst → Latest h later r q.size
  Latest-found later lt none s kind =
      let f = first_read (shape_of h HumongousFirst r s kind) in
      record {
        none = λ z. absurd (omega (arith, f.0, z));
        before = λ p. lt;
        object = λ p. (q.refs, record { kind = kind; at = refl; object = record { header = word; refs_fit = f.0; size_fits = size } });
        last = λ p. none;
      }

  pub Latest-first : IsShaped h r → (region h r).kind ≡ HumongousFirst → Latest h (r + 1) r q.size
  Latest-first s kind = Latest-found (r + 1) (omega arith) (λ p lt le. absurd (omega (arith, lt, le))) s kind

-- no humongous object starts before a region
pub Latest-none : (h : Heap) (r : ℕ) → ((q : ℕ) → q < r → (region h q).kind ≢ HumongousFirst) → Latest h r 0 0
Latest-none h r none = record { none = λ z. none; before = λ p. absurd (omega (arith, p)); object = λ p. absurd (omega (arith, p)); last = λ p. absurd (omega (arith, p)) }

pub Latest-other : (h : Heap) (r first size : ℕ) → Latest h r first size → (region h r).kind ≢ HumongousFirst → Latest h (r + 1) first size
Latest-other h r first size l other = record {
  none = λ z q lt k. elim (cases_lt q r) [ inl le ↦ l.none z q le k | inr ge ↦ at_r q lt ge k ];
  before = λ p. omega (arith, l.before p);
  object = l.object;
  last = λ p q lo lt k. elim (cases_lt q r) [ inl le ↦ l.last p q lo le k | inr ge ↦ at_r q lt ge k ];
} where
  at_r : (q : ℕ) → q < r + 1 → r ≤ q → (region h q).kind ≡ HumongousFirst → ⊥
  at_r q lt ge k = let same : q ≡ r = omega arith in other (subst (λ x. (region h x).kind ≡ HumongousFirst) same k)
