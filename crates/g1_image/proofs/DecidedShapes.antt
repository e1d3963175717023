-- Whether a region keeps the rules of its kind.
use Rattle.std.proofs.Common.{◌≡◌, ◌≤◌, ◌<◌, ℕ, zero, suc, ◌+◌, ◌-◌, ◌*◌, ◌^◌, inl, inr, List, [], ◌∷◌, min, arith, refl, sym, ap, subst, ◌∙◌}
use Rattle.std.specs.Prelude.{All, Some}
use Rattle.std.proofs.lemmas.Bool.{cases_lt}
use Rattle.std.proofs.Math.Nat.{mul-le-mul_left}
use Rattle.g1_words.specs.declared.object.Object.{Object}
use Rattle.g1_words.specs.declared.region.Kind.{Kind}
use Rattle.g1_words.specs.declared.region.Kind.TheVariants.{Free, Ordinary, HumongousFirst, Continuation}
use Rattle.g1_words.specs.Heap.{Heap, region, start, end, object_at}
use Rattle.g1_words.specs.Valid.{IsObject, IsHumongous, IsFirst, HoldsBy, IsWholeRun, IsShapedBy, IsShaped}
use Rattle.g1_words.proofs.Computed.{object_is}
use Rattle.g1_words.proofs.Tiling.{Tiles-le}
use Rattle.g1_image.specs.Draft.{IsTiled}
use Rattle.g1_image.proofs.Tiled.{front}
use Rattle.g1_image.proofs.Decided.{Decided, decided_as, decided_both, decided_under, decided_lt, decided_le, decided_eq, decided_some, decided_kind, decided_all, decided_any}

-- what holds of one object more
all_more : (P : Object → Type 0) (o : Object) (os : List Object) → P o → All P os → All P (o ∷ os)
all_more P o os p a zero d lt = p
all_more P o os p a (suc k) d lt = a k d (omega arith)

module _ (h : Heap) where
  -- the word at an address is a header
  decided_object : (a : ℕ) → Decided (IsObject h.words (object_at h a))
  decided_object a =
      decided_as (((object_at h a).refs < (object_at h a).size) × ((object_at h a).size < 2 ^ 32)) (IsObject h.words (object_at h a))
      (λ p. record { header = omega arith; refs_fit = p.0; size_fits = p.1 })
      (λ i. (i.refs_fit, i.size_fits))
      (decided_both ((object_at h a).refs < (object_at h a).size) ((object_at h a).size < 2 ^ 32)
      (decided_lt (object_at h a).refs (object_at h a).size) (decided_lt (object_at h a).size (2 ^ 32)))

  -- the object at an address is the one that its header tells
  object_there : (a : ℕ) (o : Object) → o.at ≡ a → IsObject h.words o → o ≡ object_at h a
  object_there a o e i = object_is h o i ∙ ap (object_at h) e

  -- what a row begins with
  tiled_front : (a to : ℕ) → IsTiled h.words a to h.geometry.w → a < to →
      IsObject h.words (object_at h a) × (4 * (object_at h a).size ≤ 3 * h.geometry.w) × IsTiled h.words (a + (object_at h a).size) to h.geometry.w
  tiled_front a to t lt =
      let f = front h.words a to h.geometry.w t lt in
      subst (λ (o : Object). IsObject h.words o × (4 * o.size ≤ 3 * h.geometry.w) × IsTiled h.words (a + o.size) to h.geometry.w) (object_there a f.0 f.1 f.2) (f.2, f.3, f.4)

  -- a row with one object more in front
  tiled_more : (a to : ℕ) → IsObject h.words (object_at h a) → 4 * (object_at h a).size ≤ 3 * h.geometry.w →
      IsTiled h.words (a + (object_at h a).size) to h.geometry.w → IsTiled h.words a to h.geometry.w
  tiled_more a to i small t = (object_at h a ∷ t.0, (refl, i, t.1), all_more (λ o. 4 * o.size ≤ 3 * h.geometry.w) (object_at h a) t.0 small t.2)

  -- objects that aren't humongous fill some words
  decided_tiled : (most a to : ℕ) → to ≤ a + most → Decided (IsTiled h.words a to h.geometry.w)
  decided_tiled zero a to le = elim (decided_eq a to) [
    | inl e ↦ inl ([], e, λ k d lt. absurd (omega arith))
    | inr n ↦ inr (λ t. n (omega (arith, le, Tiles-le h.words a t.0 to t.1)))
  ]
  decided_tiled (suc most) a to le = elim (cases_lt a to) [
    | inr ge ↦ elim (decided_eq a to) [
      | inl e ↦ inl ([], e, λ k d lt. absurd (omega arith))
      | inr n ↦ inr (λ t. n (omega (arith, ge, Tiles-le h.words a t.0 to t.1)))
    ]
    | inl lt ↦ elim (decided_object a) [
      | inr n ↦ inr (λ t. n (tiled_front a to t lt).0)
      | inl i ↦
          decided_as ((4 * (object_at h a).size ≤ 3 * h.geometry.w) × IsTiled h.words (a + (object_at h a).size) to h.geometry.w) (IsTiled h.words a to h.geometry.w)
          (λ p. tiled_more a to i p.0 p.1)
          (λ t. let f = tiled_front a to t lt in (f.1, f.2))
          (decided_both (4 * (object_at h a).size ≤ 3 * h.geometry.w) (IsTiled h.words (a + (object_at h a).size) to h.geometry.w)
          (decided_le (4 * (object_at h a).size) (3 * h.geometry.w))
          (decided_tiled most (a + (object_at h a).size) to (omega (arith, le, i.refs_fit))))
    ]
  ]

  -- the rules of an ordinary region
  decided_row : (r : ℕ) → (region h r).kind ≡ Ordinary → Decided (IsShapedBy Ordinary h r)
  decided_row r e =
      decided_as ((0 < (region h r).top) × (((region h r).top ≤ h.geometry.w) × IsTiled h.words (start h r) (end h r) h.geometry.w)) (IsShapedBy Ordinary h r)
      (λ p. (p.0, p.1.0, p.1.1.0, subst (λ k. HoldsBy k h r p.1.1.0) (sym e) p.1.1.1, p.1.1.2))
      (λ s. (s.0, (s.1, (s.2, subst (λ k. HoldsBy k h r s.2) e s.3, s.4))))
      (decided_both (0 < (region h r).top) (((region h r).top ≤ h.geometry.w) × IsTiled h.words (start h r) (end h r) h.geometry.w) (decided_lt 0 (region h r).top)
      (decided_both ((region h r).top ≤ h.geometry.w) (IsTiled h.words (start h r) (end h r) h.geometry.w) (decided_le (region h r).top h.geometry.w)
      (decided_tiled (region h r).top (start h r) (end h r) (omega arith))))

  -- the object that starts a humongous region is the one that its header tells
  first_there : (r : ℕ) (o : Object) → IsFirst h r o → o ≡ object_at h (start h r)
  first_there r o f = object_there (start h r) o f.at f.object

  -- a humongous object stands at the start of a region
  decided_begins : (r : ℕ) → Decided (IsFirst h r (object_at h (start h r)))
  decided_begins r =
      decided_as (((region h r).kind ≡ HumongousFirst) × IsObject h.words (object_at h (start h r))) (IsFirst h r (object_at h (start h r)))
      (λ p. record { kind = p.0; at = refl; object = p.1 })
      (λ f. (f.kind, f.object))
      (decided_both ((region h r).kind ≡ HumongousFirst) (IsObject h.words (object_at h (start h r))) (decided_kind (region h r).kind HumongousFirst) (decided_object (start h r)))

  module _ (wide : 0 < h.geometry.w) where
    -- a run's region is one of as many as it has words
    run_below : (q size : ℕ) → q * h.geometry.w < size → q < size
    run_below q size lt = let one : 1 ≤ h.geometry.w = omega (arith, wide) in omega (arith, mul-le-mul_left q one, lt)

    -- the rule for a region of a run
    abbrev RunAt : ℕ → ℕ → ℕ → Type 0
    RunAt r size q = 0 < q → q * h.geometry.w < size → (r + q < h.geometry.n) × ((region h (r + q)).kind ≡ Continuation)

    -- a region of a run is there
    decided_run_at : (r size q : ℕ) → Decided (RunAt r size q)
    decided_run_at r size q =
        decided_under (0 < q) (q * h.geometry.w < size → (r + q < h.geometry.n) × ((region h (r + q)).kind ≡ Continuation)) (decided_lt 0 q)
        (decided_under (q * h.geometry.w < size) ((r + q < h.geometry.n) × ((region h (r + q)).kind ≡ Continuation)) (decided_lt (q * h.geometry.w) size)
        (decided_both (r + q < h.geometry.n) ((region h (r + q)).kind ≡ Continuation) (decided_lt (r + q) h.geometry.n) (decided_kind (region h (r + q)).kind Continuation)))

    -- the regions of a run are there
    decided_run : (r size : ℕ) → Decided (IsWholeRun h r size)
    decided_run r size =
        decided_as ((q : ℕ) → q < size → RunAt r size q) (IsWholeRun h r size)
        (λ f q some lt. f q (run_below q size lt) some lt)
        (λ f q below some lt. f q some lt)
        (decided_all (RunAt r size) (decided_run_at r size) size)

    -- the rules for the first region of a humongous object, which is known
    abbrev FirstRules : ℕ → Object → Type 0
    FirstRules r o = IsHumongous h o × (((region h r).top ≡ min h.geometry.w o.size) × IsWholeRun h r o.size)

    -- the rules for the first region of a humongous object
    decided_first_region : (r : ℕ) → Decided (IsShapedBy HumongousFirst h r)
    decided_first_region r =
        let q : Object = object_at h (start h r) in
        decided_as (IsFirst h r q × FirstRules r q) (IsShapedBy HumongousFirst h r)
        (λ p. (q, p.0, p.1.0, p.1.1.0, p.1.1.1))
        (λ s. subst (λ o. IsFirst h r o × FirstRules r o) (first_there r s.0 s.1) (s.1, (s.2, (s.3, s.4))))
        (decided_both (IsFirst h r q) (FirstRules r q) (decided_begins r)
        (decided_both (IsHumongous h q) (((region h r).top ≡ min h.geometry.w q.size) × IsWholeRun h r q.size) (decided_lt (3 * h.geometry.w) (4 * q.size))
        (decided_both ((region h r).top ≡ min h.geometry.w q.size) (IsWholeRun h r q.size) (decided_eq (region h r).top (min h.geometry.w q.size)) (decided_run r q.size))))

    -- the rules for a continuation, of which the first region and the object are known
    abbrev Follows : ℕ → ℕ → Object → Type 0
    Follows r first o = ((r - first) * h.geometry.w < o.size) × ((region h r).top ≡ min h.geometry.w (o.size - (r - first) * h.geometry.w))

    -- a region continues the object that starts in another
    decided_follows : (r first : ℕ) → Decided ((o : Object) × IsFirst h first o × Follows r first o)
    decided_follows r first =
        let q : Object = object_at h (start h first) in
        decided_as (IsFirst h first q × Follows r first q) ((o : Object) × IsFirst h first o × Follows r first o)
        (λ p. (q, p.0, p.1))
        (λ s. subst (λ o. IsFirst h first o × Follows r first o) (first_there first s.0 s.1) (s.1, s.2))
        (decided_both (IsFirst h first q) (Follows r first q) (decided_begins first)
        (decided_both ((r - first) * h.geometry.w < q.size) ((region h r).top ≡ min h.geometry.w (q.size - (r - first) * h.geometry.w))
        (decided_lt ((r - first) * h.geometry.w) q.size) (decided_eq (region h r).top (min h.geometry.w (q.size - (r - first) * h.geometry.w)))))

    -- the rules for a continuation
    decided_later_region : (r : ℕ) → Decided (IsShapedBy Continuation h r)
    decided_later_region r =
        decided_as ((first : ℕ) × (first < r) × ((o : Object) × IsFirst h first o × Follows r first o)) (IsShapedBy Continuation h r)
        (λ p. (p.0, p.2.0, p.2.1, p.1, p.2.2.0, p.2.2.1))
        (λ s. (s.0, s.3, (s.1, s.2, (s.4, s.5))))
        (decided_any (λ first. (o : Object) × IsFirst h first o × Follows r first o) (decided_follows r) r)

    -- the rules for a region of a kind
    decided_by_kind : (k : Kind) (r : ℕ) → (region h r).kind ≡ k → Decided (IsShapedBy k h r)
    decided_by_kind Free r e = decided_eq (region h r).top 0
    decided_by_kind Ordinary r e = decided_row r e
    decided_by_kind HumongousFirst r e = decided_first_region r
    decided_by_kind Continuation r e = decided_later_region r

    -- the rules of a region
    pub decided_shaped : (r : ℕ) → Decided (IsShaped h r)
    decided_shaped r =
        decided_as (IsShapedBy (region h r).kind h r × (h.current ≡ Some r → (region h r).kind ≡ Ordinary)) (IsShaped h r)
        (λ p. record { by_kind = p.0; current = p.1 })
        (λ s. (s.by_kind, s.current))
        (decided_both (IsShapedBy (region h r).kind h r) (h.current ≡ Some r → (region h r).kind ≡ Ordinary) (decided_by_kind (region h r).kind r refl)
        (decided_under (h.current ≡ Some r) ((region h r).kind ≡ Ordinary) (decided_some h.current r) (decided_kind (region h r).kind Ordinary)))
