-- A heap in which unnamed humongous objects were freed keeps the rules of a valid heap.
use Rattle.std.proofs.Common.{◌≡◌, ℕ, ◌+◌, ◌-◌, ◌*◌, ◌/◌, ◌^◌, ◌<◌, ◌≤◌, inl, inr, true, false, List, Contains, sym, ◌∙◌, ap, subst, arith, lit<}
use Rattle.std.specs.Prelude.{Some, IsTrue}
use Rattle.std.proofs.lemmas.Bool.{cases_Bool}
use Rattle.std.proofs.lemmas.Nat.{div-mul-add}
use Rattle.std.proofs.Math.Nat.{add-mul}
use Rattle.g1_after.proofs.LeftRefs.{ref_away, ref_cases, root_away}
use Rattle.g1_after.proofs.ObjectsLeft.{IsLeft, header_same, heap_is_left, object_left, objects_same, with_parts}
use Rattle.g1_after.proofs.UnnamedRegions.{unnamed_not_ordinary, words_together}
use Rattle.g1_after.specs.Freed.{ValidLeft, heap_left}
use Rattle.g1_after.specs.Unnamed.{unnamed_regions}
use Rattle.g1_words.proofs.Computed.{Contains-range}
use Rattle.g1_words.proofs.Members.{Contains-flat_map}
use Rattle.g1_words.proofs.Shapes.{BeginsRun, IsBuilt, IsBuiltBy, IsTiled, TakesRun, built, valid_of}
use Rattle.g1_words.proofs.Standing.{home_region, run_object, stands, tiled_member, tiled_same, w_pos}
use Rattle.g1_words.specs.Heap.{Heap, kind, object_at, objects, objects_in, region_of, regions, top, word}
use Rattle.g1_words.specs.Lists.{has}
use Rattle.g1_words.specs.References.{Ref, refs}
use Rattle.g1_words.specs.Survivors.{in_set}
use Rattle.g1_words.specs.Valid.{MayBePinned}
use Rattle.g1_words.specs.declared.object.Object.{Object}
use Rattle.g1_words.specs.declared.region.Kind.{Kind}
use Rattle.g1_words.specs.declared.region.Kind.TheVariants.{Continuation, Free, HumongousFirst, Ordinary}
use Rattle.g1_words.specs.declared.region.Region.{Region}

module _ (h : Heap) (valid : IsBuilt h) where
  -- the region of an address by its place in it
  place_region : (r m : ℕ) → m < h.geometry.w → region_of h (r * h.geometry.w + m) ≡ r
  place_region r m lt = div-mul-add r h.geometry.w m lt

  -- the object of a run
  run_head : (r : ℕ) → r < h.geometry.n → kind h r ≡ HumongousFirst → BeginsRun h r → Contains (objects h) (object_at h (r * h.geometry.w))
  run_head r lt two s =
      Contains-flat_map (objects_in h) (regions h) r (object_at h (r * h.geometry.w))
      (Contains-range 0 h.geometry.n r (omega arith) (omega (arith, lt))) (run_object h (w_pos h valid) r two s)

  -- the regions of a run are freed together, or none is
  run_together : (r q : ℕ) → r < h.geometry.n → kind h r ≡ HumongousFirst → BeginsRun h r → q * h.geometry.w < (object_at h (r * h.geometry.w)).size
      → has (unnamed_regions h) (r + q) ≡ has (unnamed_regions h) r
  run_together r q lt two s less =
      let o : Object = object_at h (r * h.geometry.w) in
      let pos = w_pos h valid in
      let sum : (r + q) * h.geometry.w ≡ r * h.geometry.w + q * h.geometry.w = add-mul r q h.geometry.w in
      let there : o.at + q * h.geometry.w ≡ (r + q) * h.geometry.w + 0 = omega arith in
      let here : o.at + 0 ≡ r * h.geometry.w + 0 = omega arith in
      let at : region_of h (o.at + q * h.geometry.w) ≡ r + q = ap (λ y. y / h.geometry.w) there ∙ place_region (r + q) 0 pos in
      let start : region_of h (o.at + 0) ≡ r = ap (λ y. y / h.geometry.w) here ∙ place_region r 0 pos in
      let f = s.refs in
      ap (has (unnamed_regions h)) (sym at) ∙ words_together h valid o (q * h.geometry.w) 0 (run_head r lt two s) less (omega arith) ∙ ap (has (unnamed_regions h)) start

module _ (h : Heap) (valid : IsBuilt h) (words : List ℕ) (table : List Region) (left : IsLeft h words table) where
  -- the kind and top of a region that was freed, and of one that wasn't
  pub freed_shape : (r : ℕ) → r < h.geometry.n → has (unnamed_regions h) r ≡ true → (kind (with_parts h words table) r ≡ Free) × (top (with_parts h words table) r ≡ 0)
  freed_shape r lt t = let q = left.freed r lt t in (ap (λ (q : Region). q.kind) q, ap (λ (q : Region). q.top) q)

  pub same_shape : (r : ℕ) → r < h.geometry.n → has (unnamed_regions h) r ≡ false → (kind (with_parts h words table) r ≡ kind h r) × (top (with_parts h words table) r ≡ top h r)
  same_shape r lt f = let q = left.same r lt f in (ap (λ (q : Region). q.kind) q, ap (λ (q : Region). q.top) q)

  -- an object at the start of a region that wasn't freed is the same
  start_same : (r : ℕ) → has (unnamed_regions h) r ≡ false → object_at (with_parts h words table) (r * h.geometry.w) ≡ object_at h (r * h.geometry.w)
  start_same r f =
      let z : r * h.geometry.w ≡ r * h.geometry.w + 0 = omega arith in
      header_same h valid words table left (r * h.geometry.w) (ap (in_set h (unnamed_regions h)) z ∙ ap (has (unnamed_regions h)) (place_region h valid r 0 (w_pos h valid)) ∙ f)

  -- a region that was not freed keeps the rules of its kind
  same_by : (r : ℕ) (k : Kind) → r < h.geometry.n → has (unnamed_regions h) r ≡ false → kind h r ≡ k → IsBuiltBy h r k → IsBuiltBy (with_parts h words table) r k
  same_by r Free lt f e s = (same_shape r lt f).1 ∙ s
  same_by r Ordinary lt f e s =
      let t = (same_shape r lt f).1 in
      let os = objects_same h valid words table left r lt f in
      let tiled : IsTiled (with_parts h words table) (r * h.geometry.w) (objects_in h r) (r * h.geometry.w + top h r) =
      tiled_same h (with_parts h words table) (r * h.geometry.w) (objects_in h r) (r * h.geometry.w + top h r) (λ _. h.geometry.w)
      (λ o m.
      let whole = (tiled_member h (r * h.geometry.w) (objects_in h r) (r * h.geometry.w + top h r) s.2 o m).2 in
      header_same h valid words table left o.at (ap (has (unnamed_regions h)) (home_region h valid r o (stands h valid r o m)) ∙ f) ∙ sym whole) s.2 in
      let x = s.0 in let y = s.1 in (
        omega arith,
        omega arith,
        subst (λ xs. IsTiled (with_parts h words table) (r * h.geometry.w) xs (r * h.geometry.w + top (with_parts h words table) r)) (sym os)
            (subst (λ y. IsTiled (with_parts h words table) (r * h.geometry.w) (objects_in h r) (r * h.geometry.w + y)) (sym t) tiled),
      )
  same_by r HumongousFirst lt f e s =
      let E = start_same r f in
      record {
        refs = subst (λ (o : Object). o.refs < o.size) (sym E) s.refs;
        humongous = subst (λ (o : Object). 3 * h.geometry.w < 4 * o.size) (sym E) s.humongous;
        run = subst (λ (o : Object). TakesRun (with_parts h words table) r o.size) (sym E) (λ q less.
            let k = s.run q less in
            let shape = same_shape (r + q) k.0 (run_together h valid r q lt e s less ∙ f) in
            (k.0, shape.1 ∙ k.1, (λ p. shape.0 ∙ k.2 p)));
      }
  same_by r Continuation lt f e s =
      let first : ℕ = s.0 in
      let two : kind h first ≡ HumongousFirst = s.1 in
      let below : first < r = s.2 in
      let b : BeginsRun h first = subst (IsBuiltBy h first) two (valid.shaped first (omega arith)) in
      let at : first + (r - first) ≡ r = omega arith in
      let out : has (unnamed_regions h) first ≡ false = sym (run_together h valid first (r - first) (omega arith) two b s.3) ∙ ap (has (unnamed_regions h)) at ∙ f in
      (first, (same_shape first (omega arith) out).0 ∙ two, below, subst (λ (o : Object). (r - first) * h.geometry.w < o.size) (sym (start_same first out)) s.3)

  -- each region keeps its rules
  shaped_left : (r : ℕ) → r < h.geometry.n → IsBuiltBy (with_parts h words table) r (kind (with_parts h words table) r)
  shaped_left r lt = elim (cases_Bool (has (unnamed_regions h) r)) [
    | inl t ↦ let s = freed_shape r lt t in subst (IsBuiltBy (with_parts h words table) r) (sym s.0) s.1
    | inr f ↦ subst (IsBuiltBy (with_parts h words table) r) (sym (same_shape r lt f).0) (same_by r (kind h r) lt f (λ _. kind h r) (valid.shaped r lt))
  ]

  -- a freed region isn't pinned, and any other is as it was
  pins_left : (r : ℕ) → r < h.geometry.n → MayBePinned (with_parts h words table) r
  pins_left r lt = elim (cases_Bool (has (unnamed_regions h) r)) [
    | inl t ↦ subst (λ (q : Region). IsTrue q.pinned → q.kind ≡ Ordinary) (sym (left.freed r lt t)) (λ p. absurd (let clash : false ≡ true = p in cc))
    | inr f ↦ subst (λ (q : Region). IsTrue q.pinned → q.kind ≡ Ordinary) (sym (left.same r lt f)) (valid.pins r lt)
  ]

  -- the words above top are 0
  zero_left : (r m : ℕ) → r < h.geometry.n → top (with_parts h words table) r ≤ m → m < h.geometry.w → word (with_parts h words table) (r * h.geometry.w + m) ≡ 0
  zero_left r m lt le below = elim (cases_Bool (has (unnamed_regions h) r)) [
    | inl t ↦ left.cleared (r * h.geometry.w + m) (ap (has (unnamed_regions h)) (place_region h valid r m below) ∙ t)
    | inr f ↦
        let t = (same_shape r lt f).1 in
        left.stays (r * h.geometry.w + m) (ap (has (unnamed_regions h)) (place_region h valid r m below) ∙ f) ∙ valid.zero_above r m lt (omega arith) below
  ]

  -- each word fits
  words_fit : (a : ℕ) → word (with_parts h words table) a < 2 ^ 64
  words_fit a = elim (cases_Bool (in_set h (unnamed_regions h) a)) [
    | inl t ↦ subst (λ x. x < 2 ^ 64) (sym (left.cleared a t)) (lit< tt)
    | inr f ↦ subst (λ x. x < 2 ^ 64) (sym (left.stays a f)) (valid.word_fits a)
  ]

  -- an object outside the freed regions stands there still
  pub stands_left : (a : ℕ) → Contains (objects h) (object_at h a) → in_set h (unnamed_regions h) a ≡ false → Contains (objects (with_parts h words table)) (object_at (with_parts h words table) a)
  stands_left a c out =
      subst (λ (o : Object). Contains (objects (with_parts h words table)) o) (sym (header_same h valid words table left a out))
      (object_left h valid words table left (object_at h a) c out)

  -- what a slot names stands there still
  slot_left : (e : Ref) → Contains (refs (with_parts h words table)) e → Contains (objects (with_parts h words table)) (object_at (with_parts h words table) e.target)
  slot_left e c =
      let m = ref_cases h valid words table left e c in
      stands_left e.target (valid.slot_named e m.0) (ref_away h valid e m.0 m.1)

  -- the current region is ordinary, so it was not freed
  current_left : (r : ℕ) → h.current ≡ Some r → (r < h.geometry.n) × (kind (with_parts h words table) r ≡ Ordinary)
  current_left r e =
      let k = valid.current r e in (
        k.0,
        elim (cases_Bool (has (unnamed_regions h) r)) [
          | inl t ↦ absurd (unnamed_not_ordinary h valid r t k.1)
          | inr f ↦ (same_shape r k.0 f).0 ∙ k.1
        ],
      )

  -- it keeps the rules
  pub built_left : IsBuilt (with_parts h words table)
  built_left = record {
    limits = valid.limits;
    word_count = left.size;
    word_fits = words_fit;
    region_count = left.count;
    root_count = valid.root_count;
    shaped = shaped_left;
    pins = pins_left;
    zero_above = zero_left;
    root_named = λ a c. stands_left a (valid.root_named a c) (root_away h valid a c);
    slot_named = slot_left;
    current = current_left;
  }

-- the heap that is left is valid
pub valid_left : ValidLeft
valid_left h v = valid_of (heap_left h) (built_left h (built h v) (heap_left h).words (heap_left h).regions (heap_is_left h (built h v)))
