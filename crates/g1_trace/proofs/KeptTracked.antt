-- Each command that writes a word or a root keeps a tracked image.
use Rattle.std.proofs.Common.{◌≡◌, ℕ, zero, suc, ◌+◌, ◌-◌, ◌*◌, ◌/◌, ◌%◌, ◌^◌, ◌<◌, ◌≤◌, inl, inr, List, [], ◌∷◌, length, set, flat_map, Contains, refl, sym, ◌∙◌, ap, subst, arith, div-add-mod'}
use Rattle.std.proofs.lemmas.List.{length-set}
use Rattle.g1_words.specs.Geometry.{most_roots, most_words}
use Rattle.g1_words.specs.declared.object.Object.{Object}
use Rattle.g1_words.specs.declared.region.Kind.{Kind}
use Rattle.g1_words.specs.declared.region.Kind.TheVariants.{Free, Ordinary, HumongousFirst, Continuation}
use Rattle.g1_words.specs.Heap.{Heap, kind, top, region_of, card_of, objects, objects_in, object_at, regions, slots}
use Rattle.g1_words.specs.References.{refs, refs_at}
use Rattle.g1_words.proofs.Indices.{range_bounds}
use Rattle.g1_words.proofs.Shapes.{IsTiled, IsBuiltBy, IsBuilt, built}
use Rattle.g1_words.proofs.Standing.{home, word_used, words_apart, built_is_sound}
use Rattle.g1_image.specs.Image.{Image, IsUsedCard}
use Rattle.g1_image.specs.Cards.{IsTracked}
use Rattle.g1_image.proofs.Covers.{covered_tells, card_region}
use Rattle.g1_trace.specs.Mutator.{heap_view, logged, slot_address, value_address, with_roots, with_words}
use Rattle.g1_trace.specs.Views.{Seen, SeenWord}
use Rattle.g1_trace.proofs.Views.{Contains-set, named-in, in-named}
use Rattle.g1_trace.proofs.SameObjects.{region_same, flat_map-same}
use Rattle.g1_trace.proofs.Ready.{seen_object, below_end}
use Rattle.g1_trace.proofs.Written.{refs_cases, written_built}
use Rattle.g1_trace.proofs.Logging.{logged_still, logged_now, logged_is_log, image_kept}

module _ (i : Image) (tracked : IsTracked i) where
  b : IsBuilt i.heap
  b = built i.heap tracked.image.heap

  -- what is seen is an object, and its words lie in used regions
  object_seen : (a : ℕ) → Seen (heap_view i.heap) a → Contains (objects i.heap) (object_at i.heap a)
  object_seen a s = seen_object i.heap (built_is_sound i.heap (built i.heap tracked.image.heap)) a s

  refs_fit : (a : ℕ) → Contains (objects i.heap) (object_at i.heap a) → (object_at i.heap a).refs < (object_at i.heap a).size
  refs_fit a c = (built_is_sound i.heap (built i.heap tracked.image.heap)).slots_fit (object_at i.heap a) c

  word_below : (a k : ℕ) → Contains (objects i.heap) (object_at i.heap a) → k < (object_at i.heap a).size → a + k < i.heap.geometry.n * i.heap.geometry.w
  word_below a k c lt =
      let v = built i.heap tracked.image.heap in
      let m = home i.heap v (object_at i.heap a) c in
      below_end i.heap v (a + k) (region_of i.heap (a + k)) refl (word_used i.heap v m.0 (object_at i.heap a) k m.2 lt).0

  card_used : (a k : ℕ) → Contains (objects i.heap) (object_at i.heap a) → k < (object_at i.heap a).size → IsUsedCard i.heap (card_of i.heap (a + k))
  card_used a k c lt =
      let v = built i.heap tracked.image.heap in
      let m = home i.heap v (object_at i.heap a) c in
      let below = word_below a k c lt in
      let d : (a + k) / i.heap.geometry.k * i.heap.geometry.k + (a + k) % i.heap.geometry.k ≡ a + k = div-add-mod' (a + k) i.heap.geometry.k in
      record {
        in_heap = omega (arith, below, d);
        used = λ e. (word_used i.heap v m.0 (object_at i.heap a) k m.2 lt).1 (ap (kind i.heap) (sym (card_region i.heap tracked.image.heap (a + k))) ∙ e);
      }

  seen_fits : (x : ℕ) → SeenWord (heap_view i.heap) x → x < 2 ^ 64
  seen_fits zero w = omega arith
  seen_fits (suc a) w =
      let c = object_seen a w in
      let f = refs_fit a c in
      let l : a + 0 < i.heap.geometry.n * i.heap.geometry.w = word_below a 0 c (omega (arith, f)) in
      let t : i.heap.geometry.n * i.heap.geometry.w ≤ most_words = tracked.image.heap.limits.words_most in
      omega (arith, l, t)

  -- ---- a slot is written, with the barrier

  slot_at : (a k x : ℕ) → Contains (objects i.heap) (object_at i.heap a) → 0 < k → k < (object_at i.heap a).size → SeenWord (heap_view i.heap) x
      → IsTracked (with_words i (set i.heap.words (a + k) x) (logged i (a + k) x))
  slot_at a k x here low high w =
      let v = built i.heap tracked.image.heap in
      let is_object : (b : ℕ) → x ≡ suc b → Contains (objects i.heap) (object_at i.heap b) = λ b q. object_seen b (subst (SeenWord (heap_view i.heap)) q w) in
      record {
        image = image_kept i (with_words i (set i.heap.words (a + k) x) (logged i (a + k) x)) refl (λ r n. refl) tracked.image
            (written_built i.heap v a k x here low high (seen_fits x w) (λ o m n b q. is_object b q)) refl
            (logged_is_log i (a + k) tracked.image.heap.limits tracked.image.log (card_used a k here high) x);
        covered = (covered_tells (with_words i (set i.heap.words (a + k) x) (logged i (a + k) x))).1 (λ e c.
            elim (refs_cases i.heap v a k x here low high e c) [
              | inl old ↦ elim ((covered_tells i).0 tracked.covered e old) [
                | inl s ↦ inl s
                | inr y ↦ elim y [ inl s ↦ inr (inl s) | inr s ↦ inr (inr (logged_still i (a + k) x (card_of i.heap e.slot) s)) ]
              ]
              | inr new ↦ elim (logged_now i (a + k) e.target) [
                | inl s ↦ inl (ap (region_of i.heap) new.0 ∙ s)
                | inr s ↦ inr (inr (subst (λ z. Contains (logged i (a + k) z) (card_of i.heap e.slot)) (sym new.1)
                    (subst (λ z. Contains (logged i (a + k) (suc e.target)) (card_of i.heap z)) (sym new.0) s)))
              ]
            ]);
      }

  pub slot_tracked : (a p x : ℕ) → Seen (heap_view i.heap) a → p < (object_at i.heap a).refs → SeenWord (heap_view i.heap) x
      → IsTracked (with_words i (set i.heap.words (slot_address a p) x) (logged i (slot_address a p) x))
  slot_tracked a p x s lt w =
      let here = object_seen a s in
      let fit = refs_fit a here in
      let e : a + (p + 1) ≡ a + 1 + p = omega arith in
      subst (λ q. IsTracked (with_words i (set i.heap.words q x) (logged i q x))) e (slot_at a (p + 1) x here (omega arith) (omega (arith, lt, fit)) w)

  -- ---- a data word is written

  value_at : (a k x : ℕ) → Contains (objects i.heap) (object_at i.heap a) → (object_at i.heap a).refs < k → k < (object_at i.heap a).size → x < 2 ^ 64
      → IsTracked (with_words i (set i.heap.words (a + k) x) i.log)
  value_at a k x here low high fits =
      let v = built i.heap tracked.image.heap in
      let no_slot : (o : Object) → Contains (objects i.heap) o → Contains (slots o) (a + k) → ⊥ = λ o m n.
      let hm = home i.heap v (object_at i.heap a) here in
      let om = home i.heap v o m in
      let r = range_bounds (o.at + 1) o.refs (a + k) n in
      let f : o.refs < o.size = (built_is_sound i.heap v).slots_fit o m in
      let z : a + k ≡ o.at + (a + k - o.at) = omega (arith, r) in
      let same : a ≡ o.at = words_apart i.heap v hm.0 om.0 (object_at i.heap a) o k (a + k - o.at) hm.1 om.1 high (omega (arith, r, f)) z in
      let whole : o ≡ object_at i.heap o.at = om.2.1 in
      let refs_same : o.refs ≡ (object_at i.heap a).refs = ap (λ (y : Object). y.refs) whole ∙ ap (λ y. (object_at i.heap y).refs) (sym same) in
      absurd (omega (arith, r, same, refs_same, low)) in
      let above : 0 < k = omega (arith, low) in
      record {
        image = image_kept i (with_words i (set i.heap.words (a + k) x) i.log) refl (λ r n. refl) tracked.image
            (written_built i.heap v a k x here above high fits (λ o m n. absurd (no_slot o m n))) refl tracked.image.log;
        covered = (covered_tells (with_words i (set i.heap.words (a + k) x) i.log)).1 (λ e c.
            elim (refs_cases i.heap v a k x here above high e c) [
              | inl old ↦ (covered_tells i).0 tracked.covered e old
              | inr new ↦ absurd (no_slot new.2.0 new.2.1 new.2.2)
            ]);
      }

  pub value_tracked : (a p x : ℕ) → Seen (heap_view i.heap) a → p < (object_at i.heap a).size - 1 - (object_at i.heap a).refs → x < 2 ^ 64
      → IsTracked (with_words i (set i.heap.words (value_address i.heap a p) x) i.log)
  value_tracked a p x s lt fits =
      let here = object_seen a s in
      let rs : ℕ = (object_at i.heap a).refs in
      let e : a + (rs + p + 1) ≡ a + 1 + rs + p = omega arith in
      subst (λ q. IsTracked (with_words i (set i.heap.words q x) i.log)) e (value_at a (rs + p + 1) x here (omega arith) (omega (arith, lt)) fits)

-- ---- a root is set

module _ (h : Heap) (v : IsBuilt h) (rs : List ℕ) where
  tiled_roots : (a : ℕ) (os : List Object) (end : ℕ) → IsTiled h a os end → IsTiled (record h { roots = rs }) a os end
  tiled_roots a [] end t = t
  tiled_roots a (o ∷ os) end t = (t.0, t.1, tiled_roots (a + o.size) os end t.2)

  same_in : (r : ℕ) → objects_in (record h { roots = rs }) r ≡ objects_in h r
  same_in r = region_same h (record h { roots = rs }) r refl refl (λ o m. refl)

  same_objects : objects (record h { roots = rs }) ≡ objects h
  same_objects = flat_map-same (objects_in (record h { roots = rs })) (objects_in h) (regions h) (λ r m. same_in r)

  -- other roots leave the references
  pub same_refs : refs (record h { roots = rs }) ≡ refs h
  same_refs = ap (flat_map (λ o. flat_map (refs_at h) (slots o))) same_objects

  still : (a : ℕ) → Contains (objects h) (object_at h a) → Contains (objects (record h { roots = rs })) (object_at (record h { roots = rs }) a)
  still a c = subst (λ os. Contains os (object_at h a)) (sym same_objects) c

  shaped_roots : (r : ℕ) (k : Kind) → IsBuiltBy h r k → IsBuiltBy (record h { roots = rs }) r k
  shaped_roots r Free s = s
  shaped_roots r Ordinary s = (
    s.0,
    s.1,
    subst (λ os. IsTiled (record h { roots = rs }) (r * h.geometry.w) os (r * h.geometry.w + top h r))
        (sym (same_in r)) (tiled_roots (r * h.geometry.w) (objects_in h r) (r * h.geometry.w + top h r) s.2),
  )
  shaped_roots r HumongousFirst s = record { refs = s.refs; humongous = s.humongous; run = s.run }
  shaped_roots r Continuation s = s

  pub roots_built : length rs ≤ most_roots → ((a : ℕ) → Contains rs (suc a) → Contains (objects h) (object_at h a)) → IsBuilt (record h { roots = rs })
  roots_built few named = record {
    limits = v.limits;
    word_count = v.word_count;
    word_fits = v.word_fits;
    region_count = v.region_count;
    root_count = few;
    shaped = λ r lt. shaped_roots r (kind h r) (v.shaped r lt);
    pins = v.pins;
    zero_above = v.zero_above;
    root_named = λ a c. still a (named a (named-in rs a c));
    slot_named = λ e c. still e.target (v.slot_named e (subst (λ es. Contains es e) same_refs c));
    current = v.current;
  }

pub root_tracked : (i : Image) → IsTracked i → (r x : ℕ) → SeenWord (heap_view i.heap) x → IsTracked (with_roots i (set i.heap.roots r x))
root_tracked i tracked r x w =
    let v = built i.heap tracked.image.heap in
    let few : length (set i.heap.roots r x) ≤ most_roots = (let l = tracked.image.heap.root_count in let e = length-set i.heap.roots r x in omega (arith, l, e)) in
    record {
      image = image_kept i (with_roots i (set i.heap.roots r x)) refl (λ q n. refl) tracked.image
          (roots_built i.heap v (set i.heap.roots r x) few (λ a m. elim (Contains-set i.heap.roots r x (suc a) m) [
            | inl q ↦ seen_object i.heap (built_is_sound i.heap v) a (subst (SeenWord (heap_view i.heap)) q w)
            | inr n ↦ v.root_named a (in-named i.heap.roots a n)
          ])) refl tracked.image.log;
      covered = (covered_tells (with_roots i (set i.heap.roots r x))).1 (λ e c. (covered_tells i).0 tracked.covered e (subst (λ es. Contains es e) (same_refs i.heap v (set i.heap.roots r x)) c));
    }
