-- The image after a pause keeps what a pause keeps.
use Rattle.std.proofs.Common.{◌≡◌, ℕ, ◌/◌, ◌%◌, ◌^◌, ◌<◌, ◌⊎◌, inl, inr, Bool, true, false, not, List, filter, Contains, refl, sym, ap, subst, ◌∙◌, arith, cond}
use Rattle.std.proofs.lemmas.Bool.{cases_Bool, cond-false, cond-true, false≢true}
use Rattle.std.proofs.lemmas.List.FromFn.{get_or-map-range_with_len}
use Rattle.std.proofs.lemmas.List.Elements.{Contains-append_left}
use Rattle.g1_words.specs.declared.object.Object.{Object}
use Rattle.g1_words.specs.declared.region.Region.{Region}
use Rattle.g1_words.specs.declared.region.Kind.{Kind}
use Rattle.g1_words.specs.declared.region.Kind.TheVariants.{Free, Ordinary, HumongousFirst, Continuation}
use Rattle.g1_words.specs.Lists.{has}
use Rattle.g1_words.specs.Heap.{Heap, free_region, region, regions, kind, top, word, region_of, object_at, objects, objects_in}
use Rattle.g1_words.specs.References.{root_targets, targets}
use Rattle.g1_words.specs.Live.{Reached, seed, child}
use Rattle.g1_words.specs.Survivors.{in_set, seeds, children}
use Rattle.g1_words.specs.Layout.{HasRoom, forward, kept, free_regions, to_space, need}
use Rattle.g1_words.specs.Moves.{moved_object}
use Rattle.g1_words.specs.Valid.{IsValid}
use Rattle.g1_words.proofs.Members.{flat_map_cases, Contains-filter, Contains-from_has}
use Rattle.g1_words.proofs.Indices.{is_free_region, taken_in}
use Rattle.g1_words.proofs.Computed.{range_below}
use Rattle.g1_words.proofs.OneToOne.{outside_stays, survivor_to_free, forward_one_to_one}
use Rattle.g1_words.proofs.Shapes.{built}
use Rattle.g1_words.proofs.Sound.{IsSound, sound}
use Rattle.g1_image.specs.Image.{Image}
use Rattle.g1_after.specs.Moved.{IsMoved}
use Rattle.g1_after.specs.Unnamed.{unnamed_regions, heap_without}
use Rattle.g1_after.specs.Paused.{remaining}
use Rattle.g1_after.proofs.ObjectsMoved.{region_moved}
use Rattle.g1_after.proofs.PausedLaws.{built_between, copies_paused, objects_paused, set_not_freed}
use Rattle.g1_after.proofs.SameGraphs.{named_from_outside}
use Rattle.g1_after.proofs.UnnamedRegions.{unnamed_kind}
use Rattle.g1_after.proofs.ValidMoved.{kept_if}
use Rattle.g1_kept.specs.Keeps.{IsOfRun, IsFreed, IsAsItWas, KeepsRegion, Remains, outside, root, slot}
use Rattle.g1_kept.specs.Laws.{PauseKeeps}
use Rattle.g1_same.proofs.Copies.{copied_header}
use Rattle.g1_kept.proofs.Remaining.{remains_object}

-- a run's kinds
of_run : (k : Kind) → (k ≡ HumongousFirst) ⊎ (k ≡ Continuation) → IsOfRun k
of_run Free (inl e) = cc
of_run Free (inr e) = cc
of_run Ordinary (inl e) = cc
of_run Ordinary (inr e) = cc
of_run HumongousFirst e = tt
of_run Continuation e = tt

module _ (i : Image) (set l : List ℕ) (b : Image) (valid : IsValid i.heap) (room : HasRoom i.heap set l) (moved : IsMoved i set l b) where
  abbrev freed : List ℕ
  freed = unnamed_regions b.heap

  abbrev after : Heap
  after = heap_without b.heap freed

  is_sound : IsSound i.heap
  is_sound = sound i.heap valid

  sizes : after.geometry ≡ i.heap.geometry
  sizes = moved.geometry

  -- ---- the table

  left_region : (r : ℕ) → r < i.heap.geometry.n → region after r ≡ cond (has freed r) free_region (region b.heap r)
  left_region r lt = get_or-map-range_with_len (λ r. cond (has freed r) free_region (region b.heap r)) 0 b.heap.geometry.n r r free_region
      (omega (arith, lt, ap (λ s. s.n) moved.geometry)) (omega arith)

  of_set_free : (r : ℕ) → r < i.heap.geometry.n → has set r ≡ true → region b.heap r ≡ free_region
  of_set_free r lt e = region_moved i set l b is_sound room moved r lt ∙ cond-true (has set r) free_region _ e

  freed_free : (r : ℕ) → r < i.heap.geometry.n → has freed r ≡ true → region after r ≡ free_region
  freed_free r lt e = left_region r lt ∙ cond-true (has freed r) free_region (region b.heap r) e

  not_freed_stays : (r : ℕ) → r < i.heap.geometry.n → has freed r ≡ false → region after r ≡ region b.heap r
  not_freed_stays r lt e = left_region r lt ∙ cond-false (has freed r) free_region (region b.heap r) e

  set_region : (r : ℕ) → r < i.heap.geometry.n → has set r ≡ true → kind after r ≡ Free
  set_region r lt e = ap (λ (q : Region). q.kind) (not_freed_stays r lt (set_not_freed i set l b valid room moved r e) ∙ of_set_free r lt e)

  other_region : (fill : Bool) (r : ℕ) → r < i.heap.geometry.n → has set r ≡ false → (kind i.heap r ≡ Free) ⊎ (IsFreed i.heap after r ⊎ IsAsItWas fill i.heap after r)
  other_region fill r lt out = elim (cases_Bool (has (to_space i.heap l) r)) [
    | inl t ↦ inl (is_free_region i.heap r (taken_in (need i.heap l) (free_regions i.heap) r (Contains-from_has (to_space i.heap l) r t))).0
    | inr f ↦
        let same : region b.heap r ≡ region i.heap r = region_moved i set l b is_sound room moved r lt ∙ cond-false (has set r) free_region _ out ∙ cond-false (has (to_space i.heap l) r) _ (region i.heap r) f in
        inr (elim (cases_Bool (has freed r)) [
          | inl u ↦
              let run : IsOfRun (kind i.heap r) = subst IsOfRun (ap (λ (q : Region). q.kind) same) (of_run (kind b.heap r) (unnamed_kind b.heap (built_between i set l b valid room moved) r u)) in
              inl (run, ap (λ (q : Region). q.kind) (freed_free r lt u))
          | inr u ↦
              let all : region after r ≡ region i.heap r = not_freed_stays r lt u ∙ same in
              let tops : top after r ≡ top i.heap r = ap (λ (q : Region). q.top) all in
              inr (record {
                same_kind = ap (λ (q : Region). q.kind) all;
                same_pin = ap (λ (q : Region). q.pinned) all;
                filled = omega (arith, tops);
                above = λ n le less. absurd (omega (arith, le, less, tops));
              })
        ])
  ]

  -- ---- the objects

  region_in : (a : ℕ) → Contains (objects i.heap) (object_at i.heap a) → region_of i.heap a < i.heap.geometry.n
  region_in a c =
      let m = flat_map_cases (objects_in i.heap) (regions i.heap) (object_at i.heap a) c in
      let here : region_of i.heap a ≡ m.0 = is_sound.in_region m.0 (object_at i.heap a) m.2 in
      omega (arith, here, range_below 0 i.heap.geometry.n m.0 m.1)

  abbrev Stays : ℕ → Type 0
  Stays a = Remains set i.heap after a

  -- what remains of the set survives
  mutual_reached : (a : ℕ) → Stays a → in_set i.heap set a ≡ true → Reached (seeds i.heap set) (children i.heap set) a
  mutual_reached a (outside o) t = absurd (false≢true (sym o.outside ∙ t))
  mutual_reached a (root c also) t =
      let here : Contains (filter (in_set i.heap set) (root_targets i.heap)) a = Contains-filter (in_set i.heap set) (root_targets i.heap) a c t in
      seed (Contains-append_left (filter (in_set i.heap set) (root_targets i.heap)) _ a here)
  mutual_reached x (slot {a = a} r c also) t =
      elim (cases_Bool (in_set i.heap set a)) [
        | inl u ↦ child (mutual_reached a r u) (Contains-filter (in_set i.heap set) (targets i.heap a) x c t)
        | inr u ↦ seed (named_from_outside i.heap set l is_sound room (object_at i.heap a) x (remains_object set i.heap after valid a r) u c t)
      ]

  survives : (a : ℕ) → Stays a → in_set i.heap set a ≡ true → Contains l a
  survives a r t = (room.survivors.reached a).1 (mutual_reached a r t)

  kept_there : (a : ℕ) → Stays a → Contains (kept i.heap set l) (object_at i.heap a)
  kept_there a r = kept_if i set l b (built i.heap valid) room moved a (remains_object set i.heap after valid a r) (survives a r)

  not_in_freed : (a : ℕ) → Stays a → in_set i.heap freed a ≡ false
  not_in_freed a r = elim (cases_Bool (in_set i.heap set a)) [
    | inl t ↦ set_not_freed i set l b valid room moved (region_of i.heap a) t
    | inr f ↦ outside_not_freed a r f
  ]
    where
      outside_not_freed : (a : ℕ) → Stays a → in_set i.heap set a ≡ false → in_set i.heap freed a ≡ false
      outside_not_freed a (outside o) f = elim (cases_Bool (in_set i.heap freed a)) [
        | inl t ↦ absurd (o.in_use (ap (λ (q : Region). q.kind) (freed_free (region_of i.heap a) (region_in a o.object) t)))
        | inr u ↦ u
      ]
      outside_not_freed a (root c t) f = absurd (false≢true (sym f ∙ t))
      outside_not_freed a (slot r c t) f = absurd (false≢true (sym f ∙ t))

  remains_there : (a : ℕ) → Stays a → Contains (remaining i.heap set l freed) (object_at i.heap a)
  remains_there a r =
      Contains-filter (λ (o : Object). not (in_set i.heap freed o.at)) (kept i.heap set l) (object_at i.heap a) (kept_there a r) (ap not (not_in_freed a r))

pub pause_keeps : PauseKeeps
pause_keeps fill i set l j valid room p =
    let b : Image = p.between in
    let h : Heap = i.heap in
    let s : IsSound h = sound h valid in
    let f : ℕ → ℕ = forward h l in
    let heap : j.heap ≡ after i set l b valid room p.moved = ap (λ (x : Image). x.heap) p.freed in
    let stays : (a : ℕ) → Remains set h j.heap a → Contains (remaining h set l (unnamed_regions b.heap)) (object_at h a) =
    λ a r. remains_there i set l b valid room p.moved a (subst (λ z. Remains set h z a) heap r) in
    record {
      table = record {
        geometry = ap (λ (z : Heap). z.geometry) heap ∙ sizes i set l b valid room p.moved;
        regions = λ r lt. subst (λ z. KeepsRegion fill set h z r) (sym heap)
            (record { of_set = set_region i set l b valid room p.moved r lt; other = other_region i set l b valid room p.moved fill r lt });
      };
      rename = f;
      stays = outside_stays h set l s room;
      moves = λ a r t. inl (survivor_to_free h set l s room a
          (survives i set l b valid room p.moved a (subst (λ z. Remains set h z a) heap r) t));
      one_to_one = λ a c ra rc e. forward_one_to_one h set l s room (object_at h a) (object_at h c)
          (kept_there i set l b valid room p.moved a (subst (λ z. Remains set h z a) heap ra))
          (kept_there i set l b valid room p.moved c (subst (λ z. Remains set h z c) heap rc)) e;
      roots = ap (λ (z : Heap). z.roots) heap ∙ p.moved.roots;
      stands = λ a r.
          let c = stays a r in
          let there = (objects_paused i set l j valid room p (moved_object f (object_at h a))).1 (object_at h a, c, refl) in
          let head : word j.heap (f a) ≡ word h a = copied_header f h j.heap a valid (remains_object set h j.heap valid a r) (copies_paused i set l j valid room p (object_at h a) c) in
          let object : ℕ → ℕ → ℕ → Object = λ a s r. record { at = a; size = s; refs = r } in
          let same : object (f a) (word h a / 2 ^ 32) (word h a % 2 ^ 32) ≡ object (f a) (word j.heap (f a) / 2 ^ 32) (word j.heap (f a) % 2 ^ 32) =
          ap (λ x. object (f a) (x / 2 ^ 32) (x % 2 ^ 32)) (sym head) in
          subst (Contains (objects j.heap)) same there;
      copies = λ a r. copies_paused i set l j valid room p (object_at h a) (stays a r);
    }
