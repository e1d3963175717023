-- The sets that are put together in a pause, from its plan.
use Rattle.std.proofs.Common.{◌≡◌, ℕ, suc, ◌+◌, ◌*◌, ◌<◌, ◌≤◌, List, length, get_or, map, filter, not, ◌&&◌, All, sym, ◌∙◌, ap, subst, arith, Contains}
use Rattle.std.specs.Prelude.{Result, Ok, Err, IfOk}
use Rattle.std.specs.Global.{Vec}
use Rattle.std.specs.List.Sorted.{IsStrictlyIncreasing}
use Rattle.std.proofs.lemmas.List.Elements.{Contains-get_or}
use Rattle.g1_words.specs.declared.fault.Fault.{Fault}
use Rattle.g1_words.specs.Heap.{Heap, object_at, regions}
use Rattle.g1_words.specs.Lists.{has}
use Rattle.g1_words.specs.References.{Ref, refs}
use Rattle.g1_words.specs.Survivors.{in_set}
use Rattle.g1_words.specs.Layout.{forward, free_regions, need, to_space}
use Rattle.g1_words.specs.Valid.{IsValid}
use Rattle.g1_words.proofs.Bounds.{object_within}
use Rattle.g1_words.proofs.Computed.{contains_has}
use Rattle.g1_words.proofs.Members.{filter_member, map_cases}
use Rattle.g1_words.proofs.Ordered.{pairs_from_ordered}
use Rattle.g1_words.proofs.Rising.{Ordered-filter, Ordered-map, refs_ordered}
use Rattle.g1_words.proofs.Sound.{sound}
use Rattle.g1_image.specs.Image.{Image, IsImage}
use Rattle.g1_image.specs.Cards.{refined}
use Rattle.g1_after.specs.Moved.{remembered_moved}
use Rattle.g1_after.specs.Made.{heap_moved}
use Rattle.g1_layout.specs.Placed.{CanPlace}
use Rattle.g1_layout.specs.Plan.{Plan}
use Rattle.g1_copy.specs.Links.{cards_by_region, copied_slots}
use Rattle.g1_copy.specs.Patches.{patch, all_patches}
use Rattle.g1_copy.specs.Plans.{IsPauseOf}
use Rattle.g1_copy.specs.Fates.{AreFates}
use Rattle.g1_copy.specs.Remembered.{AreSources, AreJoined}
use Rattle.g1_copy.specs.declared.fates.Fate.{Fate}
use Rattle.g1_copy.proofs.CopiedSlots.{forward_below}
use Rattle.g1_copy.proofs.Ground.{Ground, ground, room_of}
use Rattle.g1_copy.proofs.RememberedLinks.{owner_of}
use Rattle.g1_copy.proofs.RememberedJoined.{are_sources, remembered_moved_are}

-- the slots lie in the heap, and name addresses of it
abbrev pub AreThere : Heap → List (ℕ × ℕ) → Type 0
AreThere h xs = All (λ x. (x.0 < h.geometry.n * h.geometry.w) × (0 < x.1) × (x.1 ≤ h.geometry.n * h.geometry.w)) xs

-- the lists of cards, as they are lent
pub cards_lent : (h : Heap) (xs : List (ℕ × ℕ)) (lent items : List (Vec ℕ)) → lent ≡ items → map (λ s. s.items) items ≡ cards_by_region h xs → map (λ s. s.items) lent ≡ cards_by_region h xs
cards_lent h xs lent items e f = ap (map (λ s. s.items)) e ∙ f

-- ---- the patches

module _ (h : Heap) (set l : List ℕ) (valid : IsValid h) (can : CanPlace h set l) (room : need h l ≤ length (free_regions h)) where
  -- the patches rise
  pub patches_rise : IsStrictlyIncreasing (map (λ x. x.0) (all_patches h set l))
  patches_rise = λ k lt. pairs_from_ordered (λ x y. x < y) (map (λ x. x.0) (all_patches h set l))
      (Ordered-map (λ x y. x < y) (λ x. x.0) (all_patches h set l)
      (Ordered-map (λ (x y : ℕ × ℕ). x.0 < y.0) (patch h l) (filter (λ e. not (in_set h set e.slot) && has l e.target) (refs h))
      (Ordered-filter (λ (e f : Ref). e.slot < f.slot) (λ e. not (in_set h set e.slot) && has l e.target) (refs h) (refs_ordered h valid))))
      k (k + 1) 0 (omega arith) lt

  patch_there : (x : ℕ × ℕ) → Contains (all_patches h set l) x → (x.0 < h.geometry.n * h.geometry.w) × (0 < x.1) × (x.1 ≤ h.geometry.n * h.geometry.w)
  patch_there x k =
      let p = map_cases (patch h l) (filter (λ e. not (in_set h set e.slot) && has l e.target) (refs h)) x k in
      let e : Ref = p.0 in
      let here : Contains (refs h) e = (filter_member (λ (e : Ref). not (in_set h set e.slot) && has l e.target) (refs h) e p.1).0 in
      let o = owner_of h e here in
      let c = o.stands in
      let fits = (sound h valid).slots_fit o.owner c in
      let ends = object_within h valid o.owner (contains_has h o.owner valid.shaped c) in
      let goes = forward_below h set l valid can room (object_at h e.target) (contains_has h (object_at h e.target) valid.shaped ((sound h valid).slot_named e here)) in
      let slot : e.slot ≡ x.0 = ap (λ (y : ℕ × ℕ). y.0) p.2 in
      let word : suc (forward h l e.target) ≡ x.1 = ap (λ (y : ℕ × ℕ). y.1) p.2 in
      (omega (arith, fits, ends, slot, o.at, o.within), omega (arith, word), omega (arith, word, goes))

  -- they lie in the heap, and name addresses of it
  pub patches_there : AreThere h (all_patches h set l)
  patches_there = λ k d lt. patch_there (get_or (all_patches h set l) k d) (Contains-get_or (all_patches h set l) k d lt)

-- ---- what the plan tells

module _ (i : Image) (set : List ℕ) (p : Plan) (image : IsImage i) (pause : IsPauseOf i.heap set p) where
  abbrev l : List ℕ
  l = p.survivors

  pub can : CanPlace i.heap set l
  can = subst (λ s. CanPlace i.heap s l) pause.same pause.made.placeable

  abbrev g : Ground i set l
  g = ground i set l image.heap (room_of i.heap set p pause)

  pub outer_rise : IsStrictlyIncreasing (map (λ x. x.0) (all_patches i.heap set l))
  outer_rise = patches_rise i.heap set l image.heap can pause.made.room

  pub outer_there : AreThere i.heap (all_patches i.heap set l)
  outer_there = patches_there i.heap set l image.heap can pause.made.room

  module _ (h : Heap) (heap : h ≡ i.heap) (patches : List (ℕ × ℕ)) (the_patches : patches ≡ all_patches i.heap set l)
      (fates : List Fate) (are : AreFates i.heap set (to_space i.heap l) fates) (remembered outer inner : List (List ℕ)) (the_remembered : remembered
      ≡ map (refined i) (regions i.heap)) (the_outer : outer ≡ cards_by_region h patches) (the_inner : inner ≡ cards_by_region h (copied_slots h l)) where
    outer_are : outer ≡ cards_by_region i.heap (all_patches i.heap set l)
    outer_are = the_outer ∙ (λ t. cards_by_region (heap t) (the_patches t))

    inner_are : inner ≡ cards_by_region i.heap (copied_slots i.heap l)
    inner_are = the_inner ∙ (λ t. cards_by_region (heap t) (copied_slots (heap t) l))

    pub paused_sources : AreSources h fates remembered outer inner
    paused_sources = subst (λ x. AreSources x fates remembered outer inner) (sym heap)
        (are_sources i set l g fates are remembered outer inner the_remembered outer_are inner_are)

    paused_news : (news : List (List ℕ)) → AreJoined h fates remembered outer inner news → news ≡ map (remembered_moved i set l (heap_moved i.heap set l)) (regions i.heap)
    paused_news news m = remembered_moved_are i set l g fates are remembered outer inner the_remembered outer_are inner_are news
        (subst (λ x. AreJoined x fates remembered outer inner news) heap m)

    -- the sets after the pause
    pub paused_remembered : (answer : Result (Vec (Vec ℕ)) Fault) → IfOk answer (λ v. AreJoined h fates remembered outer inner (map (λ s. s.items) v.items))
        → IfOk answer (λ v. map (λ s. s.items) v.items ≡ map (remembered_moved i set l (heap_moved i.heap set l)) (regions i.heap))
    paused_remembered (Ok v) m = paused_news (map (λ s. s.items) v.items) m
    paused_remembered (Err e) m = tt
