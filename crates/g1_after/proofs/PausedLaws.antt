-- What holds of the image after the pause: the survivors moved, and the unnamed humongous objects freed.
use Rattle.std.proofs.Common.{◌≡◌, ◌↔◌, ℕ, zero, ◌+◌, ◌/◌, ◌<◌, inl, inr, true, false, not, ◌||◌, List, ◌++◌, length, get_or, Contains, refl, sym, ◌∙◌, ap, subst, arith, eqb, add-zero}
use Rattle.std.specs.List.{range_with_len}
use Rattle.std.proofs.lemmas.List.{ext_get_or}
use Rattle.std.proofs.lemmas.List.Folds.{list_any-append}
use Rattle.std.proofs.lemmas.List.FromFn.{get_or-map-range_with_len, length-map-range_with_len}
use Rattle.std.proofs.lemmas.Bool.{false_from_ne_true, not-true}
use Rattle.g1_image.specs.Cards.{IsTracked}
use Rattle.g1_image.specs.Image.{Image}
use Rattle.g1_words.proofs.Computed.{Contains-range}
use Rattle.g1_words.proofs.Members.{Contains-filter, Contains-flat_map, filter_member}
use Rattle.g1_words.proofs.OneToOne.{kept_cases, outside_stays, survivor_fits, survivor_in_set}
use Rattle.g1_words.proofs.Shapes.{IsBuilt, built, valid_of}
use Rattle.g1_words.proofs.Sound.{IsSound, sound}
use Rattle.g1_words.specs.Copy.{IsCopy, words_at}
use Rattle.g1_words.specs.Geometry.{Geometry}
use Rattle.g1_words.specs.Graph.{SameGraph}
use Rattle.g1_words.specs.Heap.{kind, objects, region_of, word}
use Rattle.g1_words.specs.Layout.{HasRoom, forward, free_regions, kept}
use Rattle.g1_words.specs.Lists.{has}
use Rattle.g1_words.specs.Moves.{moved_object}
use Rattle.g1_words.specs.References.{Ref, named, refs, root_targets}
use Rattle.g1_words.specs.Survivors.{in_set}
use Rattle.g1_words.specs.Valid.{IsValid}
use Rattle.g1_words.specs.declared.object.Object.{Object}
use Rattle.g1_after.proofs.CardsMoved.{tracked_moved}
use Rattle.g1_after.proofs.Determined.{moved_unique}
use Rattle.g1_after.proofs.Existence.{made_is_moved}
use Rattle.g1_after.proofs.GraphsCompose.{graphs_compose}
use Rattle.g1_after.proofs.LeftCovered.{tracked_left}
use Rattle.g1_after.proofs.LeftGraph.{graph_left}
use Rattle.g1_after.proofs.LeftRefs.{nothing_into_unnamed, refs_left}
use Rattle.g1_after.proofs.ObjectsLeft.{heap_is_left, objects_left}
use Rattle.g1_after.proofs.ObjectsOf.{kept_is_moved, objects_moved, survivor_region}
use Rattle.g1_after.proofs.RefsMoved.{refs_moved, slot_word}
use Rattle.g1_after.proofs.RulesMoved.{valid_moved}
use Rattle.g1_after.proofs.SameGraphs.{no_root_into_set, no_slot_into_set, same_graph}
use Rattle.g1_after.proofs.ToSpace.{goal_kind}
use Rattle.g1_after.proofs.UnnamedRegions.{region_unnamed, unnamed_not_free, unnamed_not_ordinary, word_with_header}
use Rattle.g1_after.proofs.ValidMoved.{set_shape}
use Rattle.g1_after.specs.Freed.{heap_left}
use Rattle.g1_after.specs.Laws.{CopiesPaused, GraphStays, NothingIntoFreed, ObjectsPaused, OneImageAfter, PauseExists, TrackedPaused}
use Rattle.g1_after.specs.Made.{image_moved}
use Rattle.g1_after.specs.Moved.{IsMoved}
use Rattle.g1_after.specs.Paused.{remaining}
use Rattle.g1_after.specs.Unnamed.{image_without, unnamed_regions}

-- an image and a set have one image after
pub one_image_after : OneImageAfter
one_image_after i set j k a b =
    let same = moved_unique i set a.2.between b.2.between (a.0, a.1, a.2.moved) (b.0, b.1, b.2.moved) in
    a.2.freed ∙ ap (λ (x : Image). image_without x (unnamed_regions x.heap)) same ∙ sym b.2.freed

-- there is an image after
pub pause_exists : PauseExists
pause_exists i set l valid a =
    record { between = image_moved i set l; moved = made_is_moved i set l (built i.heap valid) a; freed = refl }

-- ---- the freed regions of the image between

module _ (i : Image) (set l : List ℕ) (b : Image) (valid : IsValid i.heap) (a : HasRoom i.heap set l) (m : IsMoved i set l b) where
  -- the regions that are freed
  abbrev freed : List ℕ
  freed = unnamed_regions b.heap

  -- the image between keeps the rules
  pub built_between : IsBuilt b.heap
  built_between = valid_moved i set l b (built i.heap valid) a m

  -- it is valid
  pub valid_between : IsValid b.heap
  valid_between = valid_of b.heap built_between

  -- the regions have one width before and between
  same_in_set : (rs : List ℕ) (x : ℕ) → in_set b.heap rs x ≡ in_set i.heap rs x
  same_in_set rs x = λ t. has rs (x / (m.geometry t).w)

  -- a region of the set is none of those freed after it
  pub set_not_freed : (r : ℕ) → has set r ≡ true → has freed r ≡ false
  set_not_freed r inset = false_from_ne_true (has freed r) (λ t.
      let lt = (region_unnamed b.heap built_between r t).0 in
      let n = ap (λ (g : Geometry). g.n) m.geometry in
      unnamed_not_free b.heap built_between r t (set_shape i set l b (built i.heap valid) a m r (omega arith) inset).0)

  -- nor is a region that a survivor went to
  survivor_not_freed : (x : ℕ) → Contains l x → in_set b.heap freed (forward i.heap l x) ≡ false
  survivor_not_freed x c = false_from_ne_true (in_set b.heap freed (forward i.heap l x)) (λ t.
      let s : IsSound i.heap = sound i.heap valid in
      let pos = (survivor_fits i.heap set l s a x c).0 in
      let g = survivor_region i.heap set l s a x 0 c pos in
      let at : region_of i.heap (forward i.heap l x) ≡ get_or (free_regions i.heap) g.0 0 = ap (region_of i.heap) (sym (add-zero (forward i.heap l x))) ∙ g.2 in
      let same : region_of b.heap (forward i.heap l x) ≡ region_of i.heap (forward i.heap l x) = λ t. forward i.heap l x / (m.geometry t).w in
      unnamed_not_ordinary b.heap built_between (region_of b.heap (forward i.heap l x)) t
      (ap (kind b.heap) (same ∙ at) ∙ goal_kind i set l b s a m g.0 g.1))

  -- a kept object stands in a freed region exactly where it stood in one
  freed_stays : (k : Object) → Contains (kept i.heap set l) k → in_set b.heap freed (forward i.heap l k.at) ≡ in_set i.heap freed k.at
  freed_stays k c =
      let s : IsSound i.heap = sound i.heap valid in
      elim (kept_cases i.heap set l s a k c) [
        | inl x ↦ ap (in_set b.heap freed) (outside_stays i.heap set l s a k.at x.0) ∙ same_in_set freed k.at
        | inr x ↦
            let at : x.0 ≡ k.at = ap (λ (o : Object). o.at) x.2 in
            let old : in_set i.heap freed x.0 ≡ false = set_not_freed (region_of i.heap x.0) (survivor_in_set i.heap set l s a x.0 x.1) in
            subst (λ y. in_set b.heap freed (forward i.heap l y) ≡ in_set i.heap freed y) at (survivor_not_freed x.0 x.1 ∙ sym old)
      ]

  -- an object that remains is a kept one that goes to no freed region
  pub remaining_kept : (k : Object) → Contains (remaining i.heap set l freed) k → Contains (kept i.heap set l) k × (in_set b.heap freed (forward i.heap l k.at) ≡ false)
  remaining_kept k c =
      let f = filter_member (λ (o : Object). not (in_set i.heap freed o.at)) (kept i.heap set l) k c in
      (f.0, freed_stays k f.0 ∙ not-true (in_set i.heap freed k.at) f.1)

  -- and such a one remains
  pub kept_remains : (k : Object) → Contains (kept i.heap set l) k → in_set b.heap freed (forward i.heap l k.at) ≡ false → Contains (remaining i.heap set l freed) k
  kept_remains k c out =
      Contains-filter (λ (o : Object). not (in_set i.heap freed o.at)) (kept i.heap set l) k c (ap not (sym (freed_stays k c) ∙ out))

  -- the words of an object that isn't freed stay
  words_left : (k : Object) → Contains (kept i.heap set l) k → in_set b.heap freed (forward i.heap l k.at) ≡ false
      → words_at (heap_left b.heap) (forward i.heap l k.at) k.size ≡ words_at b.heap (forward i.heap l k.at) k.size
  words_left k c out =
      let f : ℕ → ℕ = forward i.heap l in
      let s : IsSound i.heap = sound i.heap valid in
      let there : Contains (objects b.heap) (moved_object f k) = kept_is_moved i set l b s a m k c in
      let size : length (words_at (heap_left b.heap) (f k.at) k.size) ≡ k.size = length-map-range_with_len (word (heap_left b.heap)) (f k.at) k.size in
      let size' : length (words_at b.heap (f k.at) k.size) ≡ k.size = length-map-range_with_len (word b.heap) (f k.at) k.size in
      ext_get_or 0 (words_at (heap_left b.heap) (f k.at) k.size) (words_at b.heap (f k.at) k.size) (size ∙ sym size')
      (λ x lt'.
      let lt : x < k.size = omega arith in
      get_or-map-range_with_len (word (heap_left b.heap)) (f k.at) k.size x (f k.at + x) 0 lt refl
      ∙ (heap_is_left b.heap built_between).stays (f k.at + x) (word_with_header b.heap built_between (moved_object f k) x there lt ∙ out)
      ∙ sym (get_or-map-range_with_len (word b.heap) (f k.at) k.size x (f k.at + x) 0 lt refl))

  -- an address in neither the set nor the freed regions
  pub in_neither : (x : ℕ) → in_set i.heap set x ≡ false → in_set b.heap freed x ≡ false → in_set i.heap (set ++ freed) x ≡ false
  in_neither x e f =
      let g : in_set i.heap freed x ≡ false = sym (same_in_set freed x) ∙ f in
      list_any-append (λ y. eqb (region_of i.heap x) y) set freed ∙ (λ t. e t || g t)

  -- no reference of the image between leads into the set
  pub ref_not_into_set : (e : Ref) → Contains (refs b.heap) e → in_set i.heap set e.target ≡ false
  ref_not_into_set e c =
      let f : ℕ → ℕ = forward i.heap l in
      let v : IsBuilt i.heap = built i.heap valid in
      let r = (refs_moved i set l b v a m e).0 c in
      let w = slot_word i set l b v a m r.owner r.m r.target r.is_kept r.above r.within r.names in
      let above = r.above in let within = r.within in
      no_slot_into_set i set l b (sound i.heap valid) a m r.owner e.target r.is_kept
      (Contains-flat_map (λ p. named (word b.heap p)) (range_with_len (f r.owner.at + 1) r.owner.refs) (f r.owner.at + r.m) e.target
      (Contains-range (f r.owner.at + 1) r.owner.refs (f r.owner.at + r.m) (omega arith) (omega arith))
      (subst (λ x. Contains (named x) e.target) (sym w) (zero, omega arith, sym r.target_at)))

-- each object that remains is a copy
pub copies_paused : CopiesPaused
copies_paused i set l j valid a p o c =
    let b : Image = p.between in
    let k = remaining_kept i set l b valid a p.moved o c in
    subst (λ (x : Image). IsCopy (forward i.heap l) i.heap x.heap o) (sym p.freed)
    (words_left i set l b valid a p.moved o k.0 k.1 ∙ p.moved.copies o k.0)

-- the objects after are exactly the kept ones that weren't freed, each where it was moved
pub objects_paused : ObjectsPaused
objects_paused i set l j valid a p o =
    let b : Image = p.between in
    let f : ℕ → ℕ = forward i.heap l in
    let left = objects_left b.heap (valid_between i set l b valid a p.moved) o in
    let moved = objects_moved i set l b (sound i.heap valid) a p.moved o in
    subst (λ (x : Image). Contains (objects x.heap) o ↔ ((k : Object) × Contains (remaining i.heap set l (unnamed_regions b.heap)) k × (o ≡ moved_object f k))) (sym p.freed) (
      (λ c.
          let u = left.0 c in
          let k = moved.0 u.0 in
          let at : o.at ≡ f k.0.at = ap (λ (x : Object). x.at) k.2 in
          (k.0, kept_remains i set l b valid a p.moved k.0 k.1 (ap (in_set b.heap (unnamed_regions b.heap)) (sym at) ∙ u.1), k.2)),
      (λ k.
          let r = remaining_kept i set l b valid a p.moved k.0 k.1 in
          let at : o.at ≡ f k.0.at = ap (λ (x : Object). x.at) k.2 in
          left.1 (moved.1 (k.0, r.0, k.2), ap (in_set b.heap (unnamed_regions b.heap)) at ∙ r.1)),
    )

-- the image after is tracked
pub tracked_paused : TrackedPaused
tracked_paused i set l j t a p =
    subst IsTracked (sym p.freed) (tracked_left p.between (tracked_moved i set l p.between t a p.moved) p.moved.log)

-- whoever reads from the roots finds the same graph
pub graph_stays : GraphStays
graph_stays i set l j valid a p =
    let b : Image = p.between in
    let s : IsSound i.heap = sound i.heap valid in
    subst (λ (x : Image). SameGraph i.heap x.heap) (sym p.freed)
    (graphs_compose i.heap b.heap s (same_graph i set l b s a p.moved) (heap_left b.heap) (graph_left b.heap (valid_between i set l b valid a p.moved)))

-- nothing leads into the set or into what was freed
pub nothing_into_freed : NothingIntoFreed
nothing_into_freed i set l j valid a p =
    let b : Image = p.between in
    let rs : List ℕ = set ++ unnamed_regions b.heap in
    let v : IsValid b.heap = valid_between i set l b valid a p.moved in
    let none = nothing_into_unnamed b.heap v in
    subst (λ (x : Image). ((y : ℕ) → Contains (root_targets x.heap) y → in_set i.heap rs y ≡ false) × ((e : Ref) → Contains (refs x.heap) e → in_set i.heap rs e.target ≡ false)) (sym p.freed) (
      (λ y c. in_neither i set l b valid a p.moved y (no_root_into_set i set l b (sound i.heap valid) a p.moved y c) (none.0 y c)),
      (λ e c. in_neither i set l b valid a p.moved e.target (ref_not_into_set i set l b valid a p.moved e ((refs_left b.heap v e).0 c).0) (none.1 e c)),
    )
