use Rattle.std.proofs.Common.{◌≡◌, ℕ, ◌++◌, List, length, map, take, drop, sym, ◌∙◌, ap, subst}
use Rattle.std.proofs.lemmas.List.{length-map}
use Rattle.std.proofs.lemmas.List.FromFn.{length-map-range_with_len}
use Rattle.g1_words.specs.Heap.{Heap, region_of, regions}
use Rattle.g1_words.specs.Layout.{to_space}
use Rattle.g1_image.specs.Image.{Image}
use Rattle.g1_after.specs.Made.{heap_moved}
use Rattle.g1_after.specs.Moved.{remembered_moved}
use Rattle.g1_after.specs.Unnamed.{unnamed, unnamed_regions}
use Rattle.g1_rem.proofs.Entering.{lent_back}
use Rattle.g1_copy.specs.declared.fates.Fate.{Fate}
use Rattle.g1_copy.specs.Fates.{AreFates}
use Rattle.g1_copy.specs.Gathered.{to_space_words}
use Rattle.g1_copy.specs.Plans.{IsPauseOf, Pausing}
use Rattle.g1_copy.specs.Patches.{AreFirsts, all_patches}
use Rattle.g1_copy.specs.Prepared.{IsMadeFor, Prepared}
use Rattle.g1_copy.proofs.PreparedPause.{fates_after, firsts_there, found_rise, made_for, own_patches, remembered_left, regions_freed}
use Rattle.g1_copy.proofs.PreparedPause.{runs_there, table_after}
use Rattle.g1_copy.proofs.preparing.prepare_patches.Given.{Over}
use Rattle.g1_copy.proofs.preparing.prepare_patches.Goals as goal
use Rattle.g1_copy.proofs.preparing.prepare_patches.Goals.{After-heap_of-heap, After-free, In_ok-freed, In_ok-humongous}

pub remembered_by_fate-requires-clause-patches : goal.remembered_by_fate-requires-clause-patches
remembered_by_fate-requires-clause-patches g c κs within =
    own_patches c.pausing.inside.tracked.now c.pausing.inside.set.now c.pausing.inside.plan.now c.pausing.invariant.plan c.deref-2.result.now (c.deref-2.ensures.value ∙ c.requires ∙ ap (λ (v : Pausing). all_patches v.image.heap v.set v.plan.survivors) (sym c.pausing.view_is))

-- ---- the humongous objects that are freed

-- a table of fates that was lent
told_fates : (h t : Heap) (set same l : List ℕ) (xs ys : List Fate) → h ≡ t → same ≡ set → ys ≡ xs → AreFates h set (to_space h l) xs → AreFates t same (to_space t l) ys
told_fates h t set same l xs ys a b d k = subst (AreFates t same (to_space t l)) (sym d) (subst (λ s. AreFates t s (to_space t l) xs) (sym b) (subst (λ x. AreFates x set (to_space x l) xs) a k))

pub fates-requires : goal.fates-requires
fates-requires g c = subst (λ h. IsPauseOf h c.pausing.inside.set.now c.pausing.inside.plan.now) (sym c.heap_of-heap.ensures.same) c.pausing.invariant.plan

pub remembered_by_fate-requires-clause-plan : goal.remembered_by_fate-requires-clause-plan
remembered_by_fate-requires-clause-plan g c κs within = subst (λ s. IsPauseOf c.pausing.inside.tracked.now.heap s c.pausing.inside.plan.now) (sym c.pausing.invariant.plan.same) c.pausing.invariant.plan

pub remembered_by_fate-requires-clause-fates : goal.remembered_by_fate-requires-clause-fates
remembered_by_fate-requires-clause-fates g c κs within =
    told_fates c.heap_of-heap.result.now c.pausing.inside.tracked.now.heap c.pausing.inside.set.now c.pausing.inside.plan.now.set c.pausing.inside.plan.now.survivors c.in_ok-fates.fates.items
    c.deref.result.now
    c.heap_of-heap.ensures.same c.pausing.invariant.plan.same c.deref.ensures.value c.in_ok-fates.ensures

pub remembered_by_fate-requires-clause-gathered : goal.remembered_by_fate-requires-clause-gathered
remembered_by_fate-requires-clause-gathered g c κs within =
    c.deref-3.ensures.value ∙ c.in_ok-gathered.ensures ∙ ap (λ h. to_space_words h c.pausing.inside.plan.now.survivors)
    c.heap_of-heap.ensures.same

pub unnamed-requires-clause-fates : goal.unnamed-requires-clause-fates
unnamed-requires-clause-fates g c =
    subst (λ (v : Pausing). AreFates v.image.heap v.plan.set (to_space v.image.heap v.plan.survivors) c.deref-4.result.now) c.pausing.view_is
    (told_fates c.heap_of-heap.result.now c.pausing.inside.tracked.now.heap c.pausing.inside.set.now c.pausing.inside.plan.now.set c.pausing.inside.plan.now.survivors c.in_ok-fates.fates.items
    c.deref-4.result.now c.heap_of-heap.ensures.same c.pausing.invariant.plan.same c.deref-4.ensures.value c.in_ok-fates.ensures)

pub unnamed-requires-clause-remembered : goal.unnamed-requires-clause-remembered
unnamed-requires-clause-remembered g c =
    ap (λ l. map (λ s. s.items) l) c.deref-5.ensures.value ∙ c.in_ok-sets.ensures.ok
    ∙ ap (λ (v : Pausing). map (remembered_moved v.image v.plan.set v.plan.survivors (heap_moved v.image.heap v.plan.set v.plan.survivors)) (regions v.image.heap)) c.pausing.view_is

-- the humongous objects that nothing references
the_unnamed : (g : Over) (c : In_ok-humongous g) → c.in_ok-humongous.humongous.items
    ≡ map (λ o. region_of c.pausing.inside.tracked.now.heap o.at) (unnamed (heap_moved c.pausing.inside.tracked.now.heap c.pausing.inside.plan.now.set c.pausing.inside.plan.now.survivors))
the_unnamed g c = c.in_ok-humongous.ensures ∙ ap (λ (v : Pausing). map (λ o. region_of v.image.heap o.at) (unnamed (heap_moved v.image.heap v.plan.set v.plan.survivors))) (sym c.pausing.view_is)

-- the regions that are freed beside the set
abbrev freed : Image → List ℕ → List ℕ → List ℕ
freed i set l = unnamed_regions (heap_moved i.heap set l)

pub humongous_regions-requires : goal.humongous_regions-requires
humongous_regions-requires g c =
    firsts_there c.pausing.inside.tracked.now c.pausing.inside.set.now c.pausing.inside.plan.now c.pausing.invariant.plan c.heap_of-heap.ensures.tracked c.heap_of-heap.result.now c.heap_of-heap.ensures.same
    c.deref-6.result.now (c.deref-6.ensures.value ∙ the_unnamed g (goal.at.humongous_regions-requires g c).In_ok-humongous)

-- they are the runs that were found
the_runs : (g : Over) (c : In_ok-freed g) → c.in_ok-humongous.humongous.items
    ≡ map (λ o. region_of c.pausing.inside.tracked.now.heap o.at) (unnamed (heap_moved c.pausing.inside.tracked.now.heap c.pausing.inside.plan.now.set c.pausing.inside.plan.now.survivors))
    → c.in_ok-freed.freed.items ≡ freed c.pausing.inside.tracked.now c.pausing.inside.set.now c.pausing.inside.plan.now.survivors
the_runs g c found =
    regions_freed c.pausing.inside.tracked.now c.pausing.inside.set.now c.pausing.inside.plan.now c.pausing.invariant.plan c.heap_of-heap.ensures.tracked c.heap_of-heap.result.now c.heap_of-heap.ensures.same c.deref-6.result.now
    (c.deref-6.ensures.value ∙ found) c.in_ok-freed.freed.items c.in_ok-freed.ensures

pub free-requires : goal.free-requires
free-requires g c =
    let count : length c.deref_mut.result.now ≡ c.pausing.inside.tracked.now.heap.geometry.n =
    ap length c.deref_mut.ensures.value ∙ c.in_ok-fates.ensures.one_each ∙ ap (λ (h : Heap). h.geometry.n) c.heap_of-heap.ensures.same in
    runs_there c.pausing.inside.tracked.now c.pausing.inside.set.now c.pausing.inside.plan.now c.pausing.invariant.plan c.heap_of-heap.ensures.tracked c.deref-7.result.now (length c.deref_mut.result.now)
    (c.deref-7.ensures.value ∙ the_runs g (goal.at.free-requires g c).In_ok-freed (the_unnamed g (goal.at.free-requires g c).In_ok-humongous)) count

-- the table of fates afterwards
the_fates : (g : Over) (c : After-free g) → c.in_ok-freed.freed.items ≡ freed c.pausing.inside.tracked.now c.pausing.inside.set.now c.pausing.inside.plan.now.survivors
    → AreFates c.pausing.inside.tracked.now.heap (c.pausing.inside.set.now ++ freed c.pausing.inside.tracked.now c.pausing.inside.set.now c.pausing.inside.plan.now.survivors)
    (to_space c.pausing.inside.tracked.now.heap c.pausing.inside.plan.now.survivors) c.free.new.fates
the_fates g c runs =
    let h = c.heap_of-heap.result.now in
    fates_after c.pausing.inside.tracked.now c.pausing.inside.set.now c.pausing.inside.plan.now c.pausing.invariant.plan c.heap_of-heap.ensures.tracked h c.deref-7.result.now
    c.deref_mut.result.now c.free.new.fates c.heap_of-heap.ensures.same (c.deref-7.ensures.value ∙ runs)
    (subst (AreFates h c.pausing.inside.set.now (to_space h c.pausing.inside.plan.now.survivors)) (sym c.deref_mut.ensures.value) c.in_ok-fates.ensures) c.free.ensures

-- it stands in its vector
fates_back : (g : Over) (c : After-free g) → take c.in_ok-fates.fates.len (c.free.new.fates ++ drop (length c.free.new.fates) c.in_ok-fates.fates.items) ≡ c.free.new.fates
fates_back g c = lent_back c.in_ok-fates.fates.len c.deref_mut.result.now c.free.new.fates c.in_ok-fates.fates.items c.deref_mut.ensures.value c.free.ensures.size c.deref_mut.ensures.len

pub leave_all-requires : goal.leave_all-requires
leave_all-requires g c =
    let i : Image = c.pausing.inside.tracked.now in
    let p = c.pausing.inside.plan.now in
    let b = (goal.at.leave_all-requires g c).After-free in
    let runs = the_runs g (goal.at.leave_all-requires g c).In_ok-freed (the_unnamed g (goal.at.leave_all-requires g c).In_ok-humongous) in
    let sets : length c.deref_mut-2.result.now ≡ c.pausing.inside.tracked.now.heap.geometry.n =
    ap length c.deref_mut-2.ensures.value ∙ sym (length-map c.in_ok-sets.sets.items (λ s. s.items)) ∙ ap length c.in_ok-sets.ensures.ok
    ∙ length-map-range_with_len (remembered_moved i p.set p.survivors (heap_moved i.heap p.set p.survivors)) 0 i.heap.geometry.n in
    sets ∙ sym (the_fates g b runs).one_each ∙ ap length (sym (c.deref-8.ensures.value ∙ fates_back g b))

-- ---- what is made

-- the plan is that of the heap
the_pause : (g : Over) (c : After-heap_of-heap g) → IsPauseOf c.heap_of-heap.result.now c.pausing.inside.plan.now.set c.pausing.inside.plan.now
the_pause g c =
    subst (λ h. IsPauseOf h c.pausing.inside.plan.now.set c.pausing.inside.plan.now) (sym c.heap_of-heap.ensures.same)
    (subst (λ s. IsPauseOf c.pausing.inside.tracked.now.heap s c.pausing.inside.plan.now) (sym c.pausing.invariant.plan.same) c.pausing.invariant.plan)

pub new_regions-requires-clause-plan : goal.new_regions-requires-clause-plan
new_regions-requires-clause-plan g c = the_pause g (goal.at.new_regions-requires-clause-plan g c).After-heap_of-heap

pub new_roots-requires : goal.new_roots-requires
new_roots-requires g c = the_pause g (goal.at.new_roots-requires g c).After-heap_of-heap

pub firsts-requires : goal.firsts-requires
firsts-requires g c =
    found_rise c.pausing.inside.tracked.now c.pausing.inside.set.now c.pausing.inside.plan.now c.pausing.invariant.plan c.deref-10.result.now c.heap_of-heap.ensures.tracked.image (c.deref-10.ensures.value ∙ c.requires ∙ ap (λ (v : Pausing). all_patches v.image.heap v.set v.plan.survivors) (sym c.pausing.view_is))

pub new_regions-requires-clause-fates : goal.new_regions-requires-clause-fates
new_regions-requires-clause-fates g c =
    let b = (goal.at.new_regions-requires-clause-fates g c).After-free in
    let runs = the_runs g (goal.at.new_regions-requires-clause-fates g c).In_ok-freed (the_unnamed g (goal.at.new_regions-requires-clause-fates g c).In_ok-humongous) in
    let i : Image = c.pausing.inside.tracked.now in
    let p = c.pausing.inside.plan.now in
    let clears : List ℕ = c.pausing.inside.set.now ++ freed i c.pausing.inside.set.now p.survivors in (
      clears,
      subst (λ h. AreFates h clears (to_space h p.survivors) c.deref-11.result.now) (sym c.heap_of-heap.ensures.same)
          (subst (AreFates i.heap clears (to_space i.heap p.survivors)) (sym (c.deref-11.ensures.value ∙ fates_back g b)) (the_fates g b runs)),
    )

pub returns-clause-ok : goal.returns-clause-ok
returns-clause-ok g c =
    let i : Image = c.pausing.inside.tracked.now in
    let set = c.pausing.inside.set.now in
    let p = c.pausing.inside.plan.now in
    let pause = c.pausing.invariant.plan in
    let h = c.heap_of-heap.result.now in
    let ps = c.args.patches.items in
    let b = (goal.at.returns-clause-ok g c).After-free in
    let tracked = c.heap_of-heap.ensures.tracked in
    let he = c.heap_of-heap.ensures.same in
    let runs = the_runs g (goal.at.returns-clause-ok g c).In_ok-freed (the_unnamed g (goal.at.returns-clause-ok g c).In_ok-humongous) in
    let fates = the_fates g b runs in
    let clears : List ℕ = c.pausing.inside.set.now ++ freed i c.pausing.inside.set.now p.survivors in
    let firsts = subst (λ xs. AreFirsts h.geometry.w h.geometry.n xs c.in_ok-firsts.field-0.items) c.deref-10.ensures.value c.in_ok-firsts.ensures in
    let back : take c.in_ok-fates.fates.len (c.free.new.fates ++ drop (length c.free.new.fates) c.in_ok-fates.fates.items) ≡ c.free.new.fates = fates_back g b in
    let table = table_after i set p pause tracked h c.in_ok-new_regions.field-0.items c.deref-11.result.now he
    (subst (AreFates i.heap clears (to_space i.heap p.survivors)) (sym (c.deref-11.ensures.value ∙ back)) fates) c.in_ok-new_regions.ensures in
    let kept = lent_back c.in_ok-sets.sets.len c.deref_mut-2.result.now c.leave_all.new.sets c.in_ok-sets.sets.items c.deref_mut-2.ensures.value c.leave_all.auto.sets c.deref_mut-2.ensures.len in
    let sets = remembered_left i set p pause tracked h c.deref-8.result.now c.deref-9.result.now (map (λ s. s.items) c.deref_mut-2.result.now)
    (map (λ s. s.items) c.leave_all.new.sets) he (c.deref-9.ensures.value ∙ runs)
    (subst (AreFates i.heap clears (to_space i.heap p.survivors)) (sym (c.deref-8.ensures.value ∙ back)) fates)
    (ap (map (λ s. s.items)) c.deref_mut-2.ensures.value ∙ c.in_ok-sets.ensures.ok) c.leave_all.ensures.left (λ z. ap (map (λ s. s.items)) (c.leave_all.ensures.same z)) in
    let prepared : Prepared = record {
      fates = take c.in_ok-fates.fates.len (c.free.new.fates ++ drop (length c.free.new.fates) c.in_ok-fates.fates.items);
      gathered = c.in_ok-gathered.gathered.items;
      patches = ps;
      firsts = c.in_ok-firsts.field-0.items;
      regions = c.in_ok-new_regions.field-0.items;
      roots = c.in_ok-new_roots.field-0.items;
      remembered = map (λ s. s.items)
          (take c.in_ok-sets.sets.len (c.leave_all.new.sets ++ drop (length c.leave_all.new.sets) c.in_ok-sets.sets.items));
      humongous = c.in_ok-humongous.humongous.items;
    } in
    subst (λ (v : Pausing). IsMadeFor prepared v.image v.set v.plan.survivors) c.pausing.view_is
    (made_for i set p pause tracked prepared h he (subst (AreFates i.heap clears (to_space i.heap p.survivors)) (sym back) fates) c.in_ok-gathered.ensures (c.requires ∙ ap (λ (v : Pausing). all_patches v.image.heap v.set v.plan.survivors) (sym c.pausing.view_is)) firsts table
    c.in_ok-new_roots.ensures (ap (map (λ s. s.items)) kept ∙ sets) (the_unnamed g (goal.at.returns-clause-ok g c).In_ok-humongous))
