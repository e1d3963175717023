-- The references of a heap in which unnamed humongous objects were freed: those of the slots that are left, and none leads into a freed region.
use Rattle.std.proofs.Common.{◌≡◌, ℕ, ◌+◌, ◌-◌, ◌<◌, ◌↔◌, inl, inr, true, false, not, ◌&&◌, List, flat_map, map, Contains, refl, sym, ◌∙◌, ap, subst, arith, leb, ltb, leb-true, ltb-true, eqb, eq-eqb}
use Rattle.std.specs.Prelude.{IsFalse}
use Rattle.std.specs.List.{list_any}
use Rattle.std.proofs.lemmas.Bool.{cases_Bool, false≢true, and_from, or_right, or_left, and_parts}
use Rattle.g1_after.proofs.ObjectsLeft.{IsLeft, heap_is_left, left_cases, object_left, with_parts}
use Rattle.g1_after.proofs.UnnamedRegions.{unnamed_humongous, unnamed_region, unnamed_there, word_with_header}
use Rattle.g1_after.specs.Freed.{NothingIntoUnnamed, RefsLeft, heap_left}
use Rattle.g1_after.specs.Unnamed.{has_word, unnamed, unnamed_regions}
use Rattle.g1_words.proofs.Indices.{range_bounds}
use Rattle.g1_words.proofs.Members.{Contains-flat_map, flat_map_cases, has_from_contains, map_cases}
use Rattle.g1_words.proofs.Shapes.{IsBuilt, built}
use Rattle.g1_words.proofs.Standing.{home, stands_refs}
use Rattle.g1_words.specs.Heap.{Heap, object_at, objects, slots, word}
use Rattle.g1_words.specs.Lists.{has}
use Rattle.g1_words.specs.References.{Ref, named, refs, refs_at, root_targets}
use Rattle.g1_words.specs.Survivors.{in_set}
use Rattle.g1_words.specs.declared.object.Object.{Object}
use Rattle.g1_words.specs.declared.region.Region.{Region}
use Rattle.g1_words.proofs.Lists.{any_from_in}

module _ (h : Heap) (valid : IsBuilt h) where
  -- an object has its references within its words
  pub refs_fit : (o : Object) → Contains (objects h) o → o.refs < o.size
  refs_fit o c = let m = home h valid o c in stands_refs h valid m.0 o m.2

  -- a slot of an object lies where its header does, in a freed region or elsewhere
  pub slot_with_header : (o : Object) (p : ℕ) → Contains (objects h) o → Contains (slots o) p → in_set h (unnamed_regions h) p ≡ in_set h (unnamed_regions h) o.at
  slot_with_header o p c m =
      let b = range_bounds (o.at + 1) o.refs p m in
      let fits = refs_fit o c in
      let e : o.at + (p - o.at) ≡ p = omega arith in
      ap (in_set h (unnamed_regions h)) (sym e) ∙ word_with_header h valid o (p - o.at) c (omega arith)

  -- what lies in a freed region and is named is unnamed itself
  named_unnamed : (a : ℕ) → Contains (objects h) (object_at h a) → in_set h (unnamed_regions h) a ≡ true → Contains (unnamed h) (object_at h a)
  named_unnamed a c t =
      let fits = refs_fit (object_at h a) c in
      let z : a + 0 ≡ a = omega arith in
      unnamed_there h valid (object_at h a) 0 c (omega arith) (ap (in_set h (unnamed_regions h)) z ∙ t)

  -- no root leads into a freed region
  pub root_away : (a : ℕ) → Contains (root_targets h) a → in_set h (unnamed_regions h) a ≡ false
  root_away a m = elim (cases_Bool (in_set h (unnamed_regions h) a)) [
    | inr f ↦ f
    | inl t ↦
        let o : Object = object_at h a in
        let u = unnamed_humongous h valid o (named_unnamed a (valid.root_named a m) t) in
        absurd (false≢true (sym u.1 ∙ or_left (has (root_targets h) a) (list_any (λ e. eqb e.target a && not (has_word o e.slot)) (refs h)) (has_from_contains (root_targets h) a m)))
  ]

  -- a reference that leads into a freed region lies in one
  pub ref_away : (e : Ref) → Contains (refs h) e → in_set h (unnamed_regions h) e.slot ≡ false → in_set h (unnamed_regions h) e.target ≡ false
  ref_away e m out = elim (cases_Bool (in_set h (unnamed_regions h) e.target)) [
    | inr f ↦ f
    | inl t ↦
        let o : Object = object_at h e.target in
        let u = named_unnamed e.target (valid.slot_named e m) t in
        elim (cases_Bool (has_word o e.slot)) [
          | inl w ↦
              let both = and_parts (leb o.at e.slot) (ltb e.slot (o.at + o.size)) w in
              let low = leb-true o.at e.slot both.0 in
              let high = ltb-true e.slot (o.at + o.size) both.1 in
              let z : o.at + (e.slot - o.at) ≡ e.slot = omega arith in
              absurd (false≢true (sym out ∙ ap (in_set h (unnamed_regions h)) (sym z) ∙ unnamed_region h valid o (e.slot - o.at) u (omega arith)))
          | inr w ↦
              let here : list_any (λ x. eqb x.target o.at && not (has_word o x.slot)) (refs h) ≡ true =
              any_from_in (λ (x : Ref). eqb x.target o.at && not (has_word o x.slot)) (refs h) e m (and_from (eqb e.target o.at) (not (has_word o e.slot)) (eq-eqb e.target o.at refl) (ap not w)) in
              absurd (false≢true (sym (unnamed_humongous h valid o u).1 ∙ or_right (has (root_targets h) o.at) (list_any (λ x. eqb x.target o.at && not (has_word o x.slot)) (refs h)) here))
        ]
  ]

module _ (h : Heap) (valid : IsBuilt h) (words : List ℕ) (table : List Region) (left : IsLeft h words table) where
  -- a reference that is left was one, at a slot outside the freed regions
  pub ref_cases : (e : Ref) → Contains (refs (with_parts h words table)) e → Contains (refs h) e × (in_set h (unnamed_regions h) e.slot ≡ false)
  ref_cases e m =
      let o = flat_map_cases (λ o. flat_map (refs_at (with_parts h words table)) (slots o)) (objects (with_parts h words table)) e m in
      let p = flat_map_cases (refs_at (with_parts h words table)) (slots o.0) e o.2 in
      let k = left_cases h valid words table left o.0 o.1 in
      let out : in_set h (unnamed_regions h) p.0 ≡ false = slot_with_header h valid o.0 p.0 k.0 p.1 ∙ k.1 in
      let w : word (with_parts h words table) p.0 ≡ word h p.0 = left.stays p.0 out in
      let q = map_cases (λ a. record { slot = p.0; target = a }) (named (word (with_parts h words table) p.0)) e p.2 in
      let slot : p.0 ≡ e.slot = ap (λ (x : Ref). x.slot) q.2 in
      let here : Contains (refs_at h p.0) e = subst (λ y. Contains (map (λ a. record { slot = p.0; target = a }) (named y)) e) w p.2 in
      (Contains-flat_map (λ o. flat_map (refs_at h) (slots o)) (objects h) o.0 e k.0 (Contains-flat_map (refs_at h) (slots o.0) p.0 e p.1 here), ap (in_set h (unnamed_regions h)) (sym slot) ∙ out)

  -- a reference at a slot outside the freed regions is left
  pub ref_left : (e : Ref) → Contains (refs h) e → in_set h (unnamed_regions h) e.slot ≡ false → Contains (refs (with_parts h words table)) e
  ref_left e m out =
      let o = flat_map_cases (λ o. flat_map (refs_at h) (slots o)) (objects h) e m in
      let p = flat_map_cases (refs_at h) (slots o.0) e o.2 in
      let q = map_cases (λ a. record { slot = p.0; target = a }) (named (word h p.0)) e p.2 in
      let slot : p.0 ≡ e.slot = ap (λ (x : Ref). x.slot) q.2 in
      let there : in_set h (unnamed_regions h) p.0 ≡ false = ap (in_set h (unnamed_regions h)) slot ∙ out in
      let header : in_set h (unnamed_regions h) o.0.at ≡ false = sym (slot_with_header h valid o.0 p.0 o.1 p.1) ∙ there in
      let w : word (with_parts h words table) p.0 ≡ word h p.0 = left.stays p.0 there in
      let here : Contains (refs_at (with_parts h words table) p.0) e = subst (λ y. Contains (map (λ a. record { slot = p.0; target = a }) (named y)) e) (sym w) p.2 in
      Contains-flat_map (λ o. flat_map (refs_at (with_parts h words table)) (slots o)) (objects (with_parts h words table)) o.0 e
      (object_left h valid words table left o.0 o.1 header) (Contains-flat_map (refs_at (with_parts h words table)) (slots o.0) p.0 e p.1 here)

  refs_is : (e : Ref) → Contains (refs (with_parts h words table)) e ↔ (Contains (refs h) e × IsFalse (in_set h (unnamed_regions h) e.slot))
  refs_is e = (ref_cases e, λ c. ref_left e c.0 c.1)

-- the references that are left are those of the slots outside the freed regions
pub refs_left : RefsLeft
refs_left h v e = refs_is h (built h v) (heap_left h).words (heap_left h).regions (heap_is_left h (built h v)) e

-- neither a root nor a reference leads into a freed region
pub nothing_into_unnamed : NothingIntoUnnamed
nothing_into_unnamed h v = (
  root_away h (built h v),
  (λ e c.
      let m = ref_cases h (built h v) (heap_left h).words (heap_left h).regions (heap_is_left h (built h v)) e c in
      ref_away h (built h v) e m.0 m.1),
)
