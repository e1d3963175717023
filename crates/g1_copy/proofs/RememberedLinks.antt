-- The patches and the copied slots are the references of the heap after the pause that lead into to-space or lie in it.
use Rattle.std.proofs.Common.{◌≡◌, ℕ, zero, suc, ◌+◌, ◌-◌, ◌<◌, ◌≤◌, ◌⊎◌, inl, inr, Bool, true, false, not, ◌&&◌, ◌||◌, List, filter, flat_map, refl, sym, ◌∙◌, ap, subst, arith, eqb, Contains}
use Rattle.std.proofs.Common.{eqb-true, ne_eqb}
use Rattle.std.specs.List.{range_with_len}
use Rattle.std.proofs.lemmas.Bool.{and_from, cases_Bool, false≢true, not-true, or_left, or_right}
use Rattle.g1_words.specs.declared.object.Object.{Object}
use Rattle.g1_words.specs.declared.region.Kind.TheVariants.{Ordinary, HumongousFirst}
use Rattle.g1_words.specs.Heap.{Heap, kind, word, region_of, card_of, object_at, objects, slots}
use Rattle.g1_words.specs.Lists.{has}
use Rattle.g1_words.specs.References.{Ref, named, refs, refs_at}
use Rattle.g1_words.specs.Survivors.{in_set}
use Rattle.g1_words.specs.Layout.{forward, to_space}
use Rattle.g1_words.proofs.Lists.{any_from_in}
use Rattle.g1_words.proofs.Logic.{same_test}
use Rattle.g1_words.proofs.Members.{Contains-map, Contains-filter, Contains-flat_map, map_cases, filter_member, flat_map_cases, Contains-from_has, has_from_contains, or_true, and_true, any_member}
use Rattle.g1_words.proofs.Indices.{range_bounds}
use Rattle.g1_words.proofs.Computed.{Contains-range}
use Rattle.g1_words.proofs.Sound.{named_suc}
use Rattle.g1_words.proofs.Standing.{home, home_region, ordinary_word, card_positive}
use Rattle.g1_words.proofs.Bounds.{card_in_region, cards_in_region}
use Rattle.g1_words.proofs.OneToOne.{kept_cases, outside_stays}
use Rattle.g1_image.specs.Image.{Image, region_of_card, card_in}
use Rattle.g1_image.specs.Cards.{leads_into, is_exact}
use Rattle.g1_words.specs.Copy.{renamed}
use Rattle.g1_after.specs.Made.{image_moved}
use Rattle.g1_after.specs.Survived.{IsMovedRef}
use Rattle.g1_after.proofs.ObjectsOf.{kept_outside, used_not_to_space}
use Rattle.g1_after.proofs.ToSpace.{goal_in_to_space, goal_is_free, survivor_kept}
use Rattle.g1_after.proofs.ValidMoved.{kept_refs, outside_word, slot_kept, slot_names, survivor_word}
use Rattle.g1_after.proofs.RefsMoved.{refs_moved}
use Rattle.g1_copy.specs.Links.{link, is_linked, moved_slots, copied_slots}
use Rattle.g1_copy.specs.Patches.{patch, all_patches}
use Rattle.g1_copy.proofs.Ground.{Ground}

-- ---- the object that a reference's slot belongs to

pub record OwnerOf (h : Heap) (e : Ref) : Type 0 where
  pub owner : Object
  pub stands : Contains (objects h) owner
  pub m : ℕ
  pub above : 0 < m
  pub within : m ≤ owner.refs
  pub at : owner.at + m ≡ e.slot
  pub names : word h (owner.at + m) ≡ suc e.target

pub owner_of : (h : Heap) (e : Ref) → Contains (refs h) e → OwnerOf h e
owner_of h e k =
    let o = flat_map_cases (λ o. flat_map (refs_at h) (slots o)) (objects h) e k in
    let p = flat_map_cases (refs_at h) (slots o.0) e o.2 in
    let b = map_cases (λ a. record { slot = p.0; target = a }) (named (word h p.0)) e p.2 in
    let r = range_bounds (o.0.at + 1) o.0.refs p.0 p.1 in
    let slot : p.0 ≡ e.slot = ap (λ (x : Ref). x.slot) b.2 in
    let target : b.0 ≡ e.target = ap (λ (x : Ref). x.target) b.2 in
    let at : o.0.at + (p.0 - o.0.at) ≡ p.0 = omega arith in
    record {
      owner = o.0;
      stands = o.1;
      m = p.0 - o.0.at;
      above = omega arith;
      within = omega arith;
      at = at ∙ slot;
      names = ap (word h) at ∙ named_suc (word h p.0) b.0 b.1 ∙ ap suc target;
    }

-- a slot of an object that names something is a reference
pub ref_of_slot : (h : Heap) (o : Object) (m b : ℕ) → Contains (objects h) o → 0 < m → m ≤ o.refs → word h (o.at + m) ≡ suc b → Contains (refs h) (record { slot = o.at + m; target = b })
ref_of_slot h o m b k p le e =
    let q : ℕ = o.at + m in
    let r : Ref = record { slot = q; target = b } in
    Contains-flat_map (λ o. flat_map (refs_at h) (slots o)) (objects h) o r k
    (Contains-flat_map (refs_at h) (slots o) q r (Contains-range (o.at + 1) o.refs q (omega arith) (omega arith))
    (Contains-map (λ a. record { slot = q; target = a }) (named (word h q)) b (subst (λ x. Contains (named x) b) (sym e) (zero, omega arith, refl))))

module _ (i : Image) (set l : List ℕ) (g : Ground i set l) where
  abbrev f : ℕ → ℕ
  f = forward i.heap l

  abbrev j : Image
  j = image_moved i set l

  -- an object with a word outside the set stands outside it
  owner_outside : (o : Object) (m : ℕ) → Contains (objects i.heap) o → m < o.size → in_set i.heap set (o.at + m) ≡ false → in_set i.heap set o.at ≡ false
  owner_outside o m k lt out = elim (cases_Bool (in_set i.heap set o.at)) [
    | inr z ↦ z
    | inl t ↦
        let q = home i.heap g.built o k in
        let at : region_of i.heap o.at ≡ q.0 = home_region i.heap g.built q.0 o q.2 in
        let one : kind i.heap q.0 ≡ Ordinary = ap (kind i.heap) (sym at) ∙ g.room.ordinary (region_of i.heap o.at) (Contains-from_has set (region_of i.heap o.at) t) in
        elim q.2.2 [
          | inl a ↦ absurd (false≢true (sym out ∙ ap (has set) ((ordinary_word i.heap g.built q.0 o m a lt).0 ∙ sym at) ∙ t))
          | inr a ↦ let clash : HumongousFirst ≡ Ordinary = sym a.kind ∙ one in cc
        ]
  ]

  -- ---- patches

  -- what a patch was made from
  pub record PatchOf (x : ℕ × ℕ) : Type 0 where
    pub ref : Ref
    pub there : Contains (refs i.heap) ref
    pub outside : in_set i.heap set ref.slot ≡ false
    pub survives : Contains l ref.target
    pub same : patch i.heap l ref ≡ x

  pub patch_of : (x : ℕ × ℕ) → Contains (all_patches i.heap set l) x → PatchOf x
  patch_of x k =
      let p = map_cases (patch i.heap l) (filter (λ e. not (in_set i.heap set e.slot) && has l e.target) (refs i.heap)) x k in
      let q = filter_member (λ (e : Ref). not (in_set i.heap set e.slot) && has l e.target) (refs i.heap) p.0 p.1 in
      let b = and_true (not (in_set i.heap set p.0.slot)) (has l p.0.target) q.1 in
      record { ref = p.0; there = q.0; outside = not-true (in_set i.heap set p.0.slot) b.0; survives = Contains-from_has l p.0.target b.1; same = p.2 }

  -- a patch is a moved reference
  patch_moves : (e : Ref) → Contains (refs i.heap) e → in_set i.heap set e.slot ≡ false → IsMovedRef i.heap set l (link (patch i.heap l e))
  patch_moves e k out =
      let o = owner_of i.heap e k in
      let fits = g.sound.slots_fit o.owner o.stands in
      let w = o.within in
      let a = o.above in
      let at = o.at in
      let off : in_set i.heap set o.owner.at ≡ false = owner_outside o.owner o.m o.stands (omega arith) (ap (in_set i.heap set) at ∙ out) in
      let stays = outside_stays i.heap set l g.sound g.room o.owner.at off in
      record {
        owner = o.owner;
        is_kept = kept_outside i set l j g.sound g.room g.moved o.owner o.stands off;
        m = o.m;
        above = a;
        within = w;
        target = e.target;
        names = o.names;
        slot_at = sym at ∙ ap (λ y. y + o.m) (sym stays);
        target_at = omega arith;
      }

  pub patch_is_moved : (x : ℕ × ℕ) → Contains (all_patches i.heap set l) x → IsMovedRef i.heap set l (link x)
  patch_is_moved x k = let p = patch_of x k in subst (λ y. IsMovedRef i.heap set l (link y)) p.same (patch_moves p.ref p.there p.outside)

  -- ---- copied slots

  -- which slot of which survivor a copied slot is
  pub record CopiedOf (x : ℕ × ℕ) : Type 0 where
    pub at : ℕ
    pub survives : Contains l at
    pub m : ℕ
    pub above : 0 < m
    pub within : m ≤ (object_at i.heap at).refs
    pub target : ℕ
    pub names : word i.heap (at + m) ≡ suc target
    pub slot_at : x.0 ≡ f at + m
    pub word_at : x.1 ≡ suc (f target)

  not_null : (x : ℕ) → not (eqb x 0) ≡ true → (b : ℕ) × (x ≡ suc b)
  not_null zero e = cc
  not_null (suc b) e = (b, refl)

  pub copied_of : (x : ℕ × ℕ) → Contains (copied_slots i.heap l) x → CopiedOf x
  copied_of x k =
      let a = flat_map_cases (moved_slots i.heap l) l x k in
      let p = map_cases (λ k. (f a.0 + k, renamed f (word i.heap (a.0 + k)))) (filter (λ k. not (eqb (word i.heap (a.0 + k)) 0)) (range_with_len 1 (object_at i.heap a.0).refs)) x a.2 in
      let q = filter_member (λ k. not (eqb (word i.heap (a.0 + k)) 0)) (range_with_len 1 (object_at i.heap a.0).refs) p.0 p.1 in
      let r = range_bounds 1 (object_at i.heap a.0).refs p.0 q.0 in
      let b = not_null (word i.heap (a.0 + p.0)) q.1 in
      record {
        at = a.0;
        survives = a.1;
        m = p.0;
        above = omega arith;
        within = omega arith;
        target = b.0;
        names = b.1;
        slot_at = sym (ap (λ (y : ℕ × ℕ). y.0) p.2);
        word_at = sym (ap (λ (y : ℕ × ℕ). y.1) p.2) ∙ ap (renamed f) b.1;
      }

  pub copied_is_moved : (x : ℕ × ℕ) → Contains (copied_slots i.heap l) x → IsMovedRef i.heap set l (link x)
  copied_is_moved x k =
      let c = copied_of x k in
      let w = c.word_at in record {
        owner = object_at i.heap c.at;
        is_kept = survivor_kept i set l j g.sound g.room g.moved c.at c.survives;
        m = c.m;
        above = c.above;
        within = c.within;
        target = c.target;
        names = c.names;
        slot_at = c.slot_at;
        target_at = omega arith;
      }

  -- a word of a survivor goes to to-space
  survivor_goes : (a m : ℕ) → Contains l a → m ≤ (object_at i.heap a).refs → (region_of i.heap (f a + m) < i.heap.geometry.n) × (has (to_space i.heap l) (region_of i.heap (f a + m)) ≡ true)
  survivor_goes a m k le =
      let fits = kept_refs i set l j g.built g.room g.moved (object_at i.heap a) (survivor_kept i set l j g.sound g.room g.moved a k) in
      let u = survivor_word i set l j g.built g.room g.moved a m k (omega arith) in (
        subst (λ y. y < i.heap.geometry.n) (sym u.2) (goal_is_free i set l j g.sound g.room g.moved u.0 u.1).1,
        subst (λ y. has (to_space i.heap l) y ≡ true) (sym u.2) (goal_in_to_space i set l j g.sound g.room g.moved u.0 u.1),
      )

  -- a copied slot lies in to-space
  pub copied_goes : (x : ℕ × ℕ) → Contains (copied_slots i.heap l) x → (region_of i.heap x.0 < i.heap.geometry.n) × (has (to_space i.heap l) (region_of i.heap x.0) ≡ true)
  copied_goes x k =
      let c = copied_of x k in
      subst (λ y. (region_of i.heap y < i.heap.geometry.n) × (has (to_space i.heap l) (region_of i.heap y) ≡ true)) (sym c.slot_at) (survivor_goes c.at c.m c.survives c.within)

  -- ---- which of them a moved reference is

  abbrev slot_word : Ref → ℕ × ℕ
  slot_word e = (e.slot, suc e.target)

  pub link_back : (e : Ref) → link (slot_word e) ≡ e
  link_back e = let t : suc e.target - 1 ≡ e.target = omega arith in λ q. record { slot = e.slot; target = t q }

  -- a moved reference is a copied slot, or lies outside to-space, and is a patch where it names a survivor
  abbrev Parts : Ref → ℕ → Type 0
  Parts e target = Contains (copied_slots i.heap l) (slot_word e) ⊎ ((has (to_space i.heap l) (region_of i.heap e.slot) ≡ false) × (Contains l target → Contains (all_patches i.heap set l) (slot_word e)))

  pub moved_parts : (e : Ref) (r : IsMovedRef i.heap set l e) → Parts e r.target
  moved_parts e r =
      let k = r.is_kept in
      let fits = kept_refs i set l j g.built g.room g.moved r.owner k in
      let a = r.above in
      let w = r.within in
      elim (kept_cases i.heap set l g.sound g.room r.owner k) [
        | inl x ↦
            let stays = outside_stays i.heap set l g.sound g.room r.owner.at x.0 in
            let slot : r.owner.at + r.m ≡ e.slot = ap (λ y. y + r.m) (sym stays) ∙ sym r.slot_at in
            let u = outside_word i set l j g.built g.room g.moved r.owner r.m x.1 x.0 (omega arith) in
            let used : has (to_space i.heap l) (region_of i.heap (r.owner.at + r.m)) ≡ false = used_not_to_space i.heap set l g.sound g.room (region_of i.heap (r.owner.at + r.m)) u.1 in
            inr (
              ap (λ y. has (to_space i.heap l) (region_of i.heap y)) (sym slot) ∙ used,
              (λ survives.
                  let d : Ref = record { slot = r.owner.at + r.m; target = r.target } in
                  let there : Contains (refs i.heap) d = ref_of_slot i.heap r.owner r.m r.target x.1 a w r.names in
                  let test : (not (in_set i.heap set d.slot) && has l d.target) ≡ true = and_from (not (in_set i.heap set d.slot)) (has l d.target) (ap not u.3) (has_from_contains l d.target survives) in
                  let same : patch i.heap l d ≡ slot_word e = λ t. (slot t, suc (sym r.target_at t)) in
                  subst (Contains (all_patches i.heap set l)) same
                  (Contains-map (patch i.heap l) (filter (λ e. not (in_set i.heap set e.slot) && has l e.target) (refs i.heap)) d
                  (Contains-filter (λ (e : Ref). not (in_set i.heap set e.slot) && has l e.target) (refs i.heap) d there test))),
            )
        | inr x ↦
            let at : x.0 ≡ r.owner.at = ap (λ (o : Object). o.at) x.2 in
            let within : r.m ≤ (object_at i.heap x.0).refs = subst (λ (o : Object). r.m ≤ o.refs) (sym x.2) w in
            let names : word i.heap (x.0 + r.m) ≡ suc r.target = ap (λ y. word i.heap (y + r.m)) at ∙ r.names in
            let test : not (eqb (word i.heap (x.0 + r.m)) 0) ≡ true = ap not (ap (λ y. eqb y 0) names ∙ ne_eqb (suc r.target) 0 (λ e. omega (arith, e))) in
            let same : (f x.0 + r.m, renamed f (word i.heap (x.0 + r.m))) ≡ slot_word e = λ t. ((ap (λ y. f y + r.m) at ∙ sym r.slot_at) t, (ap (renamed f) names ∙ ap suc (sym r.target_at)) t) in
            inl (Contains-flat_map (moved_slots i.heap l) l x.0 (slot_word e) x.1
            (subst (Contains (moved_slots i.heap l x.0)) same
            (Contains-map (λ k. (f x.0 + k, renamed f (word i.heap (x.0 + k)))) (filter (λ k. not (eqb (word i.heap (x.0 + k)) 0)) (range_with_len 1 (object_at i.heap x.0).refs)) r.m
            (Contains-filter (λ k. not (eqb (word i.heap (x.0 + k)) 0)) (range_with_len 1 (object_at i.heap x.0).refs) r.m (Contains-range 1 (object_at i.heap x.0).refs r.m (omega arith) (omega arith)) test))))
      ]

  -- what a moved reference names was kept; where it now lies in to-space it is a survivor
  pub names_survivor : (e : Ref) (r : IsMovedRef i.heap set l e) → has (to_space i.heap l) (region_of i.heap e.target) ≡ true → Contains l r.target
  names_survivor e r t =
      let k = r.is_kept in
      let o = slot_kept i set l j g.built g.room g.moved r.owner r.target k (slot_names i set l j g.built g.room g.moved r.owner r.m r.target r.above r.within r.names) in
      let fits = kept_refs i set l j g.built g.room g.moved (object_at i.heap r.target) o in
      elim (kept_cases i.heap set l g.sound g.room (object_at i.heap r.target) o) [
        | inr x ↦ subst (Contains l) (ap (λ (o : Object). o.at) x.2) x.1
        | inl x ↦
            let stays : f r.target ≡ r.target = outside_stays i.heap set l g.sound g.room r.target x.0 in
            let u = outside_word i set l j g.built g.room g.moved (object_at i.heap r.target) 0 x.1 x.0 (omega arith) in
            let at : r.target + 0 ≡ e.target = omega (arith, stays, r.target_at) in
            let off : has (to_space i.heap l) (region_of i.heap (r.target + 0)) ≡ false = used_not_to_space i.heap set l g.sound g.room (region_of i.heap (r.target + 0)) u.1 in
            absurd (false≢true (sym off ∙ ap (λ y. has (to_space i.heap l) (region_of i.heap y)) at ∙ t))
      ]

  -- ---- which cards are exact after

  abbrev lands : ℕ → ℕ → Ref → Bool
  lands r c e = leads_into i.heap r e && eqb (card_of i.heap e.slot) c

  -- a slot among some whose reference lands counts
  pub is_linked_by : (xs : List (ℕ × ℕ)) (r c : ℕ) (e : Ref) → Contains xs (slot_word e) → lands r c e ≡ true → is_linked i.heap xs r c ≡ true
  is_linked_by xs r c e k t = any_from_in (λ (x : ℕ × ℕ). lands r c (link x)) xs (slot_word e) k (ap (lands r c) (link_back e) ∙ t)

  -- slots that are moved references count after
  pub linked_is_exact : (xs : List (ℕ × ℕ)) (r c : ℕ) → ((x : ℕ × ℕ) → Contains xs x → IsMovedRef i.heap set l (link x)) → is_linked i.heap xs r c ≡ true → is_exact j.heap r c ≡ true
  linked_is_exact xs r c all t =
      let m = any_member (λ (x : ℕ × ℕ). lands r c (link x)) xs t in
      let there : Contains (refs j.heap) (link m.0) = (refs_moved i set l j g.built g.room g.moved (link m.0)).1 (all m.0 m.1) in
      any_from_in (lands r c) (refs j.heap) (link m.0) there m.2

  -- the reference for which a card is exact
  exact_ref : (r c : ℕ) → is_exact j.heap r c ≡ true → (e : Ref) × IsMovedRef i.heap set l e × (lands r c e ≡ true)
  exact_ref r c t =
      let m = any_member (lands r c) (refs j.heap) t in
      (m.0, (refs_moved i set l j g.built g.room g.moved m.0).0 m.1, m.2)

  -- into a region of to-space the patches lead and the copied slots
  pub to_space_cards : (r c : ℕ) → has (to_space i.heap l) r ≡ true → is_exact j.heap r c ≡ (is_linked i.heap (all_patches i.heap set l) r c || is_linked i.heap (copied_slots i.heap l) r c)
  to_space_cards r c to =
      let P : Bool = is_linked i.heap (all_patches i.heap set l) r c in
      let C : Bool = is_linked i.heap (copied_slots i.heap l) r c in
      same_test (is_exact j.heap r c) (P || C)
      (λ t.
      let e = exact_ref r c t in
      let b = and_true (leads_into i.heap r e.0) (eqb (card_of i.heap e.0.slot) c) e.2 in
      let d = and_true (eqb (region_of i.heap e.0.target) r) (not (eqb (region_of i.heap e.0.slot) r)) b.0 in
      let here : has (to_space i.heap l) (region_of i.heap e.0.target) ≡ true = ap (has (to_space i.heap l)) (eqb-true (region_of i.heap e.0.target) r d.0) ∙ to in
      elim (moved_parts e.0 e.1) [
        | inl k ↦ or_right P C (is_linked_by (copied_slots i.heap l) r c e.0 k e.2)
        | inr k ↦ or_left P C (is_linked_by (all_patches i.heap set l) r c e.0 (k.1 (names_survivor e.0 e.1 here)) e.2)
      ])
      (λ t. elim (or_true P C t) [
        | inl k ↦ linked_is_exact (all_patches i.heap set l) r c patch_is_moved k
        | inr k ↦ linked_is_exact (copied_slots i.heap l) r c copied_is_moved k
      ])

  card_region : (p c : ℕ) → eqb (card_of i.heap p) c ≡ true → region_of_card i.heap c ≡ region_of i.heap p
  card_region p c t =
      let d = cards_in_region i.heap.geometry.w i.heap.geometry.k i.heap.geometry.n g.built.limits in
      ap (region_of_card i.heap) (sym (eqb-true (card_of i.heap p) c t))
      ∙ card_in_region i.heap.geometry.w i.heap.geometry.k d.0 p (card_positive i.heap.geometry.w i.heap.geometry.k i.heap.geometry.n g.built.limits) d.1

  -- the to-space cards that are exact for a region are those of the copied slots that lead into it
  pub copied_cards : (r c : ℕ) → (card_in i.heap (to_space i.heap l) c && is_exact j.heap r c) ≡ is_linked i.heap (copied_slots i.heap l) r c
  copied_cards r c =
      let C : Bool = is_linked i.heap (copied_slots i.heap l) r c in
      same_test (card_in i.heap (to_space i.heap l) c && is_exact j.heap r c) C
      (λ t.
      let a = and_true (card_in i.heap (to_space i.heap l) c) (is_exact j.heap r c) t in
      let e = exact_ref r c a.1 in
      let b = and_true (leads_into i.heap r e.0) (eqb (card_of i.heap e.0.slot) c) e.2 in
      elim (moved_parts e.0 e.1) [
        | inl k ↦ is_linked_by (copied_slots i.heap l) r c e.0 k e.2
        | inr k ↦ absurd (false≢true (sym k.0 ∙ ap (has (to_space i.heap l)) (sym (card_region e.0.slot c b.1)) ∙ a.0))
      ])
      (λ t.
      let m = any_member (λ (x : ℕ × ℕ). lands r c (link x)) (copied_slots i.heap l) t in
      let b = and_true (leads_into i.heap r (link m.0)) (eqb (card_of i.heap m.0.0) c) m.2 in
      let here : card_in i.heap (to_space i.heap l) c ≡ true = ap (has (to_space i.heap l)) (card_region m.0.0 c b.1) ∙ (copied_goes m.0 m.1).1 in
      and_from (card_in i.heap (to_space i.heap l) c) (is_exact j.heap r c) here (linked_is_exact (copied_slots i.heap l) r c copied_is_moved t))
