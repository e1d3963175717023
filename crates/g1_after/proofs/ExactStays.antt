-- On cards and of regions that a pause leaves as they are, what is exact stays.
use Rattle.std.proofs.Common.{◌≡◌, ℕ, suc, ◌+◌, ◌/◌, ◌<◌, inl, inr, Bool, true, false, not, ◌&&◌, List, ◌++◌, sym, ◌∙◌, ap, arith, eqb, Contains}
use Rattle.std.proofs.lemmas.Bool.{cases_Bool, false≢true}
use Rattle.std.proofs.lemmas.List.Elements.{Contains-append_left, Contains-append_right}
use Rattle.g1_after.proofs.CoveredMoved.{moved_region}
use Rattle.g1_after.proofs.ObjectsOf.{kept_outside}
use Rattle.g1_after.proofs.RefsMoved.{refs_moved}
use Rattle.g1_after.proofs.RefsOf.{exact_parts, ref_of, region_of_slot, slot_of}
use Rattle.g1_after.proofs.RulesMoved.{before_kept, ref_moved}
use Rattle.g1_after.proofs.ValidMoved.{kept_refs, sound_before}
use Rattle.g1_after.specs.Survived.{ExactStays}
use Rattle.g1_after.specs.Moved.{IsMoved}
use Rattle.g1_image.specs.Cards.{is_exact, leads_into}
use Rattle.g1_image.specs.Image.{Image, region_of_card, card_in}
use Rattle.g1_words.proofs.Indices.{not_has}
use Rattle.g1_words.proofs.Members.{any_member, has_from_contains, Contains-from_has}
use Rattle.g1_words.proofs.OneToOne.{outside_stays}
use Rattle.g1_words.proofs.Shapes.{IsBuilt, built}
use Rattle.g1_words.proofs.Standing.{home, home_region, ordinary_word, stands_refs}
use Rattle.g1_words.specs.Heap.{card_of, kind, object_at, objects, region_of, word}
use Rattle.g1_words.specs.Layout.{forward, kept, to_space, HasRoom}
use Rattle.g1_words.specs.Lists.{has}
use Rattle.g1_words.specs.References.{Ref, refs}
use Rattle.g1_words.specs.Survivors.{in_set}
use Rattle.g1_words.specs.declared.object.Object.{Object}
use Rattle.g1_words.specs.declared.region.Kind.TheVariants.{HumongousFirst, Ordinary}
use Rattle.g1_words.proofs.Lists.{any_from_in}
use Rattle.g1_words.proofs.Logic.{same_test}

-- what isn't in two lists isn't in the first
not_in_first : (xs ys : List ℕ) (x : ℕ) → has (xs ++ ys) x ≡ false → has xs x ≡ false
not_in_first xs ys x out = not_has xs x (λ k. false≢true (sym out ∙ has_from_contains (xs ++ ys) x (Contains-append_left xs ys x k)))

-- and not in the second
not_in_second : (xs ys : List ℕ) (x : ℕ) → has (xs ++ ys) x ≡ false → has ys x ≡ false
not_in_second xs ys x out = not_has ys x (λ k. false≢true (sym out ∙ has_from_contains (xs ++ ys) x (Contains-append_right xs ys x k)))

module _ (i : Image) (set l : List ℕ) (j : Image) (valid : IsBuilt i.heap) (room : HasRoom i.heap set l) (moved : IsMoved i set l j) where
  -- a kept object that has a word after outside to-space wasn't moved
  unmoved : (k : Object) (m q : ℕ) → Contains (kept i.heap set l) k → m < k.size → forward i.heap l k.at + m ≡ q →
      has (to_space i.heap l) (region_of i.heap q) ≡ false → Contains (objects i.heap) k × (forward i.heap l k.at ≡ k.at)
  unmoved k m q c less at out = elim (moved_region i set l j valid room moved k m c less).2 [
    | inl x ↦ (x.1, x.2)
    | inr t ↦ absurd (false≢true (sym out ∙ ap (λ y. has (to_space i.heap l) (region_of i.heap y)) (sym at) ∙ t))
  ]

  -- a reference after whose slot and target lie outside to-space was there before
  was_there : (e : Ref) → Contains (refs j.heap) e → has (to_space i.heap l) (region_of i.heap e.slot) ≡ false → has (to_space i.heap l) (region_of i.heap e.target) ≡ false → Contains (refs i.heap) e
  was_there e here from to =
      let r = ref_moved i set l j valid room moved e here in
      let named = before_kept i set l j valid room moved e r in
      let owner_fits = kept_refs i set l j valid room moved r.owner r.is_kept in
      let target_fits = kept_refs i set l j valid room moved (object_at i.heap r.before) named in
      let within = r.within in
      let o = unmoved r.owner r.m e.slot r.is_kept (omega arith) (sym r.slot) from in
      let goal : forward i.heap l r.before + 0 ≡ e.target = omega (arith, r.moved_to) in
      let t = unmoved (object_at i.heap r.before) 0 e.target named (omega arith) goal to in
      let at : e.slot ≡ r.owner.at + r.m = r.slot ∙ ap (λ y. y + r.m) o.1 in
      ref_of i.heap e (record { owner = r.owner; is_one = o.0; m = r.m; above = r.above; within = within; at = at; names = ap (word i.heap) at ∙ r.word_before ∙ ap suc (sym t.1 ∙ r.moved_to) })

  -- an object with a word outside the set stands outside it
  stands_outside : (o : Object) (m : ℕ) → Contains (objects i.heap) o → m < o.size → has set (region_of i.heap (o.at + m)) ≡ false → in_set i.heap set o.at ≡ false
  stands_outside o m c less out = elim (cases_Bool (in_set i.heap set o.at)) [
    | inr f ↦ f
    | inl t ↦
        let s = home i.heap valid o c in
        let at : region_of i.heap o.at ≡ s.0 = home_region i.heap valid s.0 o s.2 in
        let one : kind i.heap (region_of i.heap o.at) ≡ Ordinary = room.ordinary (region_of i.heap o.at) (Contains-from_has set (region_of i.heap o.at) t) in
        elim s.2.2 [
          | inl a ↦ absurd (false≢true (sym out ∙ ap (has set) ((ordinary_word i.heap valid s.0 o m a less).0 ∙ sym at) ∙ t))
          | inr a ↦ let clash : HumongousFirst ≡ Ordinary = sym a.kind ∙ ap (kind i.heap) (sym at) ∙ one in cc
        ]
  ]

  -- a reference whose slot and target lie outside the set stays
  stays_there : (e : Ref) → Contains (refs i.heap) e → has set (region_of i.heap e.slot) ≡ false → has set (region_of i.heap e.target) ≡ false → Contains (refs j.heap) e
  stays_there e here from to =
      let sound = sound_before i set l j valid room moved in
      let s = slot_of i.heap e here in
      let stood = home i.heap valid s.owner s.is_one in
      let fits = stands_refs i.heap valid stood.0 s.owner stood.2 in
      let within = s.within in
      let out = stands_outside s.owner s.m s.is_one (omega arith) (ap (λ y. has set (region_of i.heap y)) (sym s.at) ∙ from) in
      let stays : forward i.heap l s.owner.at ≡ s.owner.at = outside_stays i.heap set l sound room s.owner.at out in
      (refs_moved i set l j valid room moved e).1 (record {
        owner = s.owner;
        is_kept = kept_outside i set l j sound room moved s.owner s.is_one out;
        m = s.m;
        above = s.above;
        within = s.within;
        target = e.target;
        names = ap (word i.heap) (sym s.at) ∙ s.names;
        slot_at = s.at ∙ ap (λ y. y + s.m) (sym stays);
        target_at = sym (outside_stays i.heap set l sound room e.target to);
      })

  -- the tests of references are the same before and after
  same_lead : (r c : ℕ) (e : Ref) → (leads_into j.heap r e && eqb (card_of j.heap e.slot) c) ≡ (leads_into i.heap r e && eqb (card_of i.heap e.slot) c)
  same_lead r c e = λ t. (eqb (e.target / (moved.geometry t).w) r && not (eqb (e.slot / (moved.geometry t).w) r)) && eqb (e.slot / (moved.geometry t).k) c

  -- a card that stays is exact after where it was before
  pub stays_exact : (r c : ℕ) → has (set ++ to_space i.heap l) r ≡ false → card_in i.heap (set ++ to_space i.heap l) c ≡ false → is_exact j.heap r c ≡ is_exact i.heap r c
  stays_exact r c region_out card_out =
      let before : Ref → Bool = λ e. leads_into i.heap r e && eqb (card_of i.heap e.slot) c in
      let after : Ref → Bool = λ e. leads_into j.heap r e && eqb (card_of j.heap e.slot) c in
      let slot_at : (e : Ref) → card_of i.heap e.slot ≡ c → region_of_card i.heap c ≡ region_of i.heap e.slot = λ e at. ap (region_of_card i.heap) (sym at) ∙ region_of_slot i.heap valid e.slot in
      same_test (is_exact j.heap r c) (is_exact i.heap r c)
      (λ a.
      let m = any_member after (refs j.heap) a in
      let t : before m.0 ≡ true = sym (same_lead r c m.0) ∙ m.2 in
      let p = exact_parts i.heap r c m.0 t in
      let from : has (to_space i.heap l) (region_of i.heap m.0.slot) ≡ false =
      ap (has (to_space i.heap l)) (sym (slot_at m.0 p.2)) ∙ not_in_second set (to_space i.heap l) (region_of_card i.heap c) card_out in
      let to : has (to_space i.heap l) (region_of i.heap m.0.target) ≡ false = ap (has (to_space i.heap l)) p.0 ∙ not_in_second set (to_space i.heap l) r region_out in
      any_from_in before (refs i.heap) m.0 (was_there m.0 m.1 from to) t)
      (λ a.
      let m = any_member before (refs i.heap) a in
      let p = exact_parts i.heap r c m.0 m.2 in
      let from : has set (region_of i.heap m.0.slot) ≡ false = ap (has set) (sym (slot_at m.0 p.2)) ∙ not_in_first set (to_space i.heap l) (region_of_card i.heap c) card_out in
      let to : has set (region_of i.heap m.0.target) ≡ false = ap (has set) p.0 ∙ not_in_first set (to_space i.heap l) r region_out in
      any_from_in after (refs j.heap) m.0 (stays_there m.0 m.1 from to) (same_lead r c m.0 ∙ m.2))

-- what is exact on cards and of regions that a pause leaves stays exact
pub exact_stays : ExactStays
exact_stays i set l j v a m r c region_out card_out = stays_exact i set l j (built i.heap v) a m r c region_out card_out
