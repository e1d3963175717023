-- A reference is a slot of an object that names another, and each such slot is a reference.
use Rattle.std.proofs.Common.{◌≡◌, ℕ, suc, ◌+◌, ◌-◌, ◌<◌, ◌≤◌, true, false, ◌&&◌, not, flat_map, refl, sym, ◌∙◌, ap, subst, arith, eqb, eqb-true, Contains, zero}
use Rattle.std.proofs.lemmas.Bool.{and_parts, not-true}
use Rattle.g1_image.specs.Cards.{leads_into}
use Rattle.g1_image.specs.Image.{region_of_card}
use Rattle.g1_words.proofs.Bounds.{card_in_region, cards_in_region}
use Rattle.g1_words.proofs.Computed.{Contains-range}
use Rattle.g1_words.proofs.Indices.{range_bounds}
use Rattle.g1_words.proofs.Members.{Contains-flat_map, Contains-map, flat_map_cases, map_cases}
use Rattle.g1_words.proofs.Shapes.{IsBuilt}
use Rattle.g1_words.proofs.Sound.{named_suc}
use Rattle.g1_words.proofs.Standing.{card_positive}
use Rattle.g1_words.specs.Heap.{Heap, card_of, objects, region_of, slots, word}
use Rattle.g1_words.specs.References.{Ref, named, refs, refs_at}
use Rattle.g1_words.specs.declared.object.Object.{Object}

-- the reference is slot number m of one of the heap's objects
pub record SlotOf (h : Heap) (e : Ref) : Type 0 where
  pub owner : Object
  pub is_one : Contains (objects h) owner
  pub m : ℕ
  pub above : 0 < m
  pub within : m ≤ owner.refs
  pub at : e.slot ≡ owner.at + m
  pub names : word h e.slot ≡ suc e.target

-- whose slot a reference is
pub slot_of : (h : Heap) (e : Ref) → Contains (refs h) e → SlotOf h e
slot_of h e c =
    let o = flat_map_cases (λ o. flat_map (refs_at h) (slots o)) (objects h) e c in
    let p = flat_map_cases (refs_at h) (slots o.0) e o.2 in
    let q = map_cases (λ a. record { slot = p.0; target = a }) (named (word h p.0)) e p.2 in
    let slot : p.0 ≡ e.slot = ap (λ (x : Ref). x.slot) q.2 in
    let goal : q.0 ≡ e.target = ap (λ (x : Ref). x.target) q.2 in
    let b = range_bounds (o.0.at + 1) o.0.refs p.0 p.1 in
    record {
      owner = o.0;
      is_one = o.1;
      m = e.slot - o.0.at;
      above = omega arith;
      within = omega arith;
      at = omega arith;
      names = ap (word h) (sym slot) ∙ named_suc (word h p.0) q.0 q.1 ∙ ap suc goal;
    }

-- a slot of an object that names an address is a reference
pub ref_of : (h : Heap) (e : Ref) → SlotOf h e → Contains (refs h) e
ref_of h e s =
    let a = s.above in let b = s.within in let at = s.at in
    let k : Contains (refs_at h e.slot) e = Contains-map (λ a. record { slot = e.slot; target = a }) (named (word h e.slot)) e.target (subst (λ x. Contains (named x) e.target) (sym s.names) (zero, omega arith, refl)) in
    Contains-flat_map (λ o. flat_map (refs_at h) (slots o)) (objects h) s.owner e s.is_one
    (Contains-flat_map (refs_at h) (slots s.owner) e.slot e (Contains-range (s.owner.at + 1) s.owner.refs e.slot (omega arith) (omega arith)) k)

-- a slot's card lies in the slot's region
pub region_of_slot : (h : Heap) → IsBuilt h → (p : ℕ) → region_of_card h (card_of h p) ≡ region_of h p
region_of_slot h valid p =
    let d = cards_in_region h.geometry.w h.geometry.k h.geometry.n valid.limits in
    card_in_region h.geometry.w h.geometry.k d.0 p (card_positive h.geometry.w h.geometry.k h.geometry.n valid.limits) d.1

-- what a reference is by which a card is exact for a region
pub exact_parts : (h : Heap) (r c : ℕ) (e : Ref) → (leads_into h r e && eqb (card_of h e.slot) c) ≡ true
    → (region_of h e.target ≡ r) × (eqb (region_of h e.slot) r ≡ false) × (card_of h e.slot ≡ c)
exact_parts h r c e t =
    let a = and_parts (leads_into h r e) (eqb (card_of h e.slot) c) t in
    let b = and_parts (eqb (region_of h e.target) r) (not (eqb (region_of h e.slot) r)) a.0 in
    (eqb-true (region_of h e.target) r b.0, not-true (eqb (region_of h e.slot) r) b.1, eqb-true (card_of h e.slot) c a.1)
