-- Survivors move, and nothing else does: what a slot's word is patched to.
use Rattle.std.proofs.Common.{◌≡◌, ◌≢◌, ℕ, zero, suc, ◌+◌, ◌-◌, ◌*◌, ◌<◌, ◌≤◌, Bool, true, false, cond, List, [], ◌∷◌, length, slice_index, map, filter, Contains, arith, refl, sym, ap}
use Rattle.std.proofs.Common.{subst, ◌∙◌}
use Rattle.std.proofs.Math.Nat.{div-lt_iff_lt-mul}
use Rattle.g1_words.specs.declared.region.Kind.TheVariants.{Free, Ordinary}
use Rattle.g1_words.specs.Heap.{Heap, kind, region_of, word}
use Rattle.g1_words.specs.Layout.{forward, free_regions, moved_to, need}
use Rattle.g1_words.specs.Lists.{has}
use Rattle.g1_words.specs.References.{named}
use Rattle.g1_words.specs.Valid.{IsValid}
use Rattle.g1_words.proofs.Indices.{is_free_region, taken_in, not_has}
use Rattle.g1_words.proofs.Lists.{all_in}
use Rattle.g1_words.proofs.Members.{has_from_contains, Contains-from_has}
use Rattle.g1_words.proofs.OneToOne.{moved_stays}
use Rattle.g1_words.proofs.Sound.{w_positive}
use Rattle.g1_layout.specs.Placed.{CanPlace}
use Rattle.g1_layout.specs.Plan.{Plan}
use Rattle.g1_layout.proofs.Stretches.{within_region}
use Rattle.g1_copy.specs.Plans.{IsPlanOf}
use Rattle.g1_copy.specs.Patches.{patch, patch_at}

module _ (h : Heap) (set l : List ℕ) (valid : IsValid h) (can : CanPlace h set l) (room : need h l ≤ length (free_regions h)) where
  -- a survivor goes into a free region
  place_free : (a : ℕ) → Contains l a → (kind h (region_of h (forward h l a)) ≡ Free) × (region_of h (forward h l a) < h.geometry.n)
  place_free a i =
      let there = (within_region h set l valid can room a i).0 in
      is_free_region h (region_of h (forward h l a)) (taken_in (need h l) (free_regions h) (region_of h (forward h l a)) there)

  -- so it moves
  survivor_moves : (a : ℕ) → Contains l a → forward h l a ≢ a
  survivor_moves a i e =
      let here : kind h (region_of h a) ≡ Free = subst (λ x. kind h (region_of h x) ≡ Free) e (place_free a i).0 in
      let home : kind h (region_of h a) ≡ Ordinary = can.ordinary (region_of h a) (all_in (λ x. Contains set (region_of h x)) l a can.in_set i) in
      let clash : Ordinary ≡ Free = sym home ∙ here in
      cc

  -- its place is one of the heap's words
  pub place_in_heap : (a : ℕ) → Contains l a → forward h l a < h.geometry.n * h.geometry.w
  place_in_heap a i = (div-lt_iff_lt-mul (w_positive h valid)).0 (place_free a i).1

-- the patch of a slot that names an address
patch_named : (h : Heap) (l : List ℕ) (p a : ℕ) (b : Bool) → word h p ≡ suc a → has l a ≡ b → patch_at h l p ≡ cond b ((p, suc (forward h l a)) ∷ []) []
patch_named h l p a b e f =
    ap (λ x. map (patch h l) (filter (λ e. has l e.target) (map (λ a. record { slot = p; target = a }) (named x)))) e ∙ found b f
  where
    found : (b : Bool) → has l a ≡ b → map (patch h l) (filter (λ e. has l e.target) (record { slot = p; target = a } ∷ [])) ≡ cond b ((p, suc (forward h l a)) ∷ []) []
    found true t = rw t refl
    found false t = rw t refl

-- a null slot has none
pub patch_null : (h : Heap) (l : List ℕ) (p : ℕ) (words : List ℕ) → words ≡ h.words → slice_index words p ≡ 0 → patch_at h l p ≡ []
patch_null h l p words at e =
    let null : word h p ≡ 0 = ap (λ ws. slice_index ws p) (sym at) ∙ e in
    ap (λ x. map (patch h l) (filter (λ e. has l e.target) (map (λ a. record { slot = p; target = a }) (named x)))) null

module _ (h : Heap) (plan : Plan) (valid : IsValid h) (made : IsPlanOf h plan) (p x place : ℕ) (words : List ℕ) (at : words ≡ h.words) (read : x ≡ slice_index words p) (some : x ≡ 0 → ⊥)
    (goes : place ≡ moved_to plan.survivors plan.places (x - 1)) where
  -- the slot names an address
  names : word h p ≡ suc (x - 1)
  names =
      let e : word h p ≡ x = ap (λ ws. slice_index ws p) (sym at) ∙ sym read in
      let f : x ≡ suc (x - 1) = positive x some in
      e ∙ f
    where
      positive : (x : ℕ) → (x ≡ 0 → ⊥) → x ≡ suc (x - 1)
      positive zero f = absurd (f refl)
      positive (suc y) f = omega arith

  -- and the plan tells where it goes
  told : place ≡ forward h plan.survivors (x - 1)
  told = goes ∙ ap (λ ps. moved_to plan.survivors ps (x - 1)) (ap (λ (q : Plan). q.places) made.plan)

  -- what moves is a survivor
  moved_is : place ≢ x - 1 → has plan.survivors (x - 1) ≡ true
  moved_is differ = by (has plan.survivors (x - 1)) refl
    where
      by : (b : Bool) → has plan.survivors (x - 1) ≡ b → has plan.survivors (x - 1) ≡ true
      by true e = e
      by false e = absurd (differ (told ∙ moved_stays plan.survivors _ (x - 1) (λ i. let t = has_from_contains plan.survivors (x - 1) i in let clash : true ≡ false = sym t ∙ e in cc)))

  -- where it moves, its slot is patched
  pub patch_moved : place ≢ x - 1 → patch_at h plan.survivors p ≡ (p, place + 1) ∷ []
  patch_moved differ =
      let value : suc (forward h plan.survivors (x - 1)) ≡ place + 1 = ap (λ z. suc z) (sym told) ∙ (let e : suc place ≡ place + 1 = omega arith in e) in
      patch_named h plan.survivors p (x - 1) true names (moved_is differ) ∙ ap (λ z. (p, z) ∷ []) value

  -- to one of the heap's words
  pub place_below : place ≢ x - 1 → place < h.geometry.n * h.geometry.w
  place_below differ =
      subst (λ z. z < h.geometry.n * h.geometry.w) (sym told)
      (place_in_heap h plan.set plan.survivors valid made.placeable made.room (x - 1) (Contains-from_has plan.survivors (x - 1) (moved_is differ)))

  -- where it stays, it isn't
  pub patch_still : place ≡ x - 1 → patch_at h plan.survivors p ≡ []
  patch_still same = patch_named h plan.survivors p (x - 1) false names
      (not_has plan.survivors (x - 1) (λ i. survivor_moves h plan.set plan.survivors valid made.placeable made.room (x - 1) i (sym told ∙ same)))
