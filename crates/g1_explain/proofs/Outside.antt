-- What keeps a humongous object that no root leads to, and what leads nowhere.
use Rattle.std.proofs.Common.{◌≡◌, ◌≢◌, ℕ, ◌<◌, ◌≤◌, Bool, true, false, not, ◌&&◌, List, [], ◌∷◌, ◌++◌, map, filter, get_or, Contains, refl, sym, ◌∙◌, ap, subst, arith, eqb, eqb-true, zero}
use Rattle.std.specs.Prelude.{Option}
use Rattle.std.proofs.lemmas.Bool.{false≢true, and_parts}
use Rattle.std.proofs.lemmas.List.{get_or_past}
use Rattle.g1_words.specs.declared.region.Region.{Region}
use Rattle.g1_words.specs.declared.region.Kind.TheVariants.{Free}
use Rattle.g1_words.specs.Heap.{Heap, kind, start, region_of, card_of, free_region, objects, object_at, is_first}
use Rattle.g1_words.specs.Lists.{has}
use Rattle.g1_words.specs.References.{Ref, refs}
use Rattle.g1_words.specs.Live.{Live}
use Rattle.g1_words.specs.Survivors.{in_set}
use Rattle.g1_words.specs.Valid.{IsValid}
use Rattle.g1_words.proofs.Computed.{contains_has}
use Rattle.g1_words.proofs.Members.{filter_member}
use Rattle.g1_words.proofs.Objects.{object_stands}
use Rattle.g1_words.proofs.OneToOne.{reached_object}
use Rattle.g1_words.proofs.Sound.{sound}
use Rattle.g1_image.specs.Image.{Image}
use Rattle.g1_image.specs.Cards.{exact, is_exact, is_covered, leads_into}
use Rattle.g1_explain.specs.declared.finder.Finder.{Finder}
use Rattle.g1_explain.specs.declared.finder.Finder.TheVariants.{Card, Object as Slot}
use Rattle.g1_explain.specs.declared.humongous.Keeper.TheVariants.{By}
use Rattle.g1_explain.specs.declared.paths.Leg.{Leg}
use Rattle.g1_explain.specs.declared.paths.Reason.TheVariants as reason
use Rattle.g1_explain.specs.Finders.{Lead, slot_leads}
use Rattle.g1_explain.specs.Humongous.{run}
use Rattle.g1_explain.specs.Keepers.{first_keeper, kept_by, leads_on}
use Rattle.g1_explain.specs.Keeping.{leg, AreLegs, root, card, slot, IsReason, IsLarge, StartsAtSlot, outside_leads}
use Rattle.g1_explain.proofs.FirstKeepers.{at_start, on_these_cards}
use Rattle.g1_explain.proofs.Kept.{live_root, live_slot}
use Rattle.g1_explain.proofs.Keepers.{not_by}
use Rattle.g1_explain.proofs.LeadOrder.{slot_tells}
use Rattle.g1_explain.proofs.Searched.{exact_leads_in}

-- ---- legs to an object that no root leads to

-- they start at a slot
pub starts_at_slot : (h : Heap) (legs : List Leg) (a : ℕ) → AreLegs h legs a → (Live h a → ⊥) → StartsAtSlot h legs
starts_at_slot h legs a (root k b lt w) dead = absurd (dead (live_root h k b lt w))
starts_at_slot h legs a (card p b there) dead = record { slot = p; target = b; rest = []; first = refl; there = (b, there) }
starts_at_slot h legs a (slot ls m b s c l fit w) dead =
    let r = starts_at_slot h ls b l (λ live. dead (live_slot h b s c live fit w)) in
    record { slot = r.slot; target = r.target; rest = r.rest ++ leg h (Slot m b s) c ∷ []; first = ap (λ (l : List Leg). l ++ leg h (Slot m b s) c ∷ []) r.first; there = r.there }

-- ---- a humongous object

no_members : {A : Type 0} (xs : List A) → ((x : A) → Contains xs x → ⊥) → xs ≡ []
no_members [] none = refl
no_members (x ∷ xs) none = absurd (none x (zero, omega arith, refl))

-- a slot outside a humongous object that references it
pub record IsOutsideSlot (h : Heap) (a : ℕ) (f : Finder) : Type 0 where
  pub slot : ℕ
  pub finder : f ≡ Card (card_of h slot) slot
  pub there : Contains (refs h) (record { slot = slot; target = a })
  pub outside : in_set h (run h (region_of h a)) slot ≡ false

module _ (h : Heap) (valid : IsValid h) (a r : ℕ) (home : r ≡ region_of h a) where
  outside_tells : (l : Lead) → Contains (outside_leads h a) l → IsOutsideSlot h a l.finder
  outside_tells l k =
      let m = filter_member (λ (l : Lead). eqb l.target a) (slot_leads h (run h (region_of h a))) l k in
      let t = slot_tells h (run h (region_of h a)) l m.0 in
      let to : t.ref.target ≡ a = sym t.target ∙ eqb-true l.target a m.1 in
      record {
        slot = t.ref.slot;
        finder = t.finder;
        there = subst (λ z. Contains (refs h) (record { slot = t.ref.slot; target = z })) to t.there;
        outside = t.outside;
      }

  -- the first one of them
  pub first_outside : (ls : List Lead) (f : Finder) → outside_leads h a ≡ ls → By f ≡ first_keeper ls → IsOutsideSlot h a f
  first_outside [] f e k = absurd (not_by f (sym k))
  first_outside (l ∷ ls) f e k =
      let same : l.finder ≡ f = finder_of l.finder f k in
      subst (IsOutsideSlot h a) same (outside_tells l (subst (λ xs. Contains xs l) (sym e) (zero, omega arith, refl)))
    where
      finder_of : (g f : Finder) → By f ≡ By g → g ≡ f
      finder_of g f e = cc

  -- where no object starts, nothing is referenced
  pub none_outside : IsLarge h a → a ≢ start h r → outside_leads h a ≡ []
  none_outside large other =
      no_members (outside_leads h a) (λ l k.
      let t = outside_tells l k in
      let object : Contains (objects h) (object_at h a) = (sound h valid).slot_named (record { slot = t.slot; target = a }) t.there in
      other (at_start h valid r (subst (λ q. is_first (kind h q) ≡ true) (sym home) large) a object (sym home)))

  -- the cards that lead in tell what keeps it
  pub keeper_outside : (marks : List Bool) (cards : List ℕ) (f : Option Finder) → r < h.geometry.n → IsLarge h a → a ≡ start h r → ((q : ℕ) → get_or marks q false ≡ has [] q) → cards ≡ exact h r
      → kept_by f ≡ first_keeper (leads_on h marks r cards) → kept_by f ≡ first_keeper (outside_leads h a)
  keeper_outside marks cards f lt large at none are k =
      k ∙ ap (λ cs. first_keeper (leads_on h marks r cs)) are
      ∙ ap first_keeper (on_these_cards h valid [] marks none r lt (subst (λ q. is_first (kind h q) ≡ true) (sym home) large) (is_exact h r) (exact_leads_in h valid r))
      ∙ ap first_keeper ((λ t. filter (λ (l : Lead). eqb l.target (sym at t)) (slot_leads h (run h (home t)))))

-- ---- an address get_or_past the heap

module _ (i : Image) (valid : IsValid i.heap) (a : ℕ) (beyond : i.heap.geometry.n ≤ region_of i.heap a) (dead : Live i.heap a → ⊥) where
  abbrev h : Heap
  h = i.heap

  -- no object starts there
  below : (b : ℕ) → Contains (objects h) (object_at h b) → region_of h b ≡ region_of h a → ⊥
  below b c e =
      let s = object_stands h (object_at h b) (region_of h b) valid (contains_has h (object_at h b) valid.shaped c) refl in
      let lt : region_of h b < h.geometry.n = s.0 in
      absurd (omega (arith, lt, e, beyond))

  free : kind h (region_of h a) ≡ Free
  free = ap (λ (q : Region). q.kind) (get_or_past h.regions (region_of h a) free_region (omega (arith, valid.region_count, beyond)))

  -- so nothing keeps it
  pub beyond_reason : IsReason i a reason.Garbage
  beyond_reason = (
    record {
      dead = dead;
      covered = ap (map (λ (e : Ref). e.slot)) (no_members (filter (λ (e : Ref). leads_into h (region_of h a) e && not (is_covered i e)) (refs h)) (λ e k.
          let m = filter_member (λ (e : Ref). leads_into h (region_of h a) e && not (is_covered i e)) (refs h) e k in
          let t = and_parts (leads_into h (region_of h a) e) (not (is_covered i e)) m.1 in
          let u = and_parts (eqb (region_of h e.target) (region_of h a)) (not (eqb (region_of h e.slot) (region_of h a))) t.0 in
          below e.target ((sound h valid).slot_named e m.0) (eqb-true (region_of h e.target) (region_of h a) u.0)));
    },
    (λ plain alone. below a (reached_object h (region_of h a ∷ []) (sound h valid) a alone) refl),
    (λ large. absurd (false≢true (ap is_first (sym free) ∙ large))),
  )
