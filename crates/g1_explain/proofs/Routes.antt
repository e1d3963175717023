-- The legs of a route, and the paths that they have.
use Rattle.std.proofs.Common.{◌≡◌, ℕ, suc, ◌+◌, ◌<◌, inl, inr, false, List, [], ◌∷◌, ◌++◌, length, slice_index, refl, sym, ◌∙◌, ap, subst, arith, Contains}
use Rattle.std.proofs.lemmas.List.Elements.{Contains-append_cases, Contains-get_or}
use Rattle.g1_words.specs.Heap.{Heap, word, card_of, object_at}
use Rattle.g1_words.specs.References.{Ref, refs}
use Rattle.g1_words.specs.Survivors.{in_set}
use Rattle.g1_words.proofs.Members.{filter_member}
use Rattle.g1_explain.specs.declared.finder.Finder.{Finder}
use Rattle.g1_explain.specs.declared.finder.Finder.TheVariants.{Root, Card, Object as Slot}
use Rattle.g1_explain.specs.declared.paths.Leg.{Leg}
use Rattle.g1_explain.specs.Finders.{Lead, root_leads, slot_leads, found_leads, leads, first_leads}
use Rattle.g1_explain.specs.Searched.{finder_at, before, IsRoute, none, leg}
use Rattle.g1_explain.specs.Keeping.{AreLegs}
use Rattle.g1_explain.specs.Keeping as keeping
use Rattle.g1_explain.proofs.FirstLeads.{targets_of, first_member}
use Rattle.g1_explain.proofs.LeadOrder.{lead_at, root_tells, slot_tells, found_tells}
use Rattle.g1_explain.proofs.AllMet.{all_finders}

pub no_route : (h : Heap) (found : List ℕ) (fs : List Finder) (n : ℕ) (legs : List Leg) → n ≡ 0 → IsRoute h found fs n legs → legs ≡ []
no_route h found fs n legs e none = refl
no_route h found fs n legs e (leg j ls lt within r) = absurd (omega (arith, e))

-- what leads to the object at a place: a root, a slot outside, or a slot of an object before it
pub data IsLedTo (h : Heap) (set found : List ℕ) (f : Finder) (a : ℕ) : Type 0 where
  by_root : (k : ℕ) → f ≡ Root k → k < length h.roots → slice_index h.roots k ≡ suc a → IsLedTo h set found f a
  by_card : (e : Ref) → f ≡ Card (card_of h e.slot) e.slot → Contains (refs h) e → in_set h set e.slot ≡ false → e.target ≡ a → IsLedTo h set found f a
  by_slot : (m s : ℕ) → f ≡ Slot m (slice_index found m) s → m < length found → s < (object_at h (slice_index found m)).refs
      → word h (slice_index found m + 1 + s) ≡ suc a → IsLedTo h set found f a

module _ (h : Heap) (set found : List ℕ) (searched : found ≡ targets_of (first_leads (leads h set found))) where
  pub led_by : (l : Lead) → Contains (leads h set found) l → IsLedTo h set found l.finder l.target
  led_by l k =
      let t = filter_member (λ (l : Lead). in_set h set l.target) (root_leads h ++ (slot_leads h set ++ found_leads h found (length found))) l k in
      elim (Contains-append_cases (root_leads h) (slot_leads h set ++ found_leads h found (length found)) l t.0) [
        | inl i ↦ let r = root_tells h set l i in by_root r.number r.finder r.below r.reads
        | inr i ↦ elim (Contains-append_cases (slot_leads h set) (found_leads h found (length found)) l i) [
          | inl j ↦ let r = slot_tells h set l j in by_card r.ref r.finder r.there r.outside (sym r.target)
          | inr j ↦ let r = found_tells h set found (length found) l j in by_slot r.place r.number r.finder r.below r.fits r.reads
        ]
      ]

  pub count_is : length (first_leads (leads h set found)) ≡ length found
  count_is = sym (Rattle.std.proofs.lemmas.List.length-map (first_leads (leads h set found)) (λ (l : Lead). l.target)) ∙ sym (ap length searched)

  pub led_to : (j : ℕ) → j < length found → IsLedTo h set found (finder_at (all_finders h set found) j) (slice_index found j)
  led_to j lt =
      let r = lead_at (first_leads (leads h set found)) j (omega (arith, lt, count_is)) in
      let t : slice_index found j ≡ r.0.target = ap (λ xs. slice_index xs j) searched ∙ r.1.target in
      subst (λ a. IsLedTo h set found (finder_at (all_finders h set found) j) a) (sym t)
      (subst (λ f. IsLedTo h set found f r.0.target) (sym r.1.finder) (led_by r.0 (first_member (leads h set found) r.0 r.1.there)))

  -- what holds of each leg by the one before it holds of all legs of a route
  module _ (P : List Leg → ℕ → Type 0)
      (root : (k a : ℕ) → k < length h.roots → slice_index h.roots k ≡ suc a → P (keeping.leg h (Root k) a ∷ []) a)
      (card : (e : Ref) → Contains (refs h) e → in_set h set e.slot ≡ false → P (keeping.leg h (Card (card_of h e.slot) e.slot) e.target ∷ []) e.target)
      (slot : (legs : List Leg) (m b s a : ℕ) → P legs b → Contains found b → s < (object_at h b).refs → word h (b + 1 + s) ≡ suc a → P (legs ++ keeping.leg h (Slot m b s) a ∷ []) a) where
    step : (f : Finder) (a : ℕ) (legs : List Leg) → IsLedTo h set found f a → IsRoute h found (all_finders h set found) (before f) legs
        → ((m : ℕ) → before f ≡ suc m → P legs (slice_index found m)) → P (legs ++ keeping.leg h f a ∷ []) a
    step f a legs (by_root k e lt w) r sub =
        let start : legs ≡ [] = no_route h found (all_finders h set found) (before f) legs (ap before e) r in
        subst (λ l. P (l ++ keeping.leg h f a ∷ []) a) (sym start) (subst (λ g. P (keeping.leg h g a ∷ []) a) (sym e) (root k a lt w))
    step f a legs (by_card e is i out t) r sub =
        let start : legs ≡ [] = no_route h found (all_finders h set found) (before f) legs (ap before is) r in
        subst (λ l. P (l ++ keeping.leg h f a ∷ []) a) (sym start)
        (subst (λ g. P (keeping.leg h g a ∷ []) a) (sym is) (subst (λ b. P (keeping.leg h (Card (card_of h e.slot) e.slot) b ∷ []) b) t (card e i out)))
    step f a legs (by_slot m s e lt fit w) r sub =
        subst (λ g. P (legs ++ keeping.leg h g a ∷ []) a) (sym e)
        (slot legs m (slice_index found m) s a (sub m (ap before e)) (Contains-get_or found m 0 lt) fit w)

    by_from : (n : ℕ) (legs : List Leg) → IsRoute h found (all_finders h set found) n legs → (j : ℕ) → n ≡ suc j → P legs (slice_index found j)
    by_from n legs none j e = absurd (omega (arith, e))
    by_from n legs (leg i ls lt within r) j e =
        let same : i ≡ j = omega (arith, e) in
        subst (λ z. P (ls ++ keeping.leg h (finder_at (all_finders h set found) i) (slice_index found i) ∷ []) (slice_index found z)) same
        (step (finder_at (all_finders h set found) i) (slice_index found i) ls (led_to i within) r (λ m d. by_from (before (finder_at (all_finders h set found) i)) ls r m d))

    pub all_legs : (j : ℕ) (legs : List Leg) → IsRoute h found (all_finders h set found) (suc j) legs → P legs (slice_index found j)
    all_legs j legs r = by_from (suc j) legs r j refl

  -- the legs of a route lead to its object
  pub route_legs : (j : ℕ) (legs : List Leg) → IsRoute h found (all_finders h set found) (suc j) legs → AreLegs h legs (slice_index found j)
  route_legs =
      all_legs (AreLegs h) (λ k a lt w. keeping.root k a lt w) (λ e i out. keeping.card e.slot e.target i)
      (λ legs m b s a l i fit w. keeping.slot legs m b s a l fit w)

-- a place has one route
pub route_one : (h : Heap) (found : List ℕ) (fs : List Finder) (n : ℕ) (p q : List Leg) → IsRoute h found fs n p → IsRoute h found fs n q → p ≡ q
route_one h found fs n p q none r = sym (no_route h found fs 0 q refl r)
route_one h found fs n p q (leg j a lt within r) s = again j a (λ b t. route_one h found fs (before (finder_at fs j)) a b r t) n q s refl
  where
    again : (j : ℕ) (a : List Leg) → ((b : List Leg) → IsRoute h found fs (before (finder_at fs j)) b → a ≡ b) → (n : ℕ) (q : List Leg) → IsRoute h found fs n q → n ≡ suc j
        → a ++ record { object = object_at h (slice_index found j); finder = finder_at fs j } ∷ [] ≡ q
    again j a rest n q none e = absurd (omega (arith, e))
    again j a rest n q (leg i b gt inside s) e =
        let same : i ≡ j = omega (arith, e) in
        let one : a ≡ b = rest b (subst (λ z. IsRoute h found fs (before (finder_at fs z)) b) same s) in
        ap (λ l. l ++ record { object = object_at h (slice_index found j); finder = finder_at fs j } ∷ []) one
        ∙ ap (λ z. b ++ record { object = object_at h (slice_index found z); finder = finder_at fs z } ∷ []) (sym same)
