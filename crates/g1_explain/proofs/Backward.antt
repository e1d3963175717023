-- Each object is found from a root, from a slot outside, or from an object that was found before it.
use Rattle.std.proofs.Common.{◌≡◌, ℕ, suc, ◌+◌, ◌-◌, ◌<◌, ◌≤◌, ◌⊎◌, inl, inr, true, List, [], ◌++◌, length, slice_index, Contains, sym, ◌∙◌, ap, subst, arith, append-nil, refl}
use Rattle.std.proofs.lemmas.Bool.{cases_eq, cases_lt}
use Rattle.std.proofs.lemmas.List.Elements.{Contains-append_cases, Contains-append_left, Contains-get_or}
use Rattle.g1_words.specs.Heap.{Heap, word, object_at, slots}
use Rattle.g1_words.specs.Live.{Reached, seed, child}
use Rattle.g1_words.specs.References.{Ref, refs, named, targets}
use Rattle.g1_words.specs.Survivors.{in_set, seeds, children}
use Rattle.g1_words.specs.Valid.{IsValid}
use Rattle.g1_words.proofs.Members.{filter_member, flat_map_cases, map_cases}
use Rattle.g1_words.proofs.Ordered.{Ordered}
use Rattle.g1_words.proofs.Sound.{named_is}
use Rattle.g1_rem.proofs.Order.{slot_in}
use Rattle.g1_explain.specs.declared.finder.Finder.{Finder}
use Rattle.g1_explain.specs.declared.finder.Finder.TheVariants.{Root, Card, Object as Slot}
use Rattle.g1_explain.specs.Finders.{Lead, root_leads, slot_leads, leads, first_leads}
use Rattle.g1_explain.specs.Searched.{AreMet, AreEnough, IsSearch, finder_at, before}
use Rattle.g1_explain.proofs.FirstLeads.{targets_of}
use Rattle.g1_explain.proofs.Targets.{lead_seeds, searched}
use Rattle.g1_explain.proofs.LeadOrder.{Earlier, IsEarlierLead, in_order}
use Rattle.g1_explain.proofs.AllMet.{all_finders, all_met, inside, met_first, finder_more}
use Rattle.g1_explain.proofs.FirstPath.{places_apart, fs_count, found_once, earlier, place_of, in_leads, in_all, in_found, seed_of}

-- what a search meets later comes from no earlier object
rises : (f g : Finder) → Earlier f g → before f ≤ before g
rises (Root k) g e = omega arith
rises (Card c p) g e = omega arith
rises (Slot i a s) (Root m) e = absurd e
rises (Slot i a s) (Card d q) e = absurd e
rises (Slot i a s) (Slot j b t) (inl e) = omega (arith, e)
rises (Slot i a s) (Slot j b t) (inr e) = omega (arith, e.0)

rises_or : (f g : Finder) → (f ≡ g) ⊎ Earlier f g → before f ≤ before g
rises_or f g (inl e) = let z : before f ≡ before g = ap before e in omega (arith, z)
rises_or f g (inr e) = rises f g e

module _ (h : Heap) (set cards found : List ℕ) (valid : IsValid h) (s : IsSearch h set cards found) where
  abbrev at : ℕ → Finder
  at j = finder_at (all_finders h set found) j

  is : found ≡ targets_of (first_leads (leads h set found))
  is = searched h set found s.survivors

  ordered : Ordered IsEarlierLead (leads h set found)
  ordered = in_order h set valid found

  within : (a : ℕ) → Contains found a → in_set h set a ≡ true
  within = inside h set cards found valid s.rising s.outside s.lead_in s.survivors

  room : (e : Ref) → Contains (refs h) e → in_set h set e.slot ≡ Rattle.std.proofs.Common.false → in_set h set e.target ≡ true → length h.roots ≤ length h.roots
  room e i out into = omega arith

  -- a place before another one
  pub record IsPlaced (j a : ℕ) : Type 0 where
    pub place : ℕ
    pub below : place < j
    pub there : slice_index found place ≡ a

  -- where an object was found from one behind, references from before it lead to places before it
  stays : (j : ℕ) → j < length found → j < before (at j) → (l : Lead) → Contains (leads h set found) l → before l.finder ≤ j → IsPlaced j l.target
  stays j lt up l i le =
      let p = place_of h set found (length h.roots) is ordered within room l i in
      elim (cases_lt p.0 j) [
        | inl less ↦ record { place = p.0; below = less; there = p.1.target }
        | inr ge ↦
            let a : before (at p.0) ≤ before l.finder = rises_or (at p.0) l.finder p.1.first in
            let b : before (at j) ≤ before (at p.0) = elim (cases_eq j p.0) [
              | inl e ↦ rises_or (at j) (at p.0) (inl (ap at e))
              | inr d ↦ rises (at j) (at p.0) (earlier h set found (length h.roots) is ordered within room j p.0 (less_of j p.0 ge d) p.1.within)
            ] in
            absurd (omega (arith, a, b, up, le))
      ]
    where
      less_of : (j p : ℕ) → j ≤ p → (j ≡ p → ⊥) → j < p
      less_of j p le d = elim (cases_lt j p) [ inl lt ↦ lt | inr ge ↦ absurd (d (omega (arith, le, ge))) ]

  -- a reference that leads to an object, from an object of this rank
  pub record IsLed (n a : ℕ) : Type 0 where
    pub lead : Lead
    pub listed : Contains (leads h set found) lead
    pub from : before lead.finder ≡ n
    pub to : lead.target ≡ a

  seed_lead : (a : ℕ) → Contains (seeds h set) a → IsLed 0 a
  seed_lead a k =
      let i : Contains (seeds h set ++ []) a = Contains-append_left (seeds h set) [] a k in
      let m = map_cases (λ (l : Lead). l.target) (leads h set []) a (subst (λ xs. Contains xs a) (sym (lead_seeds h set [])) i) in
      let t = filter_member (λ (l : Lead). in_set h set l.target) (root_leads h ++ (slot_leads h set ++ [])) m.0 m.1 in
      let either : Contains (root_leads h) m.0 ⊎ Contains (slot_leads h set) m.0 = elim (Contains-append_cases (root_leads h) (slot_leads h set ++ []) m.0 t.0) [
        | inl x ↦ inl x
        | inr x ↦ inr (subst (λ xs. Contains xs m.0) (append-nil (slot_leads h set)) x)
      ] in
      record {
        lead = m.0;
        listed = in_leads h set found (length h.roots) is ordered within room m.0 (in_all h set found (length h.roots) is ordered within room m.0 either) t.1;
        from = seed_of h set found (length h.roots) is ordered within room m.0 either;
        to = m.2;
      }

  child_lead : (m b a : ℕ) → m < length found → slice_index found m ≡ b → Contains (children h set b) a → IsLed (suc m) a
  child_lead m b a lt e k =
      let t = filter_member (in_set h set) (targets h b) a k in
      let q = flat_map_cases (λ p. named (word h p)) (slots (object_at h b)) a t.0 in
      let at_slot = slot_in (object_at h b) q.0 q.1 in
      let n : ℕ = q.0 - (b + 1) in
      let same : q.0 ≡ b + 1 + n = omega (arith, at_slot.0) in
      let w : word h (b + 1 + n) ≡ suc a = ap (word h) (sym same) ∙ (let z = named_is (word h q.0) a q.2 in omega (arith, z)) in
      let l : Lead = record { finder = Slot m b n; target = a } in
      record {
        lead = l;
        listed = in_leads h set found (length h.roots) is ordered within room l (in_found h set found (length h.roots) is ordered within room m b n a lt e (omega (arith, at_slot.0, at_slot.1)) w) t.1;
        from = Rattle.std.proofs.Common.refl;
        to = Rattle.std.proofs.Common.refl;
      }

  reached : (j : ℕ) → j < length found → j < before (at j) → (a : ℕ) → Reached (seeds h set) (children h set) a → IsPlaced j a
  reached j lt up a (seed k) =
      let l = seed_lead a k in
      subst (IsPlaced j) l.to (stays j lt up l.lead l.listed (omega (arith, l.from)))
  reached j lt up b (child {a = a} r k) =
      let u = reached j lt up a r in
      let l = child_lead u.place a b (omega (arith, u.below, lt)) u.there k in
      subst (IsPlaced j) l.to (stays j lt up l.lead l.listed (omega (arith, l.from, u.below)))

  backward : (j : ℕ) → j < length found → before (at j) ≤ j
  backward j lt = elim (cases_lt j (before (at j))) [
    | inl up ↦
        let a : ℕ = slice_index found j in
        let u = reached j lt up a ((s.survivors.reached a).0 (Contains-get_or found j 0 lt)) in
        let same : u.place ≡ j = places_apart found (found_once h set found (length h.roots) is ordered within room) u.place j (omega (arith, u.below, lt)) lt u.there in
        absurd (omega (arith, u.below, same))
    | inr le ↦ le
  ]

  -- EACH OBJECT IS FOUND from one before it
  pub goes_back : (fs : List Finder) → AreMet h cards found fs → (j : ℕ) → j < length fs → j < length found → before (finder_at fs j) ≤ j
  goes_back fs are j lt there =
      let t = met_first h set cards found valid s.rising s.outside s.lead_in s.survivors fs are in
      let e : at j ≡ finder_at fs j = ap (λ l. finder_at l j) t.1 ∙ finder_more fs t.0 j lt in
      let z : before (at j) ≡ before (finder_at fs j) = ap before e in
      let b = backward j there in
      omega (arith, b, z)

  -- as many finders are met as are wanted
  pub enough : (fs : List Finder) (wanted : ℕ) → wanted ≤ length found → AreEnough h cards found wanted fs → wanted ≤ length fs
  enough fs wanted le (inl l) = l
  enough fs wanted le (inr e) =
      let all : length fs ≡ length (all_finders h set found) = ap length (e ∙ all_met h set cards found valid s.rising s.outside s.lead_in s.survivors) in
      let count = fs_count h set found (length h.roots) is ordered within room in
      omega (arith, all, le, count)
