-- The route of an object by the first references is its first path.
use Rattle.std.proofs.Common.{◌≡◌, ℕ, zero, suc, ◌+◌, ◌<◌, ◌≤◌, ◌⊎◌, inl, inr, true, false, List, [], ◌∷◌, ◌++◌, length, map, slice_index, refl, sym, ◌∙◌, ap, subst, arith, Contains}
use Rattle.std.specs.List.{range_with_len}
use Rattle.std.proofs.lemmas.List.{length_push, length-map, map-append}
use Rattle.std.proofs.lemmas.List.Elements.{Contains-append_left, Contains-append_right, Contains-get_or}
use Rattle.g1_words.specs.Heap.{Heap, word, object_at}
use Rattle.g1_words.specs.References.{Ref, refs}
use Rattle.g1_words.specs.Survivors.{in_set}
use Rattle.g1_words.proofs.Computed.{Contains-range}
use Rattle.g1_words.proofs.Firsts.{Distinct, Distinct-firsts}
use Rattle.g1_words.proofs.Members.{Contains-filter, Contains-flat_map}
use Rattle.g1_words.proofs.Ordered.{Ordered}
use Rattle.g1_same.specs.Path.{Lower, Before}
use Rattle.g1_same.proofs.Routes.{before_push, before_last}
use Rattle.g1_same.proofs.First.{before_trans}
use Rattle.g1_explain.specs.declared.finder.Finder.{Finder}
use Rattle.g1_explain.specs.declared.finder.Finder.TheVariants.{Root, Card, Object as Slot}
use Rattle.g1_explain.specs.declared.paths.Leg.{Leg}
use Rattle.g1_explain.specs.Finders.{Lead, lead, root_leads, slot_leads, object_leads, found_leads, leads, first_leads}
use Rattle.g1_explain.specs.Searched.{finder_at, before, IsRoute, none, leg}
use Rattle.g1_explain.proofs.FirstLeads.{targets_of, some_first, first_targets}
use Rattle.g1_explain.proofs.LeadOrder.{Earlier, IsEarlierLead, root_tells, slot_tells, least, first_in_order, places_in_order, place_in}
use Rattle.g1_explain.proofs.AllMet.{all_finders}
use Rattle.g1_explain.proofs.Routes.{no_route, route_one, count_is, IsLedTo, by_root, by_card, by_slot, led_to, led_by}

-- ---- the order of paths

lower_not : (p q : List ℕ) → Lower p q → Lower q p → ⊥
lower_not [] q l m = absurd l
lower_not (x ∷ p) [] l m = absurd l
lower_not (x ∷ p) (y ∷ q) (inl l) (inl m) = absurd (omega (arith, l, m))
lower_not (x ∷ p) (y ∷ q) (inl l) (inr m) = absurd (omega (arith, l, m.0))
lower_not (x ∷ p) (y ∷ q) (inr l) (inl m) = absurd (omega (arith, l.0, m))
lower_not (x ∷ p) (y ∷ q) (inr l) (inr m) = lower_not p q l.1 m.1

pub before_not : (p q : List ℕ) → Before p q → Before q p → ⊥
before_not p q (inl l) (inl m) = absurd (omega (arith, l, m))
before_not p q (inl l) (inr m) = absurd (omega (arith, l, m.0))
before_not p q (inr l) (inl m) = absurd (omega (arith, l.0, m))
before_not p q (inr l) (inr m) = lower_not p q l.1 m.1

-- the path is another one or before it
abbrev pub UpTo : List ℕ → List ℕ → Type 0
UpTo p q = (p ≡ q) ⊎ Before p q

before_up : (p q r : List ℕ) → Before p q → UpTo q r → Before p r
before_up p q r b (inl e) = subst (Before p) e b
before_up p q r b (inr c) = before_trans p q r b c

up_push : (p q : List ℕ) (s : ℕ) → UpTo p q → UpTo (p ++ s ∷ []) (q ++ s ∷ [])
up_push p q s (inl e) = inl (ap (λ l. l ++ s ∷ []) e)
up_push p q s (inr b) = inr (before_push p q s s b)

up_last : (p q : List ℕ) (s t : ℕ) → s < t → UpTo p q → Before (p ++ s ∷ []) (q ++ t ∷ [])
up_last p q s t lt (inl e) = subst (λ l. Before (p ++ s ∷ []) (l ++ t ∷ [])) e (before_last p s t lt)
up_last p q s t lt (inr b) = before_push p q s t b

single_first : (k s : ℕ) (p : List ℕ) → 0 < length p → Before (k ∷ []) (p ++ s ∷ [])
single_first k s p lt = inl (omega (arith, length_push p s, lt))

-- the number that a path has of a reference: that of a slot on a card stands behind those of the roots
abbrev pub code : ℕ → Finder → ℕ
code base (Root k) = k
code base (Card c p) = base + p
code base (Slot m a s) = s

abbrev pub codes : ℕ → List Leg → List ℕ
codes base legs = map (λ l. code base l.finder) legs

-- a path to an object over those of a set
pub data IsTrail (h : Heap) (set : List ℕ) (base : ℕ) : List ℕ → ℕ → Type 0 where
  begin : (l : Lead) → Contains (root_leads h) l ⊎ Contains (slot_leads h set) l → IsTrail h set base (code base l.finder ∷ []) l.target
  go : (p : List ℕ) (b s a : ℕ) → IsTrail h set base p b → in_set h set b ≡ true → s < (object_at h b).refs → word h (b + 1 + s) ≡ suc a → IsTrail h set base (p ++ s ∷ []) a

trail_some : (h : Heap) (set : List ℕ) (base : ℕ) (p : List ℕ) (a : ℕ) → IsTrail h set base p a → 0 < length p
trail_some h set base p a (begin l i) = omega arith
trail_some h set base p a (go q b s c t i fit w) = omega (arith, length_push q s)

pub places_apart : (xs : List ℕ) → Distinct xs → (i j : ℕ) → i < length xs → j < length xs → slice_index xs i ≡ slice_index xs j → i ≡ j
places_apart [] d i j li lj e = absurd (omega (arith, li))
places_apart (x ∷ xs) d zero zero li lj e = refl
places_apart (x ∷ xs) d zero (suc j) li lj e = absurd (d.0 (subst (Contains xs) (sym e) (Contains-get_or xs j 0 (omega (arith, lj)))))
places_apart (x ∷ xs) d (suc i) zero li lj e = absurd (d.0 (subst (Contains xs) e (Contains-get_or xs i 0 (omega (arith, li)))))
places_apart (x ∷ xs) d (suc i) (suc j) li lj e = ap suc (places_apart xs d.1 i j (omega (arith, li)) (omega (arith, lj)) e)

module _ (h : Heap) (set found : List ℕ) (base : ℕ) (searched : found ≡ targets_of (first_leads (leads h set found))) (ordered : Ordered IsEarlierLead (leads h set found))
    (inside : (a : ℕ) → Contains found a → in_set h set a ≡ true)
    (room : (e : Ref) → Contains (refs h) e → in_set h set e.slot ≡ false → in_set h set e.target ≡ true → length h.roots ≤ base) where
  abbrev fs : List Finder
  fs = all_finders h set found

  abbrev at : ℕ → Finder
  at j = finder_at (all_finders h set found) j

  abbrev leg_of : ℕ → Leg
  leg_of j = record { object = object_at h (slice_index found j); finder = finder_at (all_finders h set found) j }

  abbrev Route : ℕ → List Leg → Type 0
  Route n legs = IsRoute h found (all_finders h set found) n legs

  pub fs_count : length (all_finders h set found) ≡ length found
  fs_count = length-map (first_leads (leads h set found)) (λ (l : Lead). l.finder) ∙ count_is h set found searched

  pub found_once : Distinct found
  found_once = subst Distinct (sym (searched ∙ first_targets (leads h set found))) (Distinct-firsts (targets_of (leads h set found)))

  extend : (j : ℕ) (legs : List Leg) → j < length found → Route (before (at j)) legs → Route (suc j) (legs ++ leg_of j ∷ [])
  extend j legs lt r = leg j legs (omega (arith, lt, fs_count)) lt r

  codes_push : (legs : List Leg) (j : ℕ) → codes base (legs ++ leg_of j ∷ []) ≡ codes base legs ++ code base (at j) ∷ []
  codes_push legs j = map-append (λ (l : Leg). code base l.finder) legs (leg_of j ∷ [])

  pub earlier : (i j : ℕ) → i < j → j < length found → Earlier (at i) (at j)
  earlier i j lt le = places_in_order (first_leads (leads h set found)) (first_in_order (leads h set found) ordered) i j lt (omega (arith, le, count_is h set found searched))

  -- the first reference to the object that a reference leads to
  pub record IsPlaceOf (l : Lead) (j : ℕ) : Type 0 where
    pub within : j < length found
    pub target : slice_index found j ≡ l.target
    pub first : (at j ≡ l.finder) ⊎ Earlier (at j) l.finder

  pub place_of : (l : Lead) → Contains (leads h set found) l → (j : ℕ) × IsPlaceOf l j
  place_of l i =
      let f = some_first (leads h set found) l i in
      let p = place_in (first_leads (leads h set found)) f.0 f.1 in (
        p.0,
        record {
          within = omega (arith, p.1, count_is h set found searched);
          target = ap (λ xs. slice_index xs p.0) searched ∙ p.2.target ∙ f.2;
          first = elim (least (leads h set found) ordered f.0 l f.1 i f.2) [
            | inl e ↦ inl (p.2.finder ∙ ap (λ (z : Lead). z.finder) e)
            | inr e ↦ inr (subst (λ z. Earlier z l.finder) (sym p.2.finder) e)
          ];
        },
      )

  -- a route with a path that is not behind another
  pub record HasRoute (j : ℕ) (q : List ℕ) : Type 0 where
    pub legs : List Leg
    pub route : Route (suc j) legs
    pub up : UpTo (codes base legs) q

  pub record HasEarlier (j : ℕ) (q : List ℕ) : Type 0 where
    pub legs : List Leg
    pub route : Route (suc j) legs
    pub earlier_path : Before (codes base legs) q

  start : (j : ℕ) → j < length found → before (at j) ≡ 0 → Route (suc j) (leg_of j ∷ [])
  start j lt e = extend j [] lt (subst (λ n. Route n []) (sym e) none)

  -- the path of a root or of a slot outside
  start_path : (j : ℕ) (q : List ℕ) → j < length found → before (at j) ≡ 0 → Before (code base (at j) ∷ []) q → HasEarlier j q
  start_path j q lt e b = record { legs = leg_of j ∷ []; route = start j lt e; earlier_path = b }

  route_some : (n : ℕ) (legs : List Leg) → 0 < n → Route n legs → 0 < length (codes base legs)
  route_some n legs lt none = absurd (omega (arith, lt))
  route_some n legs lt (leg j ls a b r) =
      let e = length-map (ls ++ leg_of j ∷ []) (λ (l : Leg). code base l.finder) in
      omega (arith, e, length_push ls (leg_of j))

  -- ---- an object that was found earlier has an earlier path

  step : (i j : ℕ) (legs : List Leg) (f g : Finder) → at i ≡ f → at j ≡ g → i < length found → Earlier f g → Route (before g) legs
      → ((k c p : ℕ) → f ≡ Root k → g ≡ Card c p → k < base + p)
      → ((m : ℕ) → suc m < before g → HasEarlier m (codes base legs)) → HasEarlier i (codes base legs ++ code base g ∷ [])
  step i j legs (Root k) (Root m) ei ej lt e r apart sub =
      let start_legs : legs ≡ [] = no_route h found fs 0 legs refl r in
      subst (λ l. HasEarlier i (codes base l ++ m ∷ [])) (sym start_legs)
      (start_path i (m ∷ []) lt (ap before ei) (subst (λ z. Before (code base z ∷ []) (m ∷ [])) (sym ei) (inr (refl, inl e))))
  step i j legs (Root k) (Card d q) ei ej lt e r apart sub =
      let start_legs : legs ≡ [] = no_route h found fs 0 legs refl r in
      let less : k < base + q = apart k d q refl refl in
      subst (λ l. HasEarlier i (codes base l ++ (base + q) ∷ [])) (sym start_legs)
      (start_path i ((base + q) ∷ []) lt (ap before ei) (subst (λ z. Before (code base z ∷ []) ((base + q) ∷ [])) (sym ei) (inr (refl, inl less))))
  step i j legs (Root k) (Slot n b t) ei ej lt e r apart sub =
      start_path i (codes base legs ++ t ∷ []) lt (ap before ei) (single_first (code base (at i)) t (codes base legs) (route_some (suc n) legs (omega arith) r))
  step i j legs (Card c p) (Root m) ei ej lt e r apart sub = absurd e
  step i j legs (Card c p) (Card d q) ei ej lt e r apart sub =
      let start_legs : legs ≡ [] = no_route h found fs 0 legs refl r in
      let less : base + p < base + q = omega (arith, e) in
      subst (λ l. HasEarlier i (codes base l ++ (base + q) ∷ [])) (sym start_legs)
      (start_path i ((base + q) ∷ []) lt (ap before ei) (subst (λ z. Before (code base z ∷ []) ((base + q) ∷ [])) (sym ei) (inr (refl, inl less))))
  step i j legs (Card c p) (Slot n b t) ei ej lt e r apart sub =
      start_path i (codes base legs ++ t ∷ []) lt (ap before ei) (single_first (code base (at i)) t (codes base legs) (route_some (suc n) legs (omega arith) r))
  step i j legs (Slot m a s) (Root n) ei ej lt e r apart sub = absurd e
  step i j legs (Slot m a s) (Card d q) ei ej lt e r apart sub = absurd e
  step i j legs (Slot m a s) (Slot n b t) ei ej lt (inl e) r apart sub =
      let u = sub m (omega (arith, e)) in
      record {
        legs = u.legs ++ leg_of i ∷ [];
        route = extend i u.legs lt (subst (λ z. Route z u.legs) (sym (ap before ei)) u.route);
        earlier_path = subst (λ l. Before l (codes base legs ++ t ∷ [])) (sym (codes_push u.legs i)) (before_push (codes base u.legs) (codes base legs) (code base (at i)) t u.earlier_path);
      }
  step i j legs (Slot m a s) (Slot n b t) ei ej lt (inr e) r apart sub =
      let same : suc n ≡ before (at i) = ap suc (sym e.0) ∙ sym (ap before ei) in
      record {
        legs = legs ++ leg_of i ∷ [];
        route = extend i legs lt (subst (λ z. Route z legs) same r);
        earlier_path = subst (λ l. Before l (codes base legs ++ t ∷ [])) (sym (codes_push legs i ∙ ap (λ z. codes base legs ++ code base z ∷ []) ei)) (before_last (codes base legs) s t e.1);
      }

  -- a root comes before the slots on cards
  root_first : (f g : Finder) (a b : ℕ) → IsLedTo h set found f a → IsLedTo h set found g b → in_set h set b ≡ true → (k c p : ℕ) → f ≡ Root k → g ≡ Card c p → k < base + p
  root_first f g a b (by_root m e lt w) (by_card r d j out t) into k c p is that =
      let same : m ≡ k = cc in
      let fits = room r j out (subst (λ x. in_set h set x ≡ true) (sym t) into) in
      omega (arith, same, lt, fits)
  root_first f g a b (by_root m e lt w) (by_root n d lu v) into k c p is that = cc
  root_first f g a b (by_root m e lt w) (by_slot n s d lu fit v) into k c p is that = cc
  root_first f g a b (by_card r e j out t) led into k c p is that = cc
  root_first f g a b (by_slot n s e lt fit w) led into k c p is that = cc

  earlier_route : (n : ℕ) (legs : List Leg) → Route n legs → (i : ℕ) → suc i < n → HasEarlier i (codes base legs)
  earlier_route n legs none i lt = absurd (omega (arith, lt))
  earlier_route n legs (leg j ls a within r) i lt =
      let less : i < j = omega (arith, lt) in
      let here : i < length found = omega (arith, less, within) in
      subst (λ q. HasEarlier i q) (sym (codes_push ls j))
      (step i j ls (at i) (at j) refl refl here (earlier i j less within) r
      (root_first (at i) (at j) (slice_index found i) (slice_index found j) (led_to h set found searched i here) (led_to h set found searched j within)
      (inside (slice_index found j) (Contains-get_or found j 0 within)))
      (λ m l. earlier_route (before (at j)) ls r m l))

  -- ---- a path leads to an object that has a route, which is not behind it

  pub record IsReachedBy (q : List ℕ) (a : ℕ) : Type 0 where
    pub place : ℕ
    pub within : place < length found
    pub there : slice_index found place ≡ a
    pub route : HasRoute place q

  pub in_leads : (l : Lead) → Contains (root_leads h ++ (slot_leads h set ++ found_leads h found (length found))) l → in_set h set l.target ≡ true → Contains (leads h set found) l
  in_leads l i t = Contains-filter (λ l. in_set h set l.target) (root_leads h ++ (slot_leads h set ++ found_leads h found (length found))) l i t

  -- what leads to the object first, where a root or a slot outside does
  begun : (l : Lead) (j : ℕ) (f g : Finder) → IsPlaceOf l j → at j ≡ f → l.finder ≡ g → before g ≡ 0 → (f ≡ g) ⊎ Earlier f g → ((k c p : ℕ) → f ≡ Root k → g ≡ Card c p → k < base + p)
      → HasRoute j (code base g ∷ [])
  begun l j f g place ef eg first (inl e) apart =
      record { legs = leg_of j ∷ []; route = start j place.within (ap before (ef ∙ e) ∙ first); up = inl (ap (λ z. code base z ∷ []) (ef ∙ e)) }
  begun l j (Root k) (Root m) place ef eg first (inr e) apart =
      record { legs = leg_of j ∷ []; route = start j place.within (ap before ef); up = subst (λ z. UpTo (code base z ∷ []) (m ∷ [])) (sym ef) (inr (inr (refl, inl e))) }
  begun l j (Root k) (Card d q) place ef eg first (inr e) apart =
      record { legs = leg_of j ∷ []; route = start j place.within (ap before ef); up = subst (λ z. UpTo (code base z ∷ []) ((base + q) ∷ [])) (sym ef) (inr (inr (refl, inl (apart k d q refl refl)))) }
  begun l j (Card c p) (Card d q) place ef eg first (inr e) apart =
      let less : base + p < base + q = omega (arith, e) in
      record { legs = leg_of j ∷ []; route = start j place.within (ap before ef); up = subst (λ z. UpTo (code base z ∷ []) ((base + q) ∷ [])) (sym ef) (inr (inr (refl, inl less))) }
  begun l j (Card c p) (Root m) place ef eg first (inr e) apart = absurd e
  begun l j (Slot m a s) (Root k) place ef eg first (inr e) apart = absurd e
  begun l j (Slot m a s) (Card d q) place ef eg first (inr e) apart = absurd e
  begun l j f (Slot n b t) place ef eg first (inr e) apart = absurd (omega (arith, first))

  -- what leads to the object first, where a slot of an object does
  gone : (m b s : ℕ) (l : Lead) (j : ℕ) (f : Finder) (rb : List Leg) (p : List ℕ) → m < length found → slice_index found m ≡ b → IsPlaceOf l j → at j ≡ f → Route (suc m) rb → UpTo (codes base rb) p → 0 < length p
      → (f ≡ Slot m b s) ⊎ Earlier f (Slot m b s) → HasRoute j (p ++ s ∷ [])
  gone m b s l j f rb p lt is place ef r up some (inl e) = record {
    legs = rb ++ leg_of j ∷ [];
    route = extend j rb place.within (subst (λ z. Route z rb) (sym (ap before (ef ∙ e))) r);
    up = subst (λ z. UpTo z (p ++ s ∷ [])) (sym (codes_push rb j ∙ ap (λ z. codes base rb ++ code base z ∷ []) (ef ∙ e))) (up_push (codes base rb) p s up);
  }
  gone m b s l j (Root k) rb p lt is place ef r up some (inr e) = record { legs = leg_of j ∷ []; route = start j place.within (ap before ef); up = inr (single_first (code base (at j)) s p some) }
  gone m b s l j (Card c q) rb p lt is place ef r up some (inr e) = record { legs = leg_of j ∷ []; route = start j place.within (ap before ef); up = inr (single_first (code base (at j)) s p some) }
  gone m b s l j (Slot n c t) rb p lt is place ef r up some (inr (inl e)) =
      let u = earlier_route (suc m) rb r n (omega (arith, e)) in
      record {
        legs = u.legs ++ leg_of j ∷ [];
        route = extend j u.legs place.within (subst (λ z. Route z u.legs) (sym (ap before ef)) u.route);
        up = subst (λ z. UpTo z (p ++ s ∷ [])) (sym (codes_push u.legs j))
            (inr (before_push (codes base u.legs) p (code base (at j)) s (before_up (codes base u.legs) (codes base rb) p u.earlier_path up)));
      }
  gone m b s l j (Slot n c t) rb p lt is place ef r up some (inr (inr e)) = record {
    legs = rb ++ leg_of j ∷ [];
    route = extend j rb place.within (subst (λ z. Route z rb) (ap suc (sym e.0) ∙ sym (ap before ef)) r);
    up = subst (λ z. UpTo z (p ++ s ∷ [])) (sym (codes_push rb j ∙ ap (λ z. codes base rb ++ code base z ∷ []) ef)) (inr (up_last (codes base rb) p t s e.1 up));
  }

  pub seed_of : (l : Lead) → Contains (root_leads h) l ⊎ Contains (slot_leads h set) l → before l.finder ≡ 0
  seed_of l (inl i) = ap before (root_tells h set l i).finder
  seed_of l (inr i) = ap before (slot_tells h set l i).finder

  pub in_all : (l : Lead) → Contains (root_leads h) l ⊎ Contains (slot_leads h set) l → Contains (root_leads h ++ (slot_leads h set ++ found_leads h found (length found))) l
  in_all l (inl i) = Contains-append_left (root_leads h) (slot_leads h set ++ found_leads h found (length found)) l i
  in_all l (inr i) =
      Contains-append_right (root_leads h) (slot_leads h set ++ found_leads h found (length found)) l (Contains-append_left (slot_leads h set) (found_leads h found (length found)) l i)

  pub in_found : (m b s a : ℕ) → m < length found → slice_index found m ≡ b → s < (object_at h b).refs → word h (b + 1 + s) ≡ suc a
      → Contains (root_leads h ++ (slot_leads h set ++ found_leads h found (length found))) (record { finder = Slot m b s; target = a })
  in_found m b s a lt is fit w =
      let l : Lead = record { finder = Slot m b s; target = a } in
      let here : Contains (lead (Slot m b s) (word h (b + 1 + s))) l = subst (λ x. Contains (lead (Slot m b s) x) l) (sym w) (zero, omega arith, refl) in
      let mine : Contains (object_leads h m b) l =
      Contains-flat_map (λ s. lead (Slot m b s) (word h (b + 1 + s))) (range_with_len 0 (object_at h b).refs) s l (Contains-range 0 (object_at h b).refs s (omega arith) (omega (arith, fit))) here in
      Contains-append_right (root_leads h) (slot_leads h set ++ found_leads h found (length found)) l
      (Contains-append_right (slot_leads h set) (found_leads h found (length found)) l
      (Contains-flat_map (λ m. object_leads h m (slice_index found m)) (range_with_len 0 (length found)) m l (Contains-range 0 (length found) m (omega arith) (omega (arith, lt)))
      (subst (λ x. Contains (object_leads h m x) l) (sym is) mine)))

  pub first_route : (q : List ℕ) (a : ℕ) → IsTrail h set base q a → in_set h set a ≡ true → IsReachedBy q a
  first_route q a (begin l i) t =
      let p = place_of l (in_leads l (in_all l i) t) in
      record {
        place = p.0;
        within = p.1.within;
        there = p.1.target;
        route = begun l p.0 (at p.0) l.finder p.1 refl refl (seed_of l i) p.1.first
            (root_first (at p.0) l.finder (slice_index found p.0) l.target (led_to h set found searched p.0 p.1.within) (led_by h set found searched l (in_leads l (in_all l i) t)) t);
      }
  first_route q a (go p b s c trail into fit w) t =
      let u = first_route p b trail into in
      let l : Lead = record { finder = Slot u.place b s; target = a } in
      let d = place_of l (in_leads l (in_found u.place b s a u.within u.there fit w) t) in
      record {
        place = d.0;
        within = d.1.within;
        there = d.1.target;
        route = gone u.place b s l d.0 (at d.0) u.route.legs p u.within u.there d.1 refl u.route.route u.route.up (trail_some h set base p b trail) d.1.first;
      }

  -- THE FIRST PATH: none to the object is before that of its route
  pub none_before : (j : ℕ) (legs : List Leg) → j < length found → Route (suc j) legs → (q : List ℕ) → IsTrail h set base q (slice_index found j) → Before q (codes base legs) → ⊥
  none_before j legs lt r q trail b =
      let u = first_route q (slice_index found j) trail (inside (slice_index found j) (Contains-get_or found j 0 lt)) in
      let same : u.place ≡ j = places_apart found found_once u.place j u.within lt u.there in
      let one : u.route.legs ≡ legs = route_one h found fs (suc j) u.route.legs legs (subst (λ z. Route (suc z) u.route.legs) same u.route.route) r in
      let up : UpTo (codes base legs) q = subst (λ z. UpTo (codes base z) q) one u.route.up in
      elim up [
        | inl e ↦ before_not q q (subst (λ z. Before q z) e b) (subst (λ z. Before q z) e b)
        | inr c ↦ before_not q (codes base legs) b c
      ]
