-- The order in which a search meets references, and that the first one to each object comes before the others.
use Rattle.std.proofs.Common.{◌≡◌, ℕ, zero, suc, ◌+◌, ◌<◌, ◌⊎◌, inl, inr, true, false, not, List, [], ◌∷◌, ◌++◌, length, filter, slice_index, refl, sym, ◌∙◌, ap, subst, arith, eqb, eq-eqb, Contains}
use Rattle.std.specs.List.{range_with_len}
use Rattle.std.proofs.lemmas.Bool.{false≢true, not-true}
use Rattle.std.proofs.lemmas.List.Elements.{Contains-append_cases}
use Rattle.g1_words.specs.Heap.{Heap, word, card_of, object_at}
use Rattle.g1_words.specs.References.{Ref, refs}
use Rattle.g1_words.specs.Survivors.{in_set}
use Rattle.g1_words.specs.Valid.{IsValid}
use Rattle.g1_words.proofs.Computed.{range_below}
use Rattle.g1_words.proofs.Members.{filter_member, flat_map_cases, map_cases, none_contains, Contains-later}
use Rattle.g1_words.proofs.Ordered.{Ordered}
use Rattle.g1_words.proofs.Rising.{Ordered-append, Ordered-flat_map, Ordered-filter, Ordered-map, Ordered-range, refs_ordered}
use Rattle.g1_explain.specs.declared.finder.Finder.{Finder}
use Rattle.g1_explain.specs.declared.finder.Finder.TheVariants.{Root, Card, Object as Slot}
use Rattle.g1_explain.specs.Finders.{Lead, lead, root_leads, slot_leads, object_leads, found_leads, leads, first_leads}
use Rattle.g1_explain.specs.Searched.{finder_at}
use Rattle.g1_explain.proofs.FirstLeads.{targets_of, finders_of, first_member}

-- the one that a search meets first
abbrev pub Earlier : Finder → Finder → Type 0
Earlier (Root k) (Root m) = k < m
Earlier (Root k) (Card d q) = Unit {0}
Earlier (Root k) (Slot j b t) = Unit {0}
Earlier (Card c p) (Root m) = ⊥
Earlier (Card c p) (Card d q) = p < q
Earlier (Card c p) (Slot j b t) = Unit {0}
Earlier (Slot i a s) (Root m) = ⊥
Earlier (Slot i a s) (Card d q) = ⊥
Earlier (Slot i a s) (Slot j b t) = (i < j) ⊎ ((i ≡ j) × (s < t))

abbrev pub IsEarlierLead : Lead → Lead → Type 0
IsEarlierLead x y = Earlier x.finder y.finder

-- ---- what a reference tells

pub lead_tells : (f : Finder) (x : ℕ) (l : Lead) → Contains (lead f x) l → (l.finder ≡ f) × (x ≡ suc l.target)
lead_tells f zero l k = absurd (omega (arith, k.1))
lead_tells f (suc a) l (zero, b, e) = (sym (ap (λ (y : Lead). y.finder) e), ap suc (ap (λ (y : Lead). y.target) e))
lead_tells f (suc a) l (suc j, b, e) = absurd (omega (arith, b))

lead_ordered : (f : Finder) (x : ℕ) → Ordered IsEarlierLead (lead f x)
lead_ordered f zero = tt
lead_ordered f (suc a) = ((λ y k. absurd (none_contains y k)), tt)

earlier_along : (f g p q : Finder) → p ≡ f → q ≡ g → Earlier f g → Earlier p q
earlier_along f g p q e d l = subst (λ z. Earlier z q) (sym e) (subst (λ z. Earlier f z) (sym d) l)

module _ (h : Heap) (set : List ℕ) where
  pub record IsRootLead (l : Lead) : Type 0 where
    pub number : ℕ
    pub below : number < length h.roots
    pub finder : l.finder ≡ Root number
    pub reads : slice_index h.roots number ≡ suc l.target

  pub root_tells : (l : Lead) → Contains (root_leads h) l → IsRootLead l
  root_tells l k =
      let m = flat_map_cases (λ k. lead (Root k) (slice_index h.roots k)) (range_with_len 0 (length h.roots)) l k in
      let t = lead_tells (Root m.0) (slice_index h.roots m.0) l m.2 in
      let b = range_below 0 (length h.roots) m.0 m.1 in
      record { number = m.0; below = omega (arith, b); finder = t.0; reads = t.1 }

  pub record IsSlotLead (l : Lead) : Type 0 where
    pub ref : Ref
    pub there : Contains (refs h) ref
    pub outside : in_set h set ref.slot ≡ false
    pub finder : l.finder ≡ Card (card_of h ref.slot) ref.slot
    pub target : l.target ≡ ref.target

  pub slot_tells : (l : Lead) → Contains (slot_leads h set) l → IsSlotLead l
  slot_tells l k =
      let m = map_cases (λ (e : Ref). record { finder = Card (card_of h e.slot) e.slot; target = e.target }) (filter (λ (e : Ref). not (in_set h set e.slot)) (refs h)) l k in
      let t = filter_member (λ (e : Ref). not (in_set h set e.slot)) (refs h) m.0 m.1 in
      record {
        ref = m.0;
        there = t.0;
        outside = not-true (in_set h set m.0.slot) t.1;
        finder = sym (ap (λ (y : Lead). y.finder) m.2);
        target = sym (ap (λ (y : Lead). y.target) m.2);
      }

  pub record IsFoundLead (found : List ℕ) (n : ℕ) (l : Lead) : Type 0 where
    pub place : ℕ
    pub below : place < n
    pub number : ℕ
    pub fits : number < (object_at h (slice_index found place)).refs
    pub finder : l.finder ≡ Slot place (slice_index found place) number
    pub reads : word h (slice_index found place + 1 + number) ≡ suc l.target

  pub found_tells : (found : List ℕ) (n : ℕ) (l : Lead) → Contains (found_leads h found n) l → IsFoundLead found n l
  found_tells found n l k =
      let m = flat_map_cases (λ m. object_leads h m (slice_index found m)) (range_with_len 0 n) l k in
      let a : ℕ = slice_index found m.0 in
      let s = flat_map_cases (λ s. lead (Slot m.0 a s) (word h (a + 1 + s))) (range_with_len 0 (object_at h a).refs) l m.2 in
      let t = lead_tells (Slot m.0 a s.0) (word h (a + 1 + s.0)) l s.2 in
      let b = range_below 0 n m.0 m.1 in
      let c = range_below 0 (object_at h a).refs s.0 s.1 in
      record { place = m.0; below = omega (arith, b); number = s.0; fits = omega (arith, c); finder = t.0; reads = t.1 }

  -- ---- in order

  roots_in_order : Ordered IsEarlierLead (root_leads h)
  roots_in_order =
      Ordered-flat_map (λ x y. x < y) IsEarlierLead (λ k. lead (Root k) (slice_index h.roots k)) (range_with_len 0 (length h.roots)) (Ordered-range 0 (length h.roots))
      (λ k i. lead_ordered (Root k) (slice_index h.roots k))
      (λ k m a b i j lt x y.
      earlier_along (Root k) (Root m) a.finder b.finder (lead_tells (Root k) (slice_index h.roots k) a x).0 (lead_tells (Root m) (slice_index h.roots m) b y).0 lt)

  slots_in_order : IsValid h → Ordered IsEarlierLead (slot_leads h set)
  slots_in_order valid =
      Ordered-map IsEarlierLead (λ (e : Ref). record { finder = Card (card_of h e.slot) e.slot; target = e.target }) (filter (λ (e : Ref). not (in_set h set e.slot)) (refs h))
      (Ordered-filter (λ (e f : Ref). e.slot < f.slot) (λ (e : Ref). not (in_set h set e.slot)) (refs h) (refs_ordered h valid))

  object_in_order : (m a : ℕ) → Ordered IsEarlierLead (object_leads h m a)
  object_in_order m a =
      Ordered-flat_map (λ x y. x < y) IsEarlierLead (λ s. lead (Slot m a s) (word h (a + 1 + s))) (range_with_len 0 (object_at h a).refs) (Ordered-range 0 (object_at h a).refs)
      (λ s i. lead_ordered (Slot m a s) (word h (a + 1 + s)))
      (λ s t x y i j lt k l.
      earlier_along (Slot m a s) (Slot m a t) x.finder y.finder (lead_tells (Slot m a s) (word h (a + 1 + s)) x k).0 (lead_tells (Slot m a t) (word h (a + 1 + t)) y l).0 (inr (refl, lt)))

  object_finder : (m a : ℕ) (l : Lead) → Contains (object_leads h m a) l → (s : ℕ) × (l.finder ≡ Slot m a s)
  object_finder m a l k =
      let s = flat_map_cases (λ s. lead (Slot m a s) (word h (a + 1 + s))) (range_with_len 0 (object_at h a).refs) l k in
      (s.0, (lead_tells (Slot m a s.0) (word h (a + 1 + s.0)) l s.2).0)

  found_in_order : (found : List ℕ) (n : ℕ) → Ordered IsEarlierLead (found_leads h found n)
  found_in_order found n =
      Ordered-flat_map (λ x y. x < y) IsEarlierLead (λ m. object_leads h m (slice_index found m)) (range_with_len 0 n) (Ordered-range 0 n)
      (λ m i. object_in_order m (slice_index found m))
      (λ m p x y i j lt k l.
      let a = object_finder m (slice_index found m) x k in
      let b = object_finder p (slice_index found p) y l in
      earlier_along (Slot m (slice_index found m) a.0) (Slot p (slice_index found p) b.0) x.finder y.finder a.1 b.1 (inl lt))

  -- THE REFERENCES stand in the order in which a search meets them
  pub in_order : IsValid h → (found : List ℕ) → Ordered IsEarlierLead (leads h set found)
  in_order valid found =
      let rs : List Lead = root_leads h in
      let ss : List Lead = slot_leads h set in
      let os : List Lead = found_leads h found (length found) in
      Ordered-filter IsEarlierLead (λ l. in_set h set l.target) (rs ++ (ss ++ os))
      (Ordered-append IsEarlierLead rs (ss ++ os) roots_in_order
      (Ordered-append IsEarlierLead ss os (slots_in_order valid) (found_in_order found (length found))
      (λ x y i j.
      let a = slot_tells x i in
      let b = found_tells found (length found) y j in
      earlier_along (Card (card_of h a.ref.slot) a.ref.slot) (Slot b.place (slice_index found b.place) b.number) x.finder y.finder a.finder b.finder tt))
      (λ x y i j.
      let a = root_tells x i in
      elim (Contains-append_cases ss os y j) [
        | inl k ↦ let b = slot_tells y k in earlier_along (Root a.number) (Card (card_of h b.ref.slot) b.ref.slot) x.finder y.finder a.finder b.finder tt
        | inr k ↦ let b = found_tells found (length found) y k in earlier_along (Root a.number) (Slot b.place (slice_index found b.place) b.number) x.finder y.finder a.finder b.finder tt
      ]))

-- ---- the first ones

-- the first reference to an object is any other one, or earlier
pub least : (ls : List Lead) → Ordered IsEarlierLead ls → (f l : Lead) → Contains (first_leads ls) f → Contains ls l → f.target ≡ l.target → (f ≡ l) ⊎ IsEarlierLead f l
least [] o f l i j e = absurd (omega (arith, i.1))
least (x ∷ xs) o f l (zero, b, i) (zero, lt, j) e = inl (sym i ∙ j)
least (x ∷ xs) o f l (zero, b, i) (suc k, lt, eq) e = inr (subst (λ (z : Lead). Earlier z.finder l.finder) i (o.0 l (k, omega (arith, lt), eq)))
least (x ∷ xs) o f l (suc k, b, eq) (zero, lt, j) e =
    let t = (filter_member (λ (y : Lead). not (eqb x.target y.target)) (first_leads xs) f (k, omega (arith, b), eq)).1 in
    let same : eqb x.target f.target ≡ true = eq-eqb x.target f.target (ap (λ (z : Lead). z.target) j ∙ sym e) in
    absurd (false≢true (sym (ap not same) ∙ t))
least (x ∷ xs) o f l (suc k, b, eq) (suc n, lt, same) e =
    least xs o.1 f l (filter_member (λ (y : Lead). not (eqb x.target y.target)) (first_leads xs) f (k, omega (arith, b), eq)).0 (n, omega (arith, lt), same) e

pub first_in_order : (ls : List Lead) → Ordered IsEarlierLead ls → Ordered IsEarlierLead (first_leads ls)
first_in_order [] o = tt
first_in_order (x ∷ xs) o = (
  (λ y k. o.0 y (first_member xs y (filter_member (λ (z : Lead). not (eqb x.target z.target)) (first_leads xs) y k).0)),
  Ordered-filter IsEarlierLead (λ (y : Lead). not (eqb x.target y.target)) (first_leads xs) (first_in_order xs o.1),
)

-- ---- places

-- the reference at a place
pub record IsLeadAt (ls : List Lead) (j : ℕ) (l : Lead) : Type 0 where
  pub there : Contains ls l
  pub finder : finder_at (finders_of ls) j ≡ l.finder
  pub target : slice_index (targets_of ls) j ≡ l.target

pub lead_at : (ls : List Lead) (j : ℕ) → j < length ls → (l : Lead) × IsLeadAt ls j l
lead_at [] j lt = absurd (omega (arith, lt))
lead_at (x ∷ xs) zero lt = (x, record { there = (zero, omega arith, refl); finder = refl; target = refl })
lead_at (x ∷ xs) (suc j) lt = let r = lead_at xs j (omega (arith, lt)) in (r.0, record { there = Contains-later x xs r.0 r.1.there; finder = r.1.finder; target = r.1.target })

pub place_in : (ls : List Lead) (l : Lead) → Contains ls l → (j : ℕ) × (j < length ls) × IsLeadAt ls j l
place_in [] l k = absurd (omega (arith, k.1))
place_in (x ∷ xs) l (zero, b, e) = (zero, omega arith, record { there = (zero, omega arith, e); finder = ap (λ (y : Lead). y.finder) e; target = ap (λ (y : Lead). y.target) e })
place_in (x ∷ xs) l (suc j, b, e) =
    let r = place_in xs l (j, omega (arith, b), e) in
    (suc r.0, omega (arith, r.1), record { there = Contains-later x xs l r.2.there; finder = r.2.finder; target = r.2.target })

pub places_in_order : (ls : List Lead) → Ordered IsEarlierLead ls → (i j : ℕ) → i < j → j < length ls → Earlier (finder_at (finders_of ls) i) (finder_at (finders_of ls) j)
places_in_order [] o i j lt le = absurd (omega (arith, le))
places_in_order (x ∷ xs) o i zero lt le = absurd (omega (arith, lt))
places_in_order (x ∷ xs) o zero (suc j) lt le = let r = lead_at xs j (omega (arith, le)) in subst (λ z. Earlier x.finder z) (sym r.1.finder) (o.0 r.0 r.1.there)
places_in_order (x ∷ xs) o (suc i) (suc j) lt le = places_in_order xs o.1 i j (omega (arith, lt)) (omega (arith, le))
