-- What the first items reference in the window are the seeds.
use Rattle.std.proofs.Common.{◌≡◌, ◌≤◌, ◌<◌, ℕ, zero, suc, ◌+◌, ◌*◌, ◌/◌, inl, inr, Bool, true, false, not, cond, ◌&&◌, List, [], ◌∷◌, ◌++◌, map, filter, flat_map, Contains, arith, refl}
use Rattle.std.proofs.Common.{sym, ap, subst, ◌∙◌, eqb, eqb-true, eq-eqb}
use Rattle.std.proofs.lemmas.Nat.{le-div}
use Rattle.std.proofs.Math.Nat.{div-mul-le_self}
use Rattle.std.proofs.lemmas.Bool.{cases_lt, false≢true}
use Rattle.std.proofs.lemmas.List.Kept.{AllPairs-from_increasing}
use Rattle.std.proofs.lemmas.List.Elements.{filter-append}
use Rattle.std.proofs.lemmas.List.{map-append}
use Rattle.g1_words.specs.Heap.{Heap, word, card_of, objects}
use Rattle.g1_words.specs.Lists.{has}
use Rattle.g1_words.specs.References.{Ref, named, refs_at, refs}
use Rattle.g1_words.specs.Survivors.{in_set, seeds}
use Rattle.g1_words.specs.Valid.{IsValid}
use Rattle.g1_words.proofs.Bounds.{cards_in_region, card_in_region}
use Rattle.g1_words.proofs.Members.{Contains-map, Contains-flat_map, Contains-filter, filter_member, flat_map_cases, has_from_contains, Contains-from_has}
use Rattle.g1_words.proofs.Ordered.{Ordered, Ordered-from_pairs, same_order}
use Rattle.g1_words.proofs.Rising.{Ordered-flat_map, Ordered-filter}
use Rattle.g1_words.proofs.Lists.{flat_of_flat, flat_of_filter}
use Rattle.g1_rem.specs.Slots.{all_slots, slots_on}
use Rattle.g1_rem.proofs.Rising.{Rises, Rises-above}
use Rattle.g1_rem.proofs.Card.{all_rise}
use Rattle.g1_rem.proofs.Bare.{flat_twice}
use Rattle.g1_frontier.specs.Found.{lead, slots_into}
use Rattle.g1_frontier.specs.Window.{AreCards, AreOutside, LeadIn}

-- ---- lists of lists

pub filter_flat : {A B : Type 0} (p : B → Bool) (f : A → List B) (xs : List A) → filter p (flat_map f xs) ≡ flat_map (λ x. filter p (f x)) xs
filter_flat p f [] = refl
filter_flat p f (x ∷ xs) = filter-append p (f x) (flat_map f xs) ∙ ap (λ l. filter p (f x) ++ l) (filter_flat p f xs)

pub map_flat : {A B C : Type 0} (g : B → C) (f : A → List B) (xs : List A) → map g (flat_map f xs) ≡ flat_map (λ x. map g (f x)) xs
map_flat g f [] = refl
map_flat g f (x ∷ xs) = map-append g (f x) (flat_map f xs) ∙ ap (λ l. map g (f x) ++ l) (map_flat g f xs)

pub filter_map : {A B : Type 0} (p : B → Bool) (f : A → B) (xs : List A) → filter p (map f xs) ≡ map f (filter (λ x. p (f x)) xs)
filter_map p f [] = refl
filter_map {A} {B} p f (x ∷ xs) = at (p (f x)) (filter p (map f xs)) (filter (λ x. p (f x)) xs) (filter_map p f xs)
  where
    at : (b : Bool) (ys : List B) (zs : List A) → ys ≡ map f zs → cond b (f x ∷ ys) ys ≡ map f (cond b (x ∷ zs) zs)
    at true ys zs e = ap (λ l. f x ∷ l) e
    at false ys zs e = e

-- two functions that agree on a list's members
pub flat_same : {A B : Type 0} (f g : A → List B) (xs : List A) → ((x : A) → Contains xs x → f x ≡ g x) → flat_map f xs ≡ flat_map g xs
flat_same f g [] h = refl
flat_same f g (x ∷ xs) h = λ i. h x (zero, omega arith, refl) i ++ flat_same f g xs (λ y k. h y (suc k.0, omega (arith, k.1), k.2)) i

-- ---- lists in order

Rises-ordered : (lo : ℕ) (xs : List ℕ) → Rises lo xs → Ordered (λ x y. x < y) xs
Rises-ordered lo [] r = tt
Rises-ordered lo (x ∷ xs) r = ((λ y i. let k = Rises-above (x + 1) xs y r.1 i in omega (arith, k)), Rises-ordered (x + 1) xs r.1)

-- ---- slots and cards

module _ (h : Heap) where
  pub on_card : (c p : ℕ) → Contains (slots_on h c) p → Contains (all_slots h) p × (card_of h p ≡ c)
  on_card c p i = let m = filter_member (λ p. eqb (card_of h p) c) (all_slots h) p i in (m.0, eqb-true (card_of h p) c m.1)

  -- a slot whose word names an address is a reference to it
  pub ref_there : (p a : ℕ) → Contains (all_slots h) p → word h p ≡ suc a → Contains (refs h) (record { slot = p; target = a })
  ref_there p a i e =
      let r : Ref = record { slot = p; target = a } in
      let k : Contains (named (word h p)) a = subst (λ x. Contains (named x) a) (sym e) (zero, omega arith, refl) in
      let j : Contains (flat_map (refs_at h) (all_slots h)) r = Contains-flat_map (refs_at h) (all_slots h) p r i (Contains-map (λ a. record { slot = p; target = a }) (named (word h p)) a k) in
      subst (λ l. Contains l r) (sym (flat_twice h (objects h))) j

  module _ (valid : IsValid h) where
    pub slots_ordered : Ordered (λ x y. x < y) (all_slots h)
    slots_ordered = Rises-ordered 0 (all_slots h) (all_rise h valid)

    pub apart : (c d p q : ℕ) → c < d → Contains (slots_on h c) p → Contains (slots_on h d) q → p < q
    apart c d p q lt i j = elim (cases_lt p q) [
      | inl less ↦ less
      | inr ge ↦ let k : q / h.geometry.k ≤ p / h.geometry.k = le-div (q / h.geometry.k) p h.geometry.k (omega (arith, valid.limits.k_least))
          (omega (arith, div-mul-le_self q h.geometry.k, ge)) in absurd (omega (arith, k, lt, (on_card c p i).1, (on_card d q j).1))
    ]

    -- a card lies in the region of its slots
    pub on_window : (window cards : List ℕ) → AreOutside h window cards → (p : ℕ) → has cards (card_of h p) ≡ true → in_set h window p ≡ false
    on_window window cards outside p t =
        let l = valid.limits in
        let m = cards_in_region h.geometry.w h.geometry.k h.geometry.n l in
        let e : p / h.geometry.k * h.geometry.k / h.geometry.w ≡ p / h.geometry.w = card_in_region h.geometry.w h.geometry.k m.0 p (omega (arith, l.k_least)) m.1 in
        ap (has window) (sym e) ∙ outside (card_of h p) (Contains-from_has cards (card_of h p) t)

    module _ (cards : List ℕ) (rising : AreCards h cards) where
      abbrev on_cards : ℕ → Bool
      on_cards p = has cards (card_of h p)

      -- the cards' slots are those that lie on one of the cards
      pub card_slots : flat_map (slots_on h) cards ≡ filter (λ p. has cards (card_of h p)) (all_slots h)
      card_slots =
          same_order (λ x y. x < y) (λ x y l m. omega (arith, l, m)) (flat_map (slots_on h) cards) (filter on_cards (all_slots h))
          (Ordered-flat_map (λ x y. x < y) (λ x y. x < y) (slots_on h) cards (Ordered-from_pairs (λ x y. x < y) cards (AllPairs-from_increasing cards rising.rise))
          (λ c i. Ordered-filter (λ x y. x < y) (λ p. eqb (card_of h p) c) (all_slots h) slots_ordered)
          (λ c d p q i j lt a b. apart c d p q lt a b))
          (Ordered-filter (λ x y. x < y) on_cards (all_slots h) slots_ordered)
          (λ p i.
          let m = flat_map_cases (slots_on h) cards p i in
          let o = on_card m.0 p m.2 in
          Contains-filter on_cards (all_slots h) p o.0 (has_from_contains cards (card_of h p) (subst (Contains cards) (sym o.1) m.1)))
          (λ p i.
          let m = filter_member on_cards (all_slots h) p i in
          Contains-flat_map (slots_on h) cards (card_of h p) p (Contains-from_has cards (card_of h p) m.1)
          (Contains-filter (λ q. eqb (card_of h q) (card_of h p)) (all_slots h) p m.0 (eq-eqb (card_of h p) (card_of h p) refl)))

module _ (h : Heap) (window cards : List ℕ) (valid : IsValid h) (rising : AreCards h cards) (outside : AreOutside h window cards) (lead_in : LeadIn h window cards) where
  -- what a slot references in the window
  abbrev inner : ℕ → List ℕ
  inner p = filter (in_set h window) (named (word h p))

  abbrev on_some : ℕ → Bool
  on_some p = has cards (card_of h p)

  abbrev crosses : Ref → Bool
  crosses e = in_set h window e.target && not (in_set h window e.slot)

  -- a slot that references an object in the window lies on a card where it lies outside
  tells : (p a : ℕ) (b o : Bool) → has cards (card_of h p) ≡ b → in_set h window p ≡ o → Contains (all_slots h) p → word h p ≡ suc a → in_set h window a ≡ true → b ≡ not o
  tells p a true true e f i w t = absurd (false≢true (sym (on_window h valid window cards outside p e) ∙ f))
  tells p a true false e f i w t = refl
  tells p a false true e f i w t = refl
  tells p a false false e f i w t =
      let c : Contains cards (card_of h p) = lead_in (record { slot = p; target = a }) (ref_there h p a i w) t f in
      absurd (false≢true (sym e ∙ has_from_contains cards (card_of h p) c))

  by_slot_in : (p a : ℕ) (b o t : Bool) → (t ≡ true → b ≡ not o) → cond b (cond t (a ∷ []) []) [] ≡ map (λ (e : Ref). e.target) (cond (t && not o) (record { slot = p; target = a } ∷ []) [])
  by_slot_in p a b o true f = ap (λ c. cond c (a ∷ []) []) (f refl) ∙ last (not o)
    where
      last : (c : Bool) → cond c (a ∷ []) [] ≡ map (λ (e : Ref). e.target) (cond c (record { slot = p; target = a } ∷ []) [])
      last true = refl
      last false = refl
  by_slot_in p a true o false f = refl
  by_slot_in p a false o false f = refl

  by_slot_at : (p x : ℕ) → Contains (all_slots h) p → word h p ≡ x
      → cond (on_some p) (filter (in_set h window) (named x)) [] ≡ map (λ (e : Ref). e.target) (filter crosses (map (λ a. record { slot = p; target = a }) (named x)))
  by_slot_at p zero i e = empty (on_some p) []
    where
      empty : (b : Bool) → ((xs : List ℕ) → cond b xs xs ≡ xs)
      empty true xs = refl
      empty false xs = refl
  by_slot_at p (suc a) i e = by_slot_in p a (on_some p) (in_set h window p) (in_set h window a) (tells p a (on_some p) (in_set h window p) refl refl i e)

  by_cards : flat_map (λ c. filter (in_set h window) (flat_map (λ p. named (word h p)) (slots_on h c))) cards ≡ map (λ (e : Ref). e.target) (filter crosses (refs h))
  by_cards =
      flat_same (λ c. filter (in_set h window) (flat_map (λ p. named (word h p)) (slots_on h c))) (λ c. flat_map inner (slots_on h c)) cards
      (λ c i. filter_flat (in_set h window) (λ p. named (word h p)) (slots_on h c))
      ∙ flat_of_flat inner (slots_on h) cards
      ∙ ap (flat_map inner) (card_slots h valid cards rising)
      ∙ flat_of_filter inner on_some (all_slots h)
      ∙ flat_same (λ p. cond (on_some p) (inner p) []) (λ p. map (λ (e : Ref). e.target) (filter crosses (refs_at h p))) (all_slots h) (λ p i. by_slot_at p (word h p) i refl)
      ∙ sym (map_flat (λ (e : Ref). e.target) (λ p. filter crosses (refs_at h p)) (all_slots h))
      ∙ ap (map (λ (e : Ref). e.target)) (sym (filter_flat crosses (refs_at h) (all_slots h)) ∙ ap (filter crosses) (sym (flat_twice h (objects h))))

  -- what the roots and the slots on the cards reference in the window are the seeds
  pub seeds_named : filter (in_set h window) (flat_map named h.roots) ++ flat_map (λ c. filter (in_set h window) (flat_map (λ p. named (word h p)) (slots_on h c))) cards ≡ seeds h window
  seeds_named = ap (λ l. filter (in_set h window) (flat_map named h.roots) ++ l) by_cards

  -- ---- the slots that lead in

  abbrev lead_at : ℕ → List (ℕ × ℕ)
  lead_at p = map (λ a. (p, word h p)) (inner p)

  lead_in_by : (p a : ℕ) (b o t : Bool) → (t ≡ true → b ≡ not o) → cond b (map (λ (x : ℕ). (p, suc a)) (cond t (a ∷ []) [])) []
      ≡ map lead (cond (t && not o) (record { slot = p; target = a } ∷ []) [])
  lead_in_by p a b o true f = ap (λ c. cond c ((p, suc a) ∷ []) []) (f refl) ∙ last (not o)
    where
      last : (c : Bool) → cond c ((p, suc a) ∷ []) [] ≡ map lead (cond c (record { slot = p; target = a } ∷ []) [])
      last true = refl
      last false = refl
  lead_in_by p a true o false f = refl
  lead_in_by p a false o false f = refl

  lead_by_slot : (p x : ℕ) → Contains (all_slots h) p → word h p ≡ x
      → cond (on_some p) (map (λ a. (p, x)) (filter (in_set h window) (named x))) [] ≡ map lead (filter crosses (map (λ a. record { slot = p; target = a }) (named x)))
  lead_by_slot p zero i e = none (on_some p) []
    where
      none : (b : Bool) → ((xs : List (ℕ × ℕ)) → cond b xs xs ≡ xs)
      none true xs = refl
      none false xs = refl
  lead_by_slot p (suc a) i e = lead_in_by p a (on_some p) (in_set h window p) (in_set h window a) (tells p a (on_some p) (in_set h window p) refl refl i e)

  -- the slots on the cards that reference an object in the window are all that lead in
  pub leads_named : flat_map (λ c. flat_map (λ p. map (λ a. (p, word h p)) (filter (in_set h window) (named (word h p)))) (slots_on h c)) cards ≡ slots_into h window
  leads_named =
      flat_of_flat lead_at (slots_on h) cards
      ∙ ap (flat_map lead_at) (card_slots h valid cards rising)
      ∙ flat_of_filter lead_at on_some (all_slots h)
      ∙ flat_same (λ p. cond (on_some p) (lead_at p) []) (λ p. map lead (filter crosses (refs_at h p))) (all_slots h) (λ p i. lead_by_slot p (word h p) i refl)
      ∙ sym (map_flat lead (λ p. filter crosses (refs_at h p)) (all_slots h))
      ∙ ap (map lead) (sym (filter_flat crosses (refs_at h) (all_slots h)) ∙ ap (filter crosses) (sym (flat_twice h (objects h))))
