-- The patches of the slots on rising cards are those of all slots that lie on the cards.
use Rattle.std.proofs.Common.{◌≡◌, ◌≤◌, ◌<◌, ℕ, zero, suc, ◌+◌, ◌*◌, Bool, true, false, cond, ◌&&◌, List, [], ◌∷◌, ◌++◌, map, filter, flat_map, arith, refl, sym, ap, ◌∙◌, eqb, Contains}
use Rattle.std.proofs.Common.{eqb-true, eq-eqb, append_assoc, append-nil}
use Rattle.std.specs.List.Sorted.{IsStrictlyIncreasing}
use Rattle.std.proofs.Math.Nat.{mul-le-mul_right}
use Rattle.std.proofs.lemmas.Grind.{flat_map-append}
use Rattle.g1_words.specs.Heap.{Heap, card_of, objects, word}
use Rattle.g1_words.specs.Lists.{has}
use Rattle.g1_words.specs.References.{Ref, named, refs_at}
use Rattle.g1_words.specs.Valid.{IsValid}
use Rattle.g1_words.proofs.Lists.{flat_of_flat}
use Rattle.g1_words.proofs.Members.{Contains-filter, filter_member, Contains-flat_map, flat_map_cases, has_from_contains, Contains-from_has}
use Rattle.g1_rem.specs.Slots.{all_slots, slots_on}
use Rattle.g1_rem.proofs.Bare.{flat_twice}
use Rattle.g1_rem.proofs.Card.{all_rise, card_there}
use Rattle.g1_rem.proofs.Rising.{Rises, Rises-append, Rises-filter, Rises-one, increasing-Rises}
use Rattle.g1_copy.specs.Patches.{patch, patch_at, patches_at, patches_on}

-- ---- slot by slot

module _ (h : Heap) (l cards : List ℕ) where
  abbrev mentions : Ref → Bool
  mentions e = has cards (card_of h e.slot) && has l e.target

  -- one slot more: its patch counts where it lies on a card
  one_more : (p x : ℕ) (rest : List Ref) (qs : List ℕ) (f : ℕ → List (ℕ × ℕ)) (b c : Bool)
      → f p ≡ map (patch h l) (filter (λ e. has l e.target) (map (λ a. record { slot = p; target = a }) (named x)))
      → has cards (card_of h p) ≡ b → ((a : ℕ) → x ≡ suc a → has l a ≡ c)
      → map (patch h l) (filter mentions rest) ≡ flat_map f qs
      → map (patch h l) (filter mentions (map (λ a. record { slot = p; target = a }) (named x) ++ rest)) ≡ flat_map f (cond b (p ∷ qs) qs)
  one_more p zero rest qs f true c e on to more = more ∙ ap (λ z. z ++ flat_map f qs) (sym e)
  one_more p zero rest qs f false c e on to more = more
  one_more p (suc a) rest qs f false c e on to more = rw on more
  one_more p (suc a) rest qs f true true e on to more =
      let t : has l a ≡ true = to a refl in
      let its : f p ≡ patch h l (record { slot = p; target = a }) ∷ [] = e ∙ rw t refl in
      let left : map (patch h l) (filter mentions (record { slot = p; target = a } ∷ rest)) ≡ patch h l (record { slot = p; target = a }) ∷ map (patch h l) (filter mentions rest) = rw (on, t) refl in
      left ∙ ap (λ z. patch h l (record { slot = p; target = a }) ∷ z) more ∙ ap (λ z. z ++ flat_map f qs) (sym its)
  one_more p (suc a) rest qs f true false e on to more =
      let t : has l a ≡ false = to a refl in
      let its : f p ≡ [] = e ∙ rw t refl in
      let left : map (patch h l) (filter mentions (record { slot = p; target = a } ∷ rest)) ≡ map (patch h l) (filter mentions rest) = rw (on, t) refl in
      left ∙ more ∙ ap (λ z. z ++ flat_map f qs) (sym its)

  by_slots : (ps : List ℕ) → map (patch h l) (filter mentions (flat_map (refs_at h) ps)) ≡ flat_map (patch_at h l) (filter (λ p. has cards (card_of h p)) ps)
  by_slots [] = refl
  by_slots (p ∷ ps) = at (word h p) refl (by_slots ps)
    where
      at : (x : ℕ) → word h p ≡ x → map (patch h l) (filter mentions (flat_map (refs_at h) ps)) ≡ flat_map (patch_at h l) (filter (λ p. has cards (card_of h p)) ps)
          → map (patch h l) (filter mentions (flat_map (refs_at h) (p ∷ ps))) ≡ flat_map (patch_at h l) (filter (λ p. has cards (card_of h p)) (p ∷ ps))
      at zero e more =
          one_more p (word h p) (flat_map (refs_at h) ps) (filter (λ p. has cards (card_of h p)) ps) (patch_at h l) (has cards (card_of h p)) true refl refl
          (λ a f. let clash : zero ≡ suc a = sym e ∙ f in cc) more
      at (suc b) e more =
          one_more p (word h p) (flat_map (refs_at h) ps) (filter (λ p. has cards (card_of h p)) ps) (patch_at h l) (has cards (card_of h p)) (has l b) refl refl
          (λ a f. let same : suc a ≡ suc b = sym f ∙ e in ap (has l) (let k : a ≡ b = omega (arith, same) in k)) more

-- ---- card by card

-- a higher bound, where no member is below it
Rises-from : (lo m : ℕ) (xs : List ℕ) → Rises lo xs → ((x : ℕ) → Contains xs x → m ≤ x) → Rises m xs
Rises-from lo m [] r f = tt
Rises-from lo m (x ∷ xs) r f = (f x (zero, omega arith, refl), r.1)

module _ (h : Heap) (valid : IsValid h) where
  -- the slots on a card are among its words
  on_there : (c p : ℕ) → Contains (slots_on h c) p → (c * h.geometry.k ≤ p) × (p < c * h.geometry.k + h.geometry.k)
  on_there c p i =
      let m = filter_member (λ p. eqb (card_of h p) c) (all_slots h) p i in
      card_there h valid c (c * h.geometry.k) (c * h.geometry.k + h.geometry.k) refl refl p (eqb-true (card_of h p) c m.1)

  -- the slots on rising cards rise
  cards_slots_rise : (lo : ℕ) (cards : List ℕ) → Rises lo cards → Rises (lo * h.geometry.k) (flat_map (slots_on h) cards)
  cards_slots_rise lo [] r = tt
  cards_slots_rise lo (c ∷ cards) r =
      let below : lo * h.geometry.k ≤ c * h.geometry.k = mul-le-mul_right h.geometry.k r.0 in
      let next : (c + 1) * h.geometry.k ≡ c * h.geometry.k + h.geometry.k = omega arith in
      Rises-append (lo * h.geometry.k) ((c + 1) * h.geometry.k) (slots_on h c) (flat_map (slots_on h) cards)
      (Rises-from 0 (lo * h.geometry.k) (slots_on h c) (Rises-filter (λ p. eqb (card_of h p) c) 0 (all_slots h) (all_rise h valid)) (λ p i. let b = on_there c p i in omega (arith, b.0, below)))
      (cards_slots_rise (c + 1) cards r.1)
      (omega (arith, below, next))
      (λ p i. let b = on_there c p i in omega (arith, b.1, next))

  -- they are the slots that lie on the cards
  slots_on_cards : (cards : List ℕ) → IsStrictlyIncreasing cards → filter (λ p. has cards (card_of h p)) (all_slots h) ≡ flat_map (slots_on h) cards
  slots_on_cards cards rising =
      Rises-one 0 (0 * h.geometry.k) (filter (λ p. has cards (card_of h p)) (all_slots h)) (flat_map (slots_on h) cards)
      (Rises-filter (λ p. has cards (card_of h p)) 0 (all_slots h) (all_rise h valid))
      (cards_slots_rise 0 cards (increasing-Rises cards 0 rising (λ lt. omega arith)))
      (λ p i.
      let m = filter_member (λ p. has cards (card_of h p)) (all_slots h) p i in
      Contains-flat_map (slots_on h) cards (card_of h p) p (Contains-from_has cards (card_of h p) m.1)
      (Contains-filter (λ q. eqb (card_of h q) (card_of h p)) (all_slots h) p m.0 (eq-eqb (card_of h p) (card_of h p) refl)))
      (λ p i.
      let m = flat_map_cases (slots_on h) cards p i in
      let t = filter_member (λ q. eqb (card_of h q) m.0) (all_slots h) p m.2 in
      let e : card_of h p ≡ m.0 = eqb-true (card_of h p) m.0 t.1 in
      Contains-filter (λ p. has cards (card_of h p)) (all_slots h) p t.0 (ap (has cards) e ∙ has_from_contains cards m.0 m.1))

-- so the patches of the cards, card by card, are those of the slots on them
pub patches_by_cards : (h : Heap) (l cards : List ℕ) → IsValid h → IsStrictlyIncreasing cards → flat_map (λ c. patches_at h l (slots_on h c)) cards ≡ patches_on h l cards
patches_by_cards h l cards valid rising =
    flat_of_flat (patch_at h l) (slots_on h) cards
    ∙ ap (flat_map (patch_at h l)) (sym (slots_on_cards h valid cards rising))
    ∙ sym (by_slots h l cards (all_slots h))
    ∙ ap (λ es. map (patch h l) (filter (λ e. has cards (card_of h e.slot) && has l e.target) es)) (sym (flat_twice h (objects h)))

-- one element more, pushed behind
pub pushed_more : {A B : Type 0} (f : A → List B) (start out more : List B) (xs : List A) (x : A) → out ≡ start ++ flat_map f xs → more ≡ out ++ f x → more ≡ start ++ flat_map f (xs ++ x ∷ [])
pushed_more f start out more xs x e m =
    m ∙ ap (λ z. z ++ f x) e ∙ append_assoc start (flat_map f xs) (f x)
    ∙ ap (λ z. start ++ z) (ap (λ z. flat_map f xs ++ z) (sym (append-nil (f x))) ∙ sym (flat_map-append f xs (x ∷ [])))
