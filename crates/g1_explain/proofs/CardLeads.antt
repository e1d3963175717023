-- The slots on some cards have those references of the slots outside a set that are looked for, if these all lie on them.
use Rattle.std.proofs.Common.{◌≡◌, ℕ, zero, suc, Bool, true, false, not, cond, ◌&&◌, List, [], ◌∷◌, map, filter, flat_map, Contains, refl}
use Rattle.std.proofs.Common.{sym, ap, ◌∙◌}
use Rattle.std.proofs.lemmas.Bool.{false≢true}
use Rattle.g1_words.specs.Heap.{Heap, word, card_of, objects}
use Rattle.g1_words.specs.Lists.{has}
use Rattle.g1_words.specs.References.{Ref, named, refs_at, refs}
use Rattle.g1_words.specs.Survivors.{in_set}
use Rattle.g1_words.specs.Valid.{IsValid}
use Rattle.g1_words.proofs.Firsts.{filter_twice}
use Rattle.g1_words.proofs.Members.{has_from_contains}
use Rattle.g1_words.proofs.Lists.{flat_of_flat, flat_of_filter}
use Rattle.g1_rem.specs.Slots.{all_slots, slots_on}
use Rattle.g1_rem.proofs.Bare.{flat_twice}
use Rattle.g1_frontier.specs.Window.{AreCards, AreOutside}
use Rattle.g1_frontier.proofs.Seeds.{filter_flat, map_flat, flat_same, on_card, ref_there, on_window, card_slots, filter_map}
use Rattle.g1_explain.specs.declared.finder.Finder.TheVariants.{Card}
use Rattle.g1_explain.specs.Finders.{Lead, lead, slot_leads}
use Rattle.g1_explain.specs.Searched.{card_leads}

module _ (h : Heap) (window cards : List ℕ) (to : ℕ → Bool) (valid : IsValid h) (rising : AreCards h cards) (outside : AreOutside h window cards)
    (there : (e : Ref) → Contains (refs h) e → to e.target ≡ true → in_set h window e.slot ≡ false → Contains cards (card_of h e.slot)) where
  abbrev on_cards : ℕ → Bool
  on_cards p = has cards (card_of h p)

  abbrev of_ref : Ref → Lead
  of_ref e = record { finder = Card (card_of h e.slot) e.slot; target = e.target }

  abbrev of_slot : ℕ → List Lead
  of_slot p = lead (Card (card_of h p) p) (word h p)

  -- a slot that has such a reference lies on a card if it lies outside
  tells : (p a : ℕ) (b o : Bool) → has cards (card_of h p) ≡ b → in_set h window p ≡ o → Contains (all_slots h) p → word h p ≡ suc a → to a ≡ true → b ≡ not o
  tells p a true true e f i w t = absurd (false≢true (sym (on_window h valid window cards outside p e) ∙ f))
  tells p a true false e f i w t = refl
  tells p a false true e f i w t = refl
  tells p a false false e f i w t =
      let c : Contains cards (card_of h p) = there (record { slot = p; target = a }) (ref_there h p a i w) t f in
      absurd (false≢true (sym e ∙ has_from_contains cards (card_of h p) c))

  abbrev crosses : Ref → Bool
  crosses e = not (in_set h window e.slot) && to e.target

  abbrev enters : Lead → Bool
  enters l = to l.target

  by_slot_in : (p a : ℕ) (b o t : Bool) → (t ≡ true → b ≡ not o)
      → cond b (cond t (of_ref (record { slot = p; target = a }) ∷ []) []) [] ≡ map of_ref (cond (not o && t) (record { slot = p; target = a } ∷ []) [])
  by_slot_in p a b o true f = ap (λ c. cond c (of_ref (record { slot = p; target = a }) ∷ []) []) (f refl) ∙ last o
    where
      last : (c : Bool) → cond (not c) (of_ref (record { slot = p; target = a }) ∷ []) [] ≡ map of_ref (cond (not c && true) (record { slot = p; target = a } ∷ []) [])
      last true = refl
      last false = refl
  by_slot_in p a true true false f = refl
  by_slot_in p a true false false f = refl
  by_slot_in p a false true false f = refl
  by_slot_in p a false false false f = refl

  by_slot_at : (p x : ℕ) → Contains (all_slots h) p → word h p ≡ x
      → cond (on_cards p) (filter enters (lead (Card (card_of h p) p) x)) [] ≡ map of_ref (filter crosses (map (λ a. record { slot = p; target = a }) (named x)))
  by_slot_at p zero i e = empty (on_cards p)
    where
      empty : (b : Bool) → cond b (filter enters []) [] ≡ []
      empty true = refl
      empty false = refl
  by_slot_at p (suc a) i e = by_slot_in p a (on_cards p) (in_set h window p) (to a) (tells p a (on_cards p) (in_set h window p) refl refl i e)

  -- the references of the slots on the cards, by slot
  by_slots : card_leads h cards ≡ flat_map of_slot (filter on_cards (all_slots h))
  by_slots =
      flat_same (λ c. flat_map (λ p. lead (Card c p) (word h p)) (slots_on h c)) (λ c. flat_map of_slot (slots_on h c)) cards
      (λ c i. flat_same (λ p. lead (Card c p) (word h p)) of_slot (slots_on h c) (λ p j. ap (λ d. lead (Card d p) (word h p)) (sym (on_card h c p j).1)))
      ∙ flat_of_flat of_slot (slots_on h) cards
      ∙ ap (flat_map of_slot) (card_slots h valid cards rising)

  pub by_cards : filter enters (card_leads h cards) ≡ filter enters (slot_leads h window)
  by_cards =
      ap (filter enters) by_slots
      ∙ filter_flat enters of_slot (filter on_cards (all_slots h))
      ∙ flat_of_filter (λ p. filter enters (of_slot p)) on_cards (all_slots h)
      ∙ flat_same (λ p. cond (on_cards p) (filter enters (of_slot p)) []) (λ p. map of_ref (filter crosses (refs_at h p))) (all_slots h) (λ p i. by_slot_at p (word h p) i refl)
      ∙ sym (map_flat of_ref (λ p. filter crosses (refs_at h p)) (all_slots h))
      ∙ ap (map of_ref) (sym (filter_flat crosses (refs_at h) (all_slots h)) ∙ ap (filter crosses) (sym (flat_twice h (objects h)))
      ∙ sym (filter_twice (λ (e : Ref). to e.target) (λ (e : Ref). not (in_set h window e.slot)) (refs h)))
      ∙ sym (filter_map enters of_ref (filter (λ (e : Ref). not (in_set h window e.slot)) (refs h)))
