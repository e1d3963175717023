-- What a search meets again, from the cards that lead into its set.
use Rattle.std.proofs.Common.{◌≡◌, ℕ, zero, suc, ◌+◌, ◌-◌, ◌<◌, ◌≤◌, Bool, true, List, [], ◌∷◌, ◌++◌, length, filter, flat_map, slice_index, refl, sym, ◌∙◌, ap, subst, arith, append_assoc, Contains}
use Rattle.std.specs.List.{range_with_len}
use Rattle.std.proofs.lemmas.Grind.{flat_map-append}
use Rattle.std.proofs.lemmas.List.Elements.{filter-append}
use Rattle.g1_words.specs.Heap.{Heap}
use Rattle.g1_words.specs.Survivors.{in_set, Survivors}
use Rattle.g1_words.specs.Valid.{IsValid}
use Rattle.g1_words.proofs.Members.{map_cases, filter_member}
use Rattle.g1_frontier.specs.Window.{AreCards, AreOutside, LeadIn}
use Rattle.g1_explain.specs.declared.finder.Finder.{Finder}
use Rattle.g1_explain.specs.declared.paths.Leg.{Leg}
use Rattle.g1_explain.specs.Finders.{Lead, root_leads, slot_leads, object_leads, found_leads, leads, first_leads}
use Rattle.g1_explain.specs.Searched.{met, card_leads, AreMet, finder_at, before, IsRoute, none, leg}
use Rattle.g1_explain.proofs.Meets.{met-append, met_grows, range_split}
use Rattle.g1_explain.proofs.FirstLeads.{finders_of, first_member, met_is, met_inner}
use Rattle.g1_explain.proofs.Targets.{searched}
use Rattle.g1_explain.proofs.CardLeads.{by_cards}

-- the finders of all objects found
abbrev pub all_finders : Heap → List ℕ → List ℕ → List Finder
all_finders h set found = finders_of (first_leads (leads h set found))

module _ (h : Heap) (set cards found : List ℕ) (valid : IsValid h) (rising : AreCards h cards) (outside : AreOutside h set cards) (lead_in : LeadIn h set cards) (survivors : Survivors h set found) where
  abbrev into : ℕ → Bool
  into a = in_set h set a

  pub inside : (a : ℕ) → Contains found a → in_set h set a ≡ true
  inside a k =
      let m = map_cases (λ (l : Lead). l.target) (first_leads (leads h set found)) a (subst (λ xs. Contains xs a) (searched h set found survivors) k) in
      let t = filter_member (λ (l : Lead). in_set h set l.target) (root_leads h ++ (slot_leads h set ++ found_leads h found (length found))) m.0 (first_member (leads h set found) m.0 m.1) in
      subst (λ x. in_set h set x ≡ true) m.2 t.1

  -- the references by cards lead into the set as those by slots
  same_inner : (os : List Lead) → filter (λ l. in_set h set l.target) (root_leads h ++ (card_leads h cards ++ os)) ≡ filter (λ l. in_set h set l.target) (root_leads h ++ (slot_leads h set ++ os))
  same_inner os =
      let p : Lead → Bool = λ l. in_set h set l.target in
      filter-append p (root_leads h) (card_leads h cards ++ os)
      ∙ ap (λ l. filter p (root_leads h) ++ l) (filter-append p (card_leads h cards) os ∙ ap (λ l. l ++ filter p os) (by_cards h set cards (in_set h set) valid rising outside lead_in)
      ∙ sym (filter-append p (slot_leads h set) os))
      ∙ sym (filter-append p (root_leads h) (slot_leads h set ++ os))

  pub all_met : met found [] (root_leads h ++ (card_leads h cards ++ found_leads h found (length found))) ≡ all_finders h set found
  all_met =
      met_inner found (λ a. in_set h set a) inside [] (root_leads h ++ (card_leads h cards ++ found_leads h found (length found)))
      ∙ ap (met found []) (same_inner (found_leads h found (length found)))
      ∙ met_is found [] (leads h set found) (searched h set found survivors)

  -- the finders that were met are the first ones of all
  pub met_first : (fs : List Finder) → AreMet h cards found fs → (tail : List Finder) × (all_finders h set found ≡ fs ++ tail)
  met_first fs (m, le, e) =
      let rest : List Lead = flat_map (λ m. object_leads h m (slice_index found m)) (range_with_len (0 + m) (length found - m)) in
      let split : found_leads h found (length found) ≡ found_leads h found m ++ rest =
      ap (flat_map (λ m. object_leads h m (slice_index found m))) (range_split 0 m (length found) le)
      ∙ flat_map-append (λ m. object_leads h m (slice_index found m)) (range_with_len 0 m) (range_with_len (0 + m) (length found - m)) in
      let front : List Lead = root_leads h ++ (card_leads h cards ++ found_leads h found m) in
      let whole : root_leads h ++ (card_leads h cards ++ found_leads h found (length found)) ≡ front ++ rest =
      ap (λ l. root_leads h ++ (card_leads h cards ++ l)) split ∙ ap (λ l. root_leads h ++ l) (sym (append_assoc (card_leads h cards) (found_leads h found m) rest))
      ∙ sym (append_assoc (root_leads h) (card_leads h cards ++ found_leads h found m) rest) in
      let g = met_grows found fs rest in
      (g.0, sym all_met ∙ ap (met found []) whole ∙ met-append found [] front rest ∙ ap (λ l. met found l rest) (sym e) ∙ g.1)

-- ---- routes by more finders

pub finder_more : (fs tail : List Finder) (j : ℕ) → j < length fs → finder_at (fs ++ tail) j ≡ finder_at fs j
finder_more [] tail j lt = absurd (omega (arith, lt))
finder_more (f ∷ fs) tail zero lt = refl
finder_more (f ∷ fs) tail (suc j) lt = finder_more fs tail j (omega (arith, lt))

length_more : (fs tail : List Finder) → length fs ≤ length (fs ++ tail)
length_more [] tail = omega arith
length_more (f ∷ fs) tail = let k = length_more fs tail in omega (arith, k)

pub route_more : (h : Heap) (found : List ℕ) (fs tail : List Finder) (from : ℕ) (legs : List Leg) → IsRoute h found fs from legs → IsRoute h found (fs ++ tail) from legs
route_more h found fs tail from legs none = none
route_more h found fs tail from legs (leg j before_it lt within r) =
    let same = finder_more fs tail j lt in
    let more = length_more fs tail in
    let sub = route_more h found fs tail (before (finder_at fs j)) before_it r in
    subst (λ f. IsRoute h found (fs ++ tail) (suc j) (before_it ++ record { object = Rattle.g1_words.specs.Heap.object_at h (slice_index found j); finder = f } ∷ [])) same
    (leg j before_it (omega (arith, lt, more)) within (subst (λ f. IsRoute h found (fs ++ tail) (before f) before_it) (sym same) sub))
