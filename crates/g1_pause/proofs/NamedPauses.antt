-- What each step of the pause of named regions asks of the steps before it.
use Rattle.std.proofs.Common.{◌≡◌, ℕ, ◌⊎◌, inl, inr, false, ◌<◌, ◌≤◌, ◌*◌, List, length, map, filter, All, Result, Ok, Err, refl, sym, ◌∙◌, ap, subst, arith, Contains}
use Rattle.std.proofs.lemmas.Bool.{cases_lt}
use Rattle.std.proofs.lemmas.List.Kept.{IsStrictlyIncreasing-filter}
use Rattle.g1_words.specs.declared.fault.Fault.{Fault}
use Rattle.g1_words.specs.declared.fault.Fault.TheVariants.{Room}
use Rattle.g1_words.specs.Heap.{Heap, regions}
use Rattle.g1_words.specs.Layout.{need, free_regions}
use Rattle.g1_words.specs.Lists.{has}
use Rattle.g1_words.specs.Survivors.{in_set, AllOrdinary, Survivors}
use Rattle.g1_words.specs.Valid.{IsValid}
use Rattle.g1_words.proofs.Members.{filter_member, Contains-from_has}
use Rattle.g1_words.proofs.Computed.{range_below}
use Rattle.g1_words.proofs.Lists.{all_from_in}
use Rattle.g1_image.specs.Image.{Image, IsImage}
use Rattle.g1_image.specs.Cards.{Covered, refined}
use Rattle.g1_rem.proofs.Rising.{Rises-range, Rises-increasing}
use Rattle.g1_frontier.specs.Laws.{AreRefinedOf, RefinedLeadIn}
use Rattle.g1_frontier.specs.Window.{AreRegions, AreOutside, LeadIn}
use Rattle.g1_choose.specs.Named.{AreTakeable}
use Rattle.g1_layout.specs.Laws.{SurvivorsPlaceable}
use Rattle.g1_layout.specs.Placed.{CanPlace}
use Rattle.g1_layout.specs.Plan.{Plan, plan_of}
use Rattle.g1_rem.specs.EntryCards.{cards_into}
use Rattle.g1_copy.specs.Laws.{CardsLeadIn, CardsStandOutside, RefinedFindPatches}
use Rattle.g1_copy.specs.Patches.{all_patches, patches_on}
use Rattle.g1_copy.specs.Plans.{IsPauseOf}

-- named regions are regions of the heap, rising
pub named_regions : (h : Heap) (list set : List ℕ) → set ≡ filter (has list) (regions h) → AreRegions h set
named_regions h list set e = subst (AreRegions h) (sym e) (record {
  rise = IsStrictlyIncreasing-filter (has list) (regions h) (Rises-increasing 0 (regions h) (Rises-range 0 h.geometry.n));
  below = all_from_in (λ r. r < h.geometry.n) (filter (has list) (regions h)) (λ r k. omega (arith, range_below 0 h.geometry.n r (filter_member (has list) (regions h) r k).0));
})

-- and ordinary ones
pub named_ordinary : (h : Heap) (list set : List ℕ) → AreTakeable h list → set ≡ filter (has list) (regions h) → AllOrdinary h set
named_ordinary h list set named e r c =
    let f = filter_member (has list) (regions h) r (subst (λ xs. Contains xs r) e c) in
    named.ordinary r (Contains-from_has list r f.1)

module _ (i t : Image) (image : i ≡ t) (h : Heap) (its : h ≡ i.heap) (good : IsImage i) (covered : Covered t) (set : List ℕ) (known : AreRegions t.heap set) (ordinary : AllOrdinary t.heap set) where
  heap : h ≡ t.heap
  heap = its ∙ ap (λ (j : Image). j.heap) image

  whole : IsImage t
  whole = subst IsImage image good

  -- the set is one of regions
  pub set_there : AreRegions h set
  set_there = subst (λ g. AreRegions g set) (sym heap) known

  -- the cards lead into it
  pub set_leads : (cards : List ℕ) (remembered : List (List ℕ)) → CardsLeadIn → RefinedLeadIn → cards ≡ cards_into h remembered set
      → remembered ≡ map (refined t) (regions t.heap) → AreOutside h set cards × LeadIn h set cards
  set_leads cards remembered cards_lead refined_lead e s =
      let same : cards ≡ cards_into t.heap (map (refined t) (regions t.heap)) set = e ∙ (λ z. cards_into (heap z) (s z) set) in
      let are : AreRefinedOf t set cards = subst (AreRefinedOf t set) (sym same) (cards_lead t set whole ordinary) in
      let lead = refined_lead t set cards whole covered known.below are in
      subst (λ g. AreOutside g set cards × LeadIn g set cards) (sym heap) lead

  -- its survivors can be placed
  pub set_places : (l m : List ℕ) → SurvivorsPlaceable → l ≡ m → Survivors h set m → CanPlace h set l
  set_places l m placeable same found =
      let valid : IsValid h = subst IsValid (sym heap) whole.heap in
      subst (CanPlace h set) (sym same) (placeable h set m valid set_there.rise (subst (λ g. AllOrdinary g set) (sym heap) ordinary) found)

  -- where they are, the plan is one for the set and its survivors
  pub set_planned : (l m : List ℕ) (p : Plan) (r : Result Plan Fault) → SurvivorsPlaceable → l ≡ m → Survivors h set m
      → r ≡ Ok p → p ≡ plan_of h set l → (length (free_regions h) < need h l → r ≡ Err (Room (need h l) (length (free_regions h))))
      → IsPauseOf h set p
  set_planned l m p r placeable same found is plan room =
      let of_plan : IsPauseOf h set (plan_of h set l) = record {
        made = record { placeable = set_places l m placeable same found; room = within (cases_lt (length (free_regions h)) (need h l)); plan = refl };
        same = refl;
        survivors = subst (Survivors h set) (sym same) found;
      } in
      subst (IsPauseOf h set) (sym plan) of_plan
    where
      within : (length (free_regions h) < need h l) ⊎ (need h l ≤ length (free_regions h)) → need h l ≤ length (free_regions h)
      within (inr le) = le
      within (inl lt) = let clash : Ok p ≡ Err (Room (need h l) (length (free_regions h))) = sym is ∙ room lt in cc

  -- the cards lie in none of the plan's regions
  pub set_outside : (cards : List ℕ) (remembered : List (List ℕ)) (p : Plan) → CardsStandOutside → cards ≡ cards_into h remembered set → IsPauseOf h set p
      → All (λ c. in_set h p.set (c * h.geometry.k) ≡ false) cards
  set_outside cards remembered p outside e pause =
      subst (λ xs. All (λ c. in_set h xs (c * h.geometry.k) ≡ false) cards) (sym pause.same)
      (subst (All (λ c. in_set h set (c * h.geometry.k) ≡ false)) (sym e) (outside h remembered set).2)

  -- the patches on them are all that there are
  pub set_patched : (cards : List ℕ) (remembered : List (List ℕ)) (p : Plan) (xs : List (ℕ × ℕ)) → RefinedFindPatches → cards ≡ cards_into h remembered set
      → remembered ≡ map (refined t) (regions t.heap) → IsPauseOf h set p → xs ≡ patches_on h p.survivors cards
      → xs ≡ all_patches t.heap set p.survivors
  set_patched cards remembered p xs law e s pause told =
      let same : cards ≡ cards_into t.heap (map (refined t) (regions t.heap)) set = e ∙ (λ z. cards_into (heap z) (s z) set) in
      told ∙ (λ z. patches_on (heap z) p.survivors (same z))
      ∙ law t set p.survivors whole covered known.rise ordinary (subst (λ g. Survivors g set p.survivors) heap pause.survivors)

  -- and it is a pause of the image's heap
  pub set_paused : (p : Plan) → IsPauseOf h set p → IsPauseOf t.heap set p
  set_paused p pause = subst (λ g. IsPauseOf g set p) heap pause
