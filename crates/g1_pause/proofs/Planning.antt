-- What each step of a pause asks of the steps before it.
use Rattle.std.proofs.Common.{◌≡◌, ℕ, ◌⊎◌, inl, inr, ◌<◌, ◌≤◌, List, length, map, All, Result, Ok, Err, refl, sym, ◌∙◌, ap, subst}
use Rattle.std.specs.Prelude.{Option, None, Some, IfErr, IfSome}
use Rattle.std.specs.List.Sorted.{IsStrictlyIncreasing}
use Rattle.std.proofs.lemmas.Bool.{cases_lt}
use Rattle.g1_words.specs.declared.fault.Fault.{Fault}
use Rattle.g1_words.specs.declared.fault.Fault.TheVariants.{Memory, Room}
use Rattle.g1_words.specs.Heap.{Heap, regions}
use Rattle.g1_words.specs.Layout.{need, free_regions}
use Rattle.g1_words.specs.Survivors.{AllOrdinary, Survivors}
use Rattle.g1_words.specs.Valid.{IsValid}
use Rattle.g1_image.specs.Image.{Image}
use Rattle.g1_image.specs.Cards.{IsTracked, refined}
use Rattle.g1_rem.specs.Starts.{card_count}
use Rattle.g1_frontier.specs.declared.found.Seen.{Seen}
use Rattle.g1_frontier.specs.Found.{slots_into, IsSeen}
use Rattle.g1_frontier.specs.Laws.{AreRefinedOf, RefinedLeadIn}
use Rattle.g1_frontier.specs.Window.{AreRegions, AreCards, AreOutside, LeadIn}
use Rattle.g1_choose.specs.declared.parameters.Cost.{Cost}
use Rattle.g1_layout.specs.Laws.{SurvivorsPlaceable}
use Rattle.g1_layout.specs.Placed.{CanPlace}
use Rattle.g1_layout.specs.Plan.{Plan, plan_of}
use Rattle.g1_rem.specs.EntryCards.{cards_into}
use Rattle.g1_copy.specs.Laws.{CardsLeadIn, CardsStandOutside}
use Rattle.g1_copy.specs.Plans.{IsPauseOf}
use Rattle.g1_pause.specs.declared.settings.Choice.{Choice}
use Rattle.g1_pause.specs.Answer.{IsSetFor, IsEvacuated, no_room}
use Rattle.g1_pause.specs.Steps.{LacksRoom}
use Rattle.g1_pause.proofs.CollectionSets.{set_ordinary, set_regions}

-- what one worker saw has the slots that lead in
pub seen_leads : (h : Heap) (set l : List ℕ) (o : Option Seen) → IfSome o (IsSeen h set l) → IfSome o (λ s. s.leads.items ≡ slots_into h set)
seen_leads h set l None seen = tt
seen_leads h set l (Some s) seen = seen.leads

-- the cards are cards of the heap, rising
pub cards_there : (h : Heap) (cards set : List ℕ) (remembered : List (List ℕ)) → CardsStandOutside → cards ≡ cards_into h remembered set → AreCards h cards
cards_there h cards set remembered outside e =
    let k = outside h remembered set in
    record { rise = subst IsStrictlyIncreasing (sym e) k.0; below = subst (All (λ c. c < card_count h)) (sym e) k.1 }

-- a set whose survivors need more regions than are free has no pause
pub refused_for_room : (cost : Cost) (choice : Choice) (i : Image) (set l : List ℕ) (needed free : ℕ) → IsSetFor cost i choice set → LacksRoom i set l needed free
    → IsEvacuated cost choice i (Err (Room needed free))
refused_for_room cost choice i set l needed free chosen short =
    let lacks : length (free_regions i.heap) < need i.heap l = rw (short.needs, short.frees) at short.lacks in
    rw (short.needs, short.frees) (no_room set l chosen short.found lacks)

module _ (cost : Cost) (choice : Choice) (i : Image) (h : Heap) (heap : h ≡ i.heap) (set : List ℕ) (chosen : IsSetFor cost i choice set) where
  -- the set is one of regions
  pub set_there : (xs : List ℕ) → xs ≡ set → AreRegions h xs
  set_there xs e = subst (λ g. AreRegions g xs) (sym heap) (subst (AreRegions i.heap) (sym e) (set_regions cost i choice set chosen))

  -- the cards lead into the set
  pub set_leads : (cards xs ys : List ℕ) (remembered : List (List ℕ)) → IsTracked i → CardsLeadIn → RefinedLeadIn → cards ≡ cards_into h remembered ys → ys ≡ set → xs ≡ set
      → remembered ≡ map (refined i) (regions i.heap) → AreOutside h xs cards × LeadIn h xs cards
  set_leads cards xs ys remembered tracked cards_lead refined_lead e f k s =
      let same : cards ≡ cards_into i.heap (map (refined i) (regions i.heap)) set = e ∙ (λ t. cards_into (heap t) (s t) (f t)) in
      let are : AreRefinedOf i set cards = subst (AreRefinedOf i set) (sym same) (cards_lead i set tracked.image (set_ordinary cost i choice set chosen)) in
      let lead = refined_lead i set cards tracked.image tracked.covered (set_regions cost i choice set chosen).below are in
      subst (λ g. AreOutside g xs cards × LeadIn g xs cards) (sym heap) (subst (λ zs. AreOutside i.heap zs cards × LeadIn i.heap zs cards) (sym k) lead)

  -- its survivors can be placed
  pub set_places : (xs ys l m : List ℕ) → IsTracked i → SurvivorsPlaceable → xs ≡ set → ys ≡ set → l ≡ m → Survivors h ys m → CanPlace h xs l
  set_places xs ys l m tracked placeable e f k found =
      let valid : IsValid h = subst IsValid (sym heap) tracked.image.heap in
      let ordinary : AllOrdinary h set = subst (λ g. AllOrdinary g set) (sym heap) (set_ordinary cost i choice set chosen) in
      let can : CanPlace h set m = placeable h set m valid (set_there set refl).rise ordinary (subst (λ zs. Survivors h zs m) f found) in
      subst (λ zs. CanPlace h zs l) (sym e) (subst (CanPlace h set) (sym k) can)

  -- where there is no room for them, they need more regions than are free
  pub set_lacks_room : {X : Type 0} (l m : List ℕ) (r : Result X Fault) (needed free : ℕ) → r ≡ Err (Room needed free) → l ≡ m → Survivors i.heap set m
      → (length (free_regions h) < need h l → r ≡ Err (Room (need h l) (length (free_regions h))))
      → (need h l ≤ length (free_regions h) → IfErr r (λ e. e ≡ Memory))
      → LacksRoom i set m needed free
  set_lacks_room {X} l m r needed free is k found room memory =
      elim (cases_lt (length (free_regions h)) (need h l)) [
        | inr le ↦ (let clash : Room needed free ≡ Memory = subst (λ q. IfErr q (λ e. e ≡ Memory)) is (memory le) in cc)
        | inl lt ↦
            let same : ◌≡◌ {A = Result X Fault} (Err (Room needed free)) (Err (Room (need h l) (length (free_regions h)))) = sym is ∙ room lt in
            let n : needed ≡ need h l = cc in
            let f : free ≡ length (free_regions h) = cc in
            record {
              found = found;
              needs = n ∙ ap (need h) k ∙ ap (λ g. need g m) heap;
              frees = f ∙ ap (λ g. length (free_regions g)) heap;
              lacks = rw (n, f) lt;
            }
      ]

  -- where they are, the plan is one for the set and its survivors
  pub set_planned : (xs ys zs l m : List ℕ) (p : Plan) (r : Result Plan Fault) → IsTracked i → SurvivorsPlaceable → xs ≡ set → ys ≡ set → zs ≡ set → l ≡ m → Survivors h ys m
      → r ≡ Ok p → p ≡ plan_of h xs l → (length (free_regions h) < need h l → r ≡ Err (Room (need h l) (length (free_regions h))))
      → IsPauseOf i.heap zs p
  set_planned xs ys zs l m p r tracked placeable e f k n found is plan room =
      let can : CanPlace h xs l = set_places xs ys l m tracked placeable e f n found in
      let there : Survivors h zs l = subst (λ us. Survivors h us l) (f ∙ sym k) (subst (Survivors h ys) (sym n) found) in
      let of_plan : IsPauseOf h zs (plan_of h xs l) = record {
        made = record { placeable = can; room = within (cases_lt (length (free_regions h)) (need h l)); plan = refl };
        same = e ∙ sym k;
        survivors = there;
      } in
      subst (λ g. IsPauseOf g zs p) heap (subst (IsPauseOf h zs) (sym plan) of_plan)
    where
      within : (length (free_regions h) < need h l) ⊎ (need h l ≤ length (free_regions h)) → need h l ≤ length (free_regions h)
      within (inr le) = le
      within (inl lt) = let clash : Ok p ≡ Err (Room (need h l) (length (free_regions h))) = sym is ∙ room lt in cc
