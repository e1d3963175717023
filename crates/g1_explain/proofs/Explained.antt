-- The explanation of a pause, from its parts.
use Rattle.std.proofs.Common.{◌≡◌, ◌≢◌, ◌<◌, ◌⊎◌, inl, inr, ℕ, List, [], ◌∷◌, ◌++◌, length, flat_map, refl, sym, ◌∙◌, ap, subst, Vec, Global}
use Rattle.std.specs.Prelude.{min, Option, None, Some, IfNone, Result, Ok, Err, IfOk, OnOk}
use Rattle.std.specs.List.{range_with_len}
use Rattle.g1_words.specs.declared.fault.Fault.{Fault}
use Rattle.g1_words.specs.declared.fault.Fault.TheVariants.{Memory, Uncovered, Room}
use Rattle.g1_words.specs.Heap.{Heap}
use Rattle.g1_words.specs.Layout.{need, free_regions}
use Rattle.g1_image.specs.Image.{Image}
use Rattle.g1_image.specs.Cards.{uncovered, Covered}
use Rattle.g1_choose.specs.declared.parameters.Cost.{Cost}
use Rattle.g1_copy.specs.Plans.{IsPauseOf}
use Rattle.g1_copy.specs.Prepared.{Prepared, IsMadeFor}
use Rattle.g1_layout.specs.Plan.{Plan}
use Rattle.g1_pause.specs.declared.settings.Choice.{Choice}
use Rattle.g1_pause.specs.declared.steps.Outcome.TheVariants.{Ready, NoRoom}
use Rattle.g1_pause.specs.declared.steps.Steps.{Steps}
use Rattle.g1_pause.specs.Answer.{FaultOfChoice}
use Rattle.g1_pause.specs.Answer as answer
use Rattle.g1_pause.specs.Bought.{IsListed}
use Rattle.g1_pause.specs.Steps.{LacksRoom, IsOutcome, AreStepsOf}
use Rattle.g1_text.specs.Lines.{heading, line_text, text_of}
use Rattle.g1_explain.specs.Explained.{IsTextOfPause, not_covered, bad_set, taken, IsMapOfPause, no_cover, no_pause, placed, map_text}
use Rattle.g1_explain.specs.Places.{map_line}
use Rattle.g1_explain.specs.Steps.{AreTaken, covered_lines, step_lines, refusal_of}
use Rattle.g1_explain.specs.Totals.{refusal_lines}
use Rattle.g1_explain.proofs.StepLines.{pause_end}
use Rattle.g1_explain.proofs.Texts.{line_then, lines_then}

module _ (cost : Cost) (choice : Choice) (i : Image) where
  -- what a search for a slot without cover ends with
  abbrev pub EndsBare : Fault → Type 0
  EndsBare e = (e ≡ Memory) ⊎ ((p : ℕ) × (rest : List ℕ) × (uncovered i ≡ p ∷ rest) × (e ≡ Uncovered p))

  -- ---- the lines

  text_so : (text other : List ℕ) (o p : Option Fault) → other ≡ text → p ≡ o → IsTextOfPause cost choice i text o → IsTextOfPause cost choice i other p
  text_so text other o p e f h = subst (λ (q : Option Fault). IsTextOfPause cost choice i other q) (sym f) (subst (λ (t : List ℕ). IsTextOfPause cost choice i t o) (sym e) h)

  -- a slot isn't covered
  pub bare_end : {X : Type 0} (r : Result (Option Fault) X) (e : Fault) (none a b : List ℕ) → EndsBare e → none ≡ [] → a ≡ none ++ line_text (heading i)
      → OnOk r (b ≡ a ++ text_of (refusal_lines e)) → IfOk r (λ o. o ≡ Some e) → IfOk r (λ _. e ≢ Memory) → IfOk r (λ o. IsTextOfPause cost choice i b o)
  bare_end (Err f) e none a b u n x y z m = tt
  bare_end (Ok o) e none a b (inl memory) n x y z m = absurd (m memory)
  bare_end (Ok o) e none a b (inr u) n x y z m =
      text_so (text_of (heading i ∷ refusal_lines (Uncovered u.0))) b (Some (Uncovered u.0)) o
      (line_then none a b (heading i) (refusal_lines e) x y ∙ (λ k. n k ++ text_of (heading i ∷ refusal_lines (u.3 k)))) (z ∙ ap Some u.3) (not_covered u.2)

  -- a region that is named can't be collected
  pub bad_set_end : {X : Type 0} (r : Result (Option Fault) X) (e : Fault) (a b c : List ℕ) → Covered i → (e ≡ Memory) ⊎ FaultOfChoice i.heap choice e → a ≡ line_text (heading i)
      → b ≡ a ++ text_of (covered_lines i) → OnOk r (c ≡ b ++ text_of (refusal_lines e)) → IfOk r (λ o. o ≡ Some e) → IfOk r (λ _. e ≢ Memory)
      → IfOk r (λ o. IsTextOfPause cost choice i c o)
  bad_set_end (Err f) e a b c covered u x y z w m = tt
  bad_set_end (Ok o) e a b c covered (inl memory) x y z w m = absurd (m memory)
  bad_set_end (Ok o) e a b c covered (inr u) x y z w m =
      text_so (text_of (heading i ∷ (covered_lines i ++ refusal_lines e))) c (Some e) o
      (line_then [] a c (heading i) (covered_lines i ++ refusal_lines e) x (lines_then a b c (covered_lines i) (refusal_lines e) y z)) w (bad_set covered u)

  -- the steps are taken
  pub taken_end : {X : Type 0} (r : Result (Option Fault) X) (x : Steps) (a b c : List ℕ) → Covered i → AreTaken cost choice i x → IfNone x.collection.bought (IsListed choice)
      → a ≡ line_text (heading i) → b ≡ a ++ text_of (covered_lines i) → OnOk r (c ≡ b ++ text_of (step_lines cost i x))
      → IfOk r (λ o. o ≡ refusal_of x.outcome) → IfOk r (λ o. IsTextOfPause cost choice i c o)
  taken_end (Err f) x a b c covered t listed p q s w = tt
  taken_end (Ok o) x a b c covered t listed p q s w =
      text_so c c (refusal_of x.outcome) o refl w (taken x covered t listed (pause_end cost i i x [] a b c refl refl p q s))

  -- ---- the map

  map_so : (text other : List ℕ) (o p : Option Fault) → other ≡ text → p ≡ o → IsMapOfPause cost choice i text o → IsMapOfPause cost choice i other p
  map_so text other o p e f h = subst (λ (q : Option Fault). IsMapOfPause cost choice i other q) (sym f) (subst (λ (t : List ℕ). IsMapOfPause cost choice i t o) (sym e) h)

  pub bare_map : {X : Type 0} (r : Result (Option Fault) X) (e : Fault) (text : List ℕ) → EndsBare e → text ≡ [] → IfOk r (λ o. o ≡ Some e) → IfOk r (λ _. e ≢ Memory)
      → IfOk r (λ o. IsMapOfPause cost choice i text o)
  bare_map (Err f) e text u n z m = tt
  bare_map (Ok o) e text (inl memory) n z m = absurd (m memory)
  bare_map (Ok o) e text (inr u) n z m = map_so [] text (Some (Uncovered u.0)) o n (z ∙ ap Some u.3) (no_cover u.2)

  pub bad_set_map : {X : Type 0} (r : Result (Option Fault) X) (e : Fault) (text : List ℕ) → Covered i → (e ≡ Memory) ⊎ FaultOfChoice i.heap choice e → text ≡ []
      → IfOk r (λ o. o ≡ Some e) → IfOk r (λ _. e ≢ Memory) → IfOk r (λ o. IsMapOfPause cost choice i text o)
  bad_set_map (Err f) e text covered u n z m = tt
  bad_set_map (Ok o) e text covered (inl memory) n z m = absurd (m memory)
  bad_set_map (Ok o) e text covered (inr u) n z m = map_so [] text (Some e) o n z (no_pause covered (answer.bad_set u))

  -- the survivors have no room
  pub lacking_map : {X : Type 0} (r : Result (Option Fault) X) (x : Steps) (survivors : Vec ℕ Global) (needed free : ℕ) (text : List ℕ) → x.outcome ≡ NoRoom survivors needed free → Covered i
      → AreStepsOf cost choice i x → text ≡ [] → IfOk r (λ o. o ≡ Some (Room needed free)) → IfOk r (λ o. IsMapOfPause cost choice i text o)
  lacking_map (Err f) x survivors needed free text is covered steps n z = tt
  lacking_map (Ok o) x survivors needed free text is covered steps n z =
      let set : List ℕ = x.collection.regions.items in
      let lacks : LacksRoom i set survivors.items needed free = subst (IsOutcome i set) is steps.1 in
      map_so [] text (Some (Room (need i.heap survivors.items) (length (free_regions i.heap)))) o n (z ∙ (λ k. Some (Room (lacks.needs k) (lacks.frees k))))
      (no_pause covered (answer.no_room set survivors.items steps.0 lacks.found (subst (λ (m : ℕ). length (free_regions i.heap) < m) lacks.needs (subst (λ (m : ℕ). m < needed) lacks.frees lacks.lacks))))

  -- they have room
  pub placed_map : (x : Steps) (plan : Plan) (prepared : Prepared) (h : Heap) (survivors places none text : List ℕ) → x.outcome ≡ Ready plan prepared → Covered i → AreStepsOf cost choice i x
      → h ≡ i.heap → survivors ≡ plan.survivors → places ≡ plan.places → none ≡ []
      → text ≡ none ++ flat_map (λ j. line_text (map_line h survivors places j)) (range_with_len 0 (min (length survivors) (length places))) → IsMapOfPause cost choice i text None
  placed_map x plan prepared h survivors places none text is covered steps e f g n p =
      let set : List ℕ = x.collection.regions.items in
      let made : IsPauseOf i.heap set plan × IsMadeFor prepared i set plan.survivors = subst (IsOutcome i set) is steps.1 in
      map_so (map_text i.heap plan) text None None
      (p ∙ (λ k. n k ++ flat_map (λ j. line_text (map_line (e k) (f k) (g k) j)) (range_with_len 0 (min (length (f k)) (length (g k)))))) refl
      (placed set plan covered steps.0 made.0)
