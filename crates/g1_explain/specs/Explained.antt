-- THE EXPLANATION OF A PAUSE of an image: a text, and the fault for which the pause is refused, if it is.
use Rattle.std.specs.Prelude.{◌≡◌, ℕ, List, [], ◌∷◌, ◌++◌, length, min, flat_map, Option, None, Some, IfNone, Err}
use Rattle.std.specs.List.{range_with_len}
use Rattle.g1_words.specs.declared.fault.Fault.{Fault}
use Rattle.g1_words.specs.declared.fault.Fault.TheVariants.{Uncovered}
use Rattle.g1_words.specs.Heap.{Heap}
use Rattle.g1_image.specs.Image.{Image}
use Rattle.g1_image.specs.Cards.{uncovered, Covered}
use Rattle.g1_choose.specs.declared.parameters.Cost.{Cost}
use Rattle.g1_layout.specs.Plan.{Plan}
use Rattle.g1_copy.specs.Plans.{IsPauseOf}
use Rattle.g1_pause.specs.declared.settings.Choice.{Choice}
use Rattle.g1_pause.specs.declared.steps.Steps.{Steps}
use Rattle.g1_pause.specs.Answer.{IsSetFor, FaultOfChoice, IsEvacuated}
use Rattle.g1_pause.specs.Bought.{IsListed}
use Rattle.g1_text.specs.Lines.{heading, line_text, text_of}
use Rattle.g1_explain.specs.declared.form.Form.{Form}
use Rattle.g1_explain.specs.declared.form.Form.TheVariants as form
use Rattle.g1_explain.specs.Places.{map_line}
use Rattle.g1_explain.specs.Steps.{AreTaken, IsTextOfSteps, covered_lines, refusal_of}
use Rattle.g1_explain.specs.Totals.{refusal_lines}

-- THE LINES OF A PAUSE, as a text: the heading and the refusal, if a slot isn't covered; the heading, what the dirty cards
-- add, and the refusal, if a region that is named can't be collected; else all lines of the steps that are taken
pub data IsTextOfPause (cost : Cost) (choice : Choice) (i : Image) : List ℕ → Option Fault → Type 0 where
  not_covered : {p : ℕ} {ps : List ℕ} → uncovered i ≡ p ∷ ps → IsTextOfPause cost choice i (text_of (heading i ∷ refusal_lines (Uncovered p))) (Some (Uncovered p))
  bad_set : {e : Fault} → Covered i → FaultOfChoice i.heap choice e → IsTextOfPause cost choice i (text_of (heading i ∷ (covered_lines i ++ refusal_lines e))) (Some e)
  taken : (x : Steps) {text : List ℕ} → Covered i → AreTaken cost choice i x → IfNone x.collection.bought (IsListed choice) → IsTextOfSteps cost i x text
      → IsTextOfPause cost choice i text (refusal_of x.outcome)

-- a line for each survivor, by their order
abbrev pub map_text : Heap → Plan → List ℕ
map_text h p = flat_map (λ j. line_text (map_line h p.survivors p.places j)) (range_with_len 0 (min (length p.survivors) (length p.places)))

-- THE MAP OF A PAUSE, as a text: where its survivors go; nothing, if the pause is refused
pub data IsMapOfPause (cost : Cost) (choice : Choice) (i : Image) : List ℕ → Option Fault → Type 0 where
  no_cover : {p : ℕ} {ps : List ℕ} → uncovered i ≡ p ∷ ps → IsMapOfPause cost choice i [] (Some (Uncovered p))
  no_pause : {e : Fault} → Covered i → IsEvacuated cost choice i (Err e) → IsMapOfPause cost choice i [] (Some e)
  placed : (set : List ℕ) (plan : Plan) → Covered i → IsSetFor cost i choice set → IsPauseOf i.heap set plan → IsMapOfPause cost choice i (map_text i.heap plan) None

-- THE EXPLANATION of a pause in a form
abbrev pub IsExplained : Cost → Choice → Form → Image → List ℕ → Option Fault → Type 0
IsExplained cost choice form.Steps i text refused = IsTextOfPause cost choice i text refused
IsExplained cost choice form.Map i text refused = IsMapOfPause cost choice i text refused
