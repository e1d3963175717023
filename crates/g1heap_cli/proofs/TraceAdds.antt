-- The lines that explain a pause are those of the line that asks for it.
use Rattle.std.proofs.Common.{◌≡◌, inr, ℕ, true, List, Some, subst}
use Rattle.std.specs.Prelude.{IfNone}
use Rattle.g1_image.specs.Image.{Image}
use Rattle.g1_image.specs.Cards.{Covered}
use Rattle.g1_choose.specs.declared.parameters.Cost.{Cost}
use Rattle.g1_pause.specs.declared.settings.Choice.{Choice}
use Rattle.g1_pause.specs.declared.settings.Choice.TheVariants.{Budget}
use Rattle.g1_pause.specs.declared.steps.Steps.{Steps}
use Rattle.g1_pause.specs.Bought.{IsListed}
use Rattle.g1_explain.specs.Explained.{taken as taken_all}
use Rattle.g1_explain.specs.Steps.{AreTaken, refusal_of}
use Rattle.g1_trace.specs.declared.session.Session.{Session}
use Rattle.g1_trace.specs.Session.{AsksPause, image_of}
use Rattle.g1heap_cli.specs.Tracing.{AddsExplanation, AddsPause, AddsSteps}

-- the steps of a pause were taken of an image, and their lines are added
pub pause_added : (cost : Cost) (choice : Choice) (i j : Image) (steps : Steps) (old new : List ℕ) → i ≡ j → Covered i → AreTaken cost choice i steps
    → IfNone steps.collection.bought (IsListed choice) → AddsSteps cost i steps old new → AddsPause cost choice j old new
pause_added cost choice i j steps old new same covered are listed (lines, is, adds) =
    subst (λ (x : Image). AddsPause cost choice x old new) same (lines, refusal_of steps.outcome, taken_all steps covered are listed is, adds)

-- they explain the line that asks for the pause
pub explains_asked : (cost price : Cost) (choice : Choice) (b : ℕ) (i : Image) (s : Session) (line old new : List ℕ) → price ≡ cost → choice ≡ Budget b → AsksPause s line b → image_of s ≡ Some i
    → AddsPause price choice i old new → AddsExplanation true cost s line old new
explains_asked cost price choice b i s line old new same budget asks there added =
    let (lines, refused, is, adds) = subst (λ (c : Choice). AddsPause cost c i old new) budget (subst (λ (c : Cost). AddsPause c choice i old new) same added) in
    (lines, inr (b, i, refused, asks, there, is), adds)
