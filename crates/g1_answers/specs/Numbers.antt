-- The numbers of a command: which of them are refused.
use Rattle.std.specs.Prelude.{◌≡◌, ◌≢◌, ◌<◌, ℕ, length, None, Some}
use Rattle.g1_choose.specs.declared.parameters.Cost.{Cost}
use Rattle.g1_pause.specs.declared.settings.Choice.{Choice}
use Rattle.g1_pause.specs.declared.settings.Choice.TheVariants.{Budget, Given}
use Rattle.g1_pause.specs.Settings.{Settings, IsRefused}
use Rattle.g1_answers.specs.declared.question.Sharing.{Sharing}
use Rattle.g1_answers.specs.declared.question.Pause.{Pause}
use Rattle.g1_answers.specs.declared.question.Question.{Question}
use Rattle.g1_answers.specs.declared.question.Question.TheVariants.{Regions, Cover, Live, Candidates}
use Rattle.g1_answers.specs.declared.question.NewImage.{NewImage}
use Rattle.g1_answers.specs.declared.question.NewImage.TheVariants.{Repacked, Paused}

-- this setting is the lowest that is out of its range: of the workers, the chunk and the costs
abbrev pub RefusesNumbers : Sharing → Cost → ℕ → Type 0
RefusesNumbers sharing cost which = IsRefused sharing.workers sharing.chunk cost which

-- the costs of a command that takes none, and the sharing of one that does its work alone
abbrev pub free : Cost
free = record { fixed = 0; dirty = 0; card = 0; byte = 0 }

abbrev pub alone : Sharing
alone = record { workers = 1; chunk = 1 }

abbrev pub sharing_asked : Question → Sharing
sharing_asked (Regions sharing) = sharing
sharing_asked Cover = alone
sharing_asked (Live sharing) = sharing
sharing_asked (Candidates sharing cost budget) = sharing

abbrev pub cost_asked : Question → Cost
cost_asked (Candidates sharing cost budget) = cost
cost_asked _ = free

-- the setting for which a question is refused
abbrev pub RefusesQuestion : Question → ℕ → Type 0
RefusesQuestion question which = RefusesNumbers (sharing_asked question) (cost_asked question) which

-- a pause has a budget beside regions
abbrev pub HasBoth : Pause → Type 0
HasBoth pause = (pause.budget ≢ None) × (0 < length pause.regions.items)

-- the setting for which a pause is refused: that of its numbers, else 4, a budget beside regions
pub data RefusesPause (pause : Pause) : ℕ → Type 0 where
  by_number : {which : ℕ} → RefusesNumbers pause.sharing pause.cost which → RefusesPause pause which
  by_choice : ((which : ℕ) → RefusesNumbers pause.sharing pause.cost which → ⊥) → HasBoth pause → RefusesPause pause 4

-- the setting for which a new image is refused
abbrev pub RefusesImage : NewImage → ℕ → Type 0
RefusesImage (Repacked sharing) which = RefusesNumbers sharing free which
RefusesImage (Paused pause) which = RefusesPause pause which

-- the choice of a pause: its budget, or else its regions
abbrev pub IsChoiceOf : Pause → Choice → Type 0
IsChoiceOf pause (Budget budget) = pause.budget ≡ Some budget
IsChoiceOf pause (Given regions) = (pause.budget ≡ None) × (regions.items ≡ pause.regions.items)

-- the settings by which a new image is made
abbrev pub AreSettingsOf : NewImage → Settings → Type 0
AreSettingsOf (Repacked sharing) settings = Unit {0}
AreSettingsOf (Paused pause) settings = (settings.cost ≡ pause.cost) × IsChoiceOf pause settings.choice
