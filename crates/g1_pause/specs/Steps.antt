-- What the steps of a pause give.
use Rattle.std.specs.Prelude.{◌≡◌, ◌<◌, ℕ, List, length}
use Rattle.g1_words.specs.Survivors.{Survivors}
use Rattle.g1_words.specs.Layout.{need, free_regions}
use Rattle.g1_image.specs.Image.{Image}
use Rattle.g1_copy.specs.Plans.{IsPauseOf}
use Rattle.g1_copy.specs.Prepared.{IsMadeFor}
use Rattle.g1_choose.specs.declared.parameters.Cost.{Cost}
use Rattle.g1_pause.specs.declared.settings.Choice.{Choice}
use Rattle.g1_pause.specs.declared.steps.Outcome.{Outcome}
use Rattle.g1_pause.specs.declared.steps.Outcome.TheVariants.{Ready, NoRoom}
use Rattle.g1_pause.specs.declared.steps.Steps.{Steps}
use Rattle.g1_pause.specs.Answer.{IsSetFor}

-- the survivors need more regions than are free
pub record LacksRoom (i : Image) (set survivors : List ℕ) (needed free : ℕ) : Type 0 where
  pub found : Survivors i.heap set survivors
  pub needs : needed ≡ need i.heap survivors
  pub frees : free ≡ length (free_regions i.heap)
  pub lacks : free < needed

-- what follows the choice of a set: a plan for its survivors, and all that the pause writes; or its survivors, which have no room
abbrev pub IsOutcome : Image → List ℕ → Outcome → Type 0
IsOutcome i set (Ready plan prepared) = IsPauseOf i.heap set plan × IsMadeFor prepared i set plan.survivors
IsOutcome i set (NoRoom survivors needed free) = LacksRoom i set survivors.items needed free

-- the steps are those of this pause of the image: its set, and what follows from it
abbrev pub AreStepsOf : Cost → Choice → Image → Steps → Type 0
AreStepsOf cost choice i steps =
    IsSetFor cost i choice steps.collection.regions.items × IsOutcome i steps.collection.regions.items steps.outcome
