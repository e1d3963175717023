-- What a pause has made ready before it changes anything.
use Rattle.std.specs.Prelude.{ℕ, List}
use Rattle.g1_image.specs.Image.{Image}
use Rattle.g1_choose.specs.declared.parameters.Cost.{Cost}
use Rattle.g1_copy.specs.Prepared.{IsMadeFor, Prepared}
use Rattle.g1_pause.specs.declared.settings.Choice.{Choice}
use Rattle.g1_pause.specs.Answer.{IsSetFor}

-- what is ready is for the pause of i that evacuates the survivors of the choice's set
pub record IsPlanned (cost : Cost) (choice : Choice) (i : Image) (p : Prepared) : Type 0 where
  pub set : List ℕ
  pub survivors : List ℕ
  pub chosen : IsSetFor cost i choice set
  pub made : IsMadeFor p i set survivors
