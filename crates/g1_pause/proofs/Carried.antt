-- A pause that was carried out as it was planned.
use Rattle.std.proofs.Common.{ℕ, List, Ok}
use Rattle.g1_image.specs.Image.{Image}
use Rattle.g1_after.specs.Paused.{IsPaused}
use Rattle.g1_choose.specs.declared.parameters.Cost.{Cost}
use Rattle.g1_copy.specs.Prepared.{IsMadeFor, Prepared}
use Rattle.g1_pause.specs.declared.settings.Choice.{Choice}
use Rattle.g1_pause.specs.Answer.{IsEvacuated, done}
use Rattle.g1_pause.specs.Planned.{IsPlanned}

pub carried_out : (cost : Cost) (choice : Choice) (i j : Image) (p : Prepared) → IsPlanned cost choice i p →
    ((set l : List ℕ) → IsMadeFor p i set l → IsPaused i set l j) → IsEvacuated cost choice i (Ok j)
carried_out cost choice i j p planned pauses =
    done planned.set planned.survivors planned.chosen planned.made.room.survivors planned.made.room.room (pauses planned.set planned.survivors planned.made)
