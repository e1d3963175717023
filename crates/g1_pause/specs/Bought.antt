-- What a budget goes by.
use Rattle.std.specs.Prelude.{◌≡◌, ⊤, map, length}
use Rattle.g1_words.specs.Heap.{regions}
use Rattle.g1_words.specs.Live.{IsLiveBytes}
use Rattle.g1_image.specs.Image.{Image}
use Rattle.g1_image.specs.Cards.{refined}
use Rattle.g1_choose.specs.declared.parameters.Cost.{Cost}
use Rattle.g1_choose.specs.Candidate.{IsCandidateOrder}
use Rattle.g1_choose.specs.Bought.{IsPaid}
use Rattle.g1_pause.specs.declared.choosing.Bought.{Bought}
use Rattle.g1_pause.specs.declared.settings.Choice.{Choice}
use Rattle.g1_pause.specs.declared.settings.Choice.TheVariants.{Budget, Given}

-- the budget that is the choice, the live bytes, the candidates by efficiency at the refined sets and these bytes, and how many of them the budget pays
pub record IsBought (cost : Cost) (choice : Choice) (i : Image) (b : Bought) : Type 0 where
  pub asked : choice ≡ Budget b.budget
  pub live : IsLiveBytes i.heap b.live.items
  pub order : IsCandidateOrder cost i.heap (map (refined i) (regions i.heap)) b.live.items b.order.items
  pub paid : IsPaid cost (length i.log) b.budget b.order.items b.taken

-- the choice lists its regions
abbrev pub IsListed : Choice → Type 0
IsListed (Budget b) = ⊥
IsListed (Given list) = ⊤
