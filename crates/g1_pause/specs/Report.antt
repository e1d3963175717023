-- What a pause tells of itself.
use Rattle.std.specs.Prelude.{◌≡◌, ℕ, List, length, map, sum}
use Rattle.g1_words.specs.Heap.{region_of}
use Rattle.g1_words.specs.Survivors.{Survivors}
use Rattle.g1_words.specs.Layout.{sizes_of, to_space}
use Rattle.g1_image.specs.Image.{Image}
use Rattle.g1_after.specs.Moved.{IsMoved}
use Rattle.g1_after.specs.Unnamed.{unnamed}
use Rattle.g1_choose.specs.declared.parameters.Cost.{Cost}
use Rattle.g1_pause.specs.declared.settings.Choice.{Choice}
use Rattle.g1_pause.specs.declared.report.Report.{Report}
use Rattle.g1_pause.specs.Answer.{IsSetFor}

-- the report names the set, to-space, how many objects and words survived, and where the humongous objects began that were freed
pub record IsReport (cost : Cost) (choice : Choice) (i : Image) (x : Report) : Type 0 where
  pub survivors : List ℕ
  pub set : IsSetFor cost i choice x.set.items
  pub found : Survivors i.heap x.set.items survivors
  pub to : x.to.items ≡ to_space i.heap survivors
  pub objects : x.objects ≡ length survivors
  pub words : x.words ≡ sum (sizes_of i.heap survivors)
  pub between : Image
  pub moved : IsMoved i x.set.items survivors between
  pub humongous : x.humongous.items ≡ map (λ o. region_of i.heap o.at) (unnamed between.heap)
