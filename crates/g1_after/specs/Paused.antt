-- The image after an evacuation pause: the survivors are moved, and then the humongous objects freed that nothing names, all at once.
use Rattle.std.specs.Prelude.{◌≡◌, ℕ, List, not, filter}
use Rattle.g1_words.specs.declared.object.Object.{Object}
use Rattle.g1_words.specs.Heap.{Heap}
use Rattle.g1_words.specs.Layout.{kept}
use Rattle.g1_words.specs.Survivors.{Survivors, in_set}
use Rattle.g1_image.specs.Image.{Image}
use Rattle.g1_after.specs.Moved.{IsMoved}
use Rattle.g1_after.specs.Unnamed.{image_without, unnamed_regions}

-- j is the image after the pause of i that evacuates the survivors l of the set
pub record IsPaused (i : Image) (set l : List ℕ) (j : Image) : Type 0 where
  pub between : Image
  pub moved : IsMoved i set l between
  pub freed : j ≡ image_without between (unnamed_regions between.heap)

-- j is the image after the pause of i that evacuates the set
abbrev pub Paused : Image → List ℕ → Image → Type 0
Paused i set j = (l : List ℕ) × Survivors i.heap set l × IsPaused i set l j

-- the kept objects, except those that stand in these regions
abbrev pub remaining : Heap → List ℕ → List ℕ → List ℕ → List Object
remaining h set l freed = filter (λ o. not (in_set h freed o.at)) (kept h set l)
