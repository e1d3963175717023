-- What is placed.
use Rattle.std.specs.Prelude.{◌≡◌, ◌≤◌, length}
use Rattle.g1_words.specs.Layout.{need, free_regions, sizes_of, to_space}
use Rattle.g1_layout.specs.Placed.{CanLay}
use Rattle.g1_layout.specs.declared.placing.Batch.{Batch}

-- the survivors can be laid, the sizes are theirs, and the regions are the first free ones, as many as they need
pub record IsBatch (b : Batch) : Type 0 where
  pub fits : CanLay b.heap.now b.survivors.now
  pub sizes : b.sizes.now ≡ sizes_of b.heap.now b.survivors.now
  pub regions : b.to_space.now ≡ to_space b.heap.now b.survivors.now
  pub room : need b.heap.now b.survivors.now ≤ length (free_regions b.heap.now)
