-- The words of a heap, the last of which, all 0, may not be in memory yet.
use Rattle.std.specs.Prelude.{◌<◌, ◌+◌, ◌*◌, ℕ, List, length, slice_index_or}
use Rattle.g1_words.specs.declared.region.Region.{Region}
use Rattle.g1_words.specs.Heap.{free_region}

-- all words, and how many of them are in memory: those behind them are 0
pub record Words : Type 0 where
  pub items : List ℕ
  pub laid : ℕ

-- the used words of regions of this width are in memory
abbrev pub AreLaid : ℕ → List Region → ℕ → Type 0
AreLaid w rs laid = (r i : ℕ) → r < length rs → i < w → i < (slice_index_or rs r free_region).top → r * w + i < laid
