-- The headers of survivors that are read before these are copied.
use Rattle.std.specs.Prelude.{◌≡◌, ◌≤◌, ◌<◌, ◌+◌, ℕ, List, slice_index}
use Rattle.g1_words.specs.Heap.{Heap}
use Rattle.g1_copy.specs.declared.headers.Headers.{Headers}

-- the headers from one index up to another are read, and the i-th survivor is one of these or comes after the last
pub record AreAhead (h : Heap) (l : List ℕ) (i : ℕ) (a : Headers) : Type 0 where
  pub begun : a.from ≤ i
  pub next : i ≤ a.to
  pub few : a.to ≤ a.from + 16
  pub told : (k : ℕ) → a.from + k < a.to → slice_index a.headers k ≡ slice_index h.words (slice_index l (a.from + k))
