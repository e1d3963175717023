-- How many share some work, and how much one of them draws at once.
use Rattle.std.specs.Prelude.{ℕ, ◌<◌, ◌≤◌}

-- the workers, and the items that one draws at once
pub record Team : Type 0 where
  pub workers : ℕ
  pub chunk : ℕ

-- the most workers that share some work: each needs a share of a dealer, which has as many
abbrev pub most_workers : ℕ
most_workers = 64

-- the most items that a worker draws at once
abbrev pub most_chunk : ℕ
most_chunk = 65536

-- n workers may share some work
abbrev pub AreWorkers : ℕ → Type 0
AreWorkers n = (0 < n) × (n ≤ most_workers)

-- a worker may draw n items at once
abbrev pub IsChunk : ℕ → Type 0
IsChunk n = (0 < n) × (n ≤ most_chunk)

-- this many workers may share some work, each of which draws this many items at once
abbrev pub IsTeam : ℕ → ℕ → Type 0
IsTeam workers chunk = AreWorkers workers × IsChunk chunk
