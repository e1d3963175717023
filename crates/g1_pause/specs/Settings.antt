-- How a pause is run, and what it is to collect.
use Rattle.std.specs.Prelude.{ℕ}
use Rattle.g1_choose.specs.declared.parameters.Cost.{Cost}
use Rattle.g1_choose.specs.Cost.{IsCost}
use Rattle.g1_work.specs.Team.{AreWorkers, IsChunk}
use Rattle.g1_pause.specs.declared.settings.Choice.{Choice}

-- the workers, the items that one draws at once, the cost parameters, and which regions to collect
pub record Settings : Type 0 where
  pub workers : ℕ
  pub chunk : ℕ
  pub cost : Cost
  pub choice : Choice

-- the number under which settings are refused: the lowest of what is out of range
pub data IsRefused (workers chunk : ℕ) (cost : Cost) : ℕ → Type 0 where
  by_workers : (AreWorkers workers → ⊥) → IsRefused workers chunk cost 1
  by_chunk : AreWorkers workers → (IsChunk chunk → ⊥) → IsRefused workers chunk cost 2
  by_cost : AreWorkers workers → IsChunk chunk → (IsCost cost → ⊥) → IsRefused workers chunk cost 3
