-- What a pause costs: V = fixed + dirty * d + the sum over its regions of card * rsSize + byte * live bytes.
use Rattle.std.specs.Prelude.{ℕ, List, ◌+◌, ◌*◌, ◌<◌, ◌^◌, sum}
use Rattle.g1_choose.specs.declared.parameters.Cost.{Cost}

-- each parameter has 32 bits
pub record IsCost (c : Cost) : Type 0 where
  pub fixed : c.fixed < 2 ^ 32
  pub dirty : c.dirty < 2 ^ 32
  pub card : c.card < 2 ^ 32
  pub byte : c.byte < 2 ^ 32

-- the cost of a region with so many remembered cards and so many live bytes
abbrev pub cost : Cost → ℕ → ℕ → ℕ
cost c cards live = c.card * cards + c.byte * live

-- V, the cost of a pause: d is the number of dirty cards, and the costs are those of its regions
abbrev pub total : Cost → ℕ → List ℕ → ℕ
total c d costs = c.fixed + c.dirty * d + sum costs
