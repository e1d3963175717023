use Rattle.std.proofs.Common.{◌≡◌, ◌-◌, ◌^◌, take}
use Rattle.std.specs.Prelude.{min, sum}
use Rattle.g1_tables.proofs.overview.total.Given as goal

abbrev pub invariant-loop-number : goal.invariant-loop-number
invariant-loop-number l = l.sum ≡ min (sum (take l.number-index l.numbers)) (2 ^ 64 - 1)
