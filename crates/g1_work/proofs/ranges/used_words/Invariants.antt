use Rattle.std.proofs.Common.{◌≡◌, ◌-◌, ◌^◌, min, take}
use Rattle.g1_work.specs.Ranges.{used}
use Rattle.g1_work.proofs.ranges.used_words.Given as goal

abbrev pub invariant-loop-region : goal.invariant-loop-region
invariant-loop-region l = l.words ≡ min (used (take l.region-index l.regions)) (2 ^ 64 - 1)
