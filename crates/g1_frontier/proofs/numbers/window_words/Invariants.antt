use Rattle.std.proofs.Common.{◌≡◌, ◌-◌, ◌^◌, min, map, take}
use Rattle.g1_words.specs.Heap.{region}
use Rattle.g1_work.specs.Ranges.{ordinary_used}
use Rattle.g1_frontier.proofs.numbers.window_words.Given as goal

abbrev pub invariant-loop-number : goal.invariant-loop-number
invariant-loop-number l = l.words ≡ min (ordinary_used (map (region l.heap) (take l.number-index l.window))) (2 ^ 64 - 1)
