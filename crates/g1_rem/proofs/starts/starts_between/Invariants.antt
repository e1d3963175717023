use Rattle.std.proofs.Common.{◌≤◌, ◌+◌, ◌*◌, length, map}
use Rattle.g1_words.specs.Geometry.{most_words}
use Rattle.g1_rem.specs.Marks.{Told, objects_from}
use Rattle.g1_rem.specs.Starts.{address_below}
use Rattle.g1_rem.proofs.starts.starts_between.Given as goal

abbrev pub invariant-loop-region : goal.invariant-loop-region
invariant-loop-region l =
    Told l.fn.heap l.begin l.end (objects_from l.fn.heap l.region) (map address_below l.firsts.items)
    × (l.begin + length l.firsts.items * l.fn.heap.geometry.k ≤ 2 * most_words)
