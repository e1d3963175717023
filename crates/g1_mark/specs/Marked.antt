-- The regions that are searched for live objects.
use Rattle.std.specs.Prelude.{ℕ, not, List, filter}
use Rattle.g1_words.specs.Heap.{Heap, kind, regions, is_free}

-- the regions that aren't free, rising
abbrev pub used : Heap → List ℕ
used h = filter (λ r. not (is_free (kind h r))) (regions h)
