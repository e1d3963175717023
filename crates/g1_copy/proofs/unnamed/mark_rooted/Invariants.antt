use Rattle.std.proofs.Common.{flat_map, take, eqb}
use Rattle.std.specs.List.{list_any}
use Rattle.g1_words.specs.Heap.{region_of}
use Rattle.g1_words.specs.References.{named}
use Rattle.g1_words.specs.Marks.{AreMarked}
use Rattle.g1_copy.proofs.unnamed.mark_rooted.Given as goal

abbrev pub invariant-loop-root : goal.invariant-loop-root
invariant-loop-root l = AreMarked (λ r. list_any (λ a. eqb (region_of l.heap a) r) (flat_map named (take l.root-index l.root-items))) l.initial.rooted l.rooted
