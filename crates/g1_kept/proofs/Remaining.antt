-- What has to be in the heap after is an object.
use Rattle.std.proofs.Common.{ℕ, ◌+◌, List, Contains}
use Rattle.g1_words.specs.Heap.{Heap, word, object_at, objects}
use Rattle.g1_words.specs.Valid.{IsValid}
use Rattle.g1_words.proofs.Sound.{sound}
use Rattle.g1_same.proofs.Heaps.{slot_of, object_named, slot_names}
use Rattle.g1_kept.specs.Keeps.{Remains, outside, root, slot}

pub remains_object : (set : List ℕ) (g h : Heap) → IsValid g → (a : ℕ) → Remains set g h a → Contains (objects g) (object_at g a)
remains_object set g h valid a (outside o) = o.object
remains_object set g h valid a (root c of_set) = (sound g valid).root_named a c
remains_object set g h valid b (slot {a = a} r c of_set) =
    let s = slot_of g a b c in
    object_named g (word g (a + 1 + s.0)) b valid (slot_names g a s.0 valid (remains_object set g h valid a r) s.1) s.2
