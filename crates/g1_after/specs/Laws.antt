-- The laws that public functions of this crate prove.
use Rattle.std.specs.Prelude.{◌≡◌, ◌↔◌, IsFalse, List, ℕ, ◌++◌, Contains}
use Rattle.g1_words.specs.declared.object.Object.{Object}
use Rattle.g1_words.specs.Heap.{objects}
use Rattle.g1_words.specs.Valid.{IsValid}
use Rattle.g1_words.specs.References.{Ref, refs, root_targets}
use Rattle.g1_words.specs.Survivors.{in_set}
use Rattle.g1_words.specs.Layout.{HasRoom, forward}
use Rattle.g1_words.specs.Moves.{moved_object}
use Rattle.g1_words.specs.Copy.{IsCopy}
use Rattle.g1_words.specs.Graph.{SameGraph}
use Rattle.g1_image.specs.Image.{Image}
use Rattle.g1_image.specs.Cards.{IsTracked}
use Rattle.g1_after.specs.Made.{image_paused}
use Rattle.g1_after.specs.Paused.{IsPaused, Paused, remaining}
use Rattle.g1_after.specs.Unnamed.{unnamed_regions}

-- an image and a set have one image after
abbrev pub OneImageAfter : Type 0
OneImageAfter = (i : Image) (set : List ℕ) (j k : Image) → Paused i set j → Paused i set k → j ≡ k

-- there is an image after
abbrev pub PauseExists : Type 0
PauseExists = (i : Image) (set l : List ℕ) → IsValid i.heap → HasRoom i.heap set l → IsPaused i set l (image_paused i set l)

-- the objects after are exactly the kept ones that weren't freed, each where it was moved
abbrev pub ObjectsPaused : Type 0
ObjectsPaused = (i : Image) (set l : List ℕ) (j : Image) → IsValid i.heap → HasRoom i.heap set l → (p : IsPaused i set l j)
    → (o : Object) → Contains (objects j.heap) o
    ↔ ((k : Object) × Contains (remaining i.heap set l (unnamed_regions p.between.heap)) k × (o ≡ moved_object (forward i.heap l) k))

-- each of them is a copy, its references renamed
abbrev pub CopiesPaused : Type 0
CopiesPaused = (i : Image) (set l : List ℕ) (j : Image) → IsValid i.heap → HasRoom i.heap set l → (p : IsPaused i set l j)
    → (o : Object) → Contains (remaining i.heap set l (unnamed_regions p.between.heap)) o → IsCopy (forward i.heap l) i.heap j.heap o

-- the image after is tracked, so that a further pause may follow
abbrev pub TrackedPaused : Type 0
TrackedPaused = (i : Image) (set l : List ℕ) (j : Image) → IsTracked i → HasRoom i.heap set l → IsPaused i set l j → IsTracked j

-- whoever reads from the roots finds the same graph after a pause
abbrev pub GraphStays : Type 0
GraphStays = (i : Image) (set l : List ℕ) (j : Image) → IsValid i.heap → HasRoom i.heap set l → IsPaused i set l j → SameGraph i.heap j.heap

-- no root and no slot of an object, dead or not, leads into the set or into the run of an object that was freed
abbrev pub NothingIntoFreed : Type 0
NothingIntoFreed = (i : Image) (set l : List ℕ) (j : Image) → IsValid i.heap → HasRoom i.heap set l → (p : IsPaused i set l j)
    → ((a : ℕ) → Contains (root_targets j.heap) a → IsFalse (in_set i.heap (set ++ unnamed_regions p.between.heap) a))
    × ((e : Ref) → Contains (refs j.heap) e → IsFalse (in_set i.heap (set ++ unnamed_regions p.between.heap) e.target))
