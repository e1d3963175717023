-- What holds of an image in which the humongous objects are freed that nothing names.
use Rattle.std.specs.Prelude.{◌≡◌, ◌↔◌, ℕ, not, ◌&&◌, ◌||◌, [], ◌<◌, Contains, IsFalse}
use Rattle.std.specs.List.{list_any}
use Rattle.g1_words.specs.declared.object.Object.{Object}
use Rattle.g1_words.specs.declared.region.Kind.TheVariants.{HumongousFirst}
use Rattle.g1_words.specs.Graph.{SameGraph}
use Rattle.g1_words.specs.Heap.{Heap, kind, object_at, objects, start}
use Rattle.g1_words.specs.Lists.{has}
use Rattle.g1_words.specs.References.{Ref, refs, root_targets}
use Rattle.g1_words.specs.Survivors.{in_set}
use Rattle.g1_words.specs.Valid.{IsValid}
use Rattle.g1_image.specs.Image.{Image, region_of_card, remembered_of}
use Rattle.g1_image.specs.Cards.{IsTracked, is_exact}
use Rattle.g1_after.specs.Unnamed.{heap_without, image_without, is_named, lies_in, unnamed_regions}

-- the heap without the objects that nothing names
abbrev pub heap_left : Heap → Heap
heap_left h = heap_without h (unnamed_regions h)

-- its objects are the others, and they stay as they are
abbrev pub ObjectsLeft : Type 0
ObjectsLeft = (h : Heap) → IsValid h → (o : Object) → Contains (objects (heap_left h)) o ↔ (Contains (objects h) o × IsFalse (in_set h (unnamed_regions h) o.at))

-- its references are those of their slots
abbrev pub RefsLeft : Type 0
RefsLeft = (h : Heap) → IsValid h → (e : Ref) → Contains (refs (heap_left h)) e ↔ (Contains (refs h) e × IsFalse (in_set h (unnamed_regions h) e.slot))

-- no root and no reference leads into a region that was freed
abbrev pub NothingIntoUnnamed : Type 0
NothingIntoUnnamed = (h : Heap) → IsValid h
    → ((a : ℕ) → Contains (root_targets (heap_left h)) a → IsFalse (in_set h (unnamed_regions h) a))
    × ((e : Ref) → Contains (refs (heap_left h)) e → IsFalse (in_set h (unnamed_regions h) e.target))

-- it is valid
abbrev pub ValidLeft : Type 0
ValidLeft = (h : Heap) → IsValid h → IsValid (heap_left h)

-- whoever reads from the roots finds the same graph
abbrev pub GraphLeft : Type 0
GraphLeft = (h : Heap) → IsValid h → SameGraph h (heap_left h)

-- a tracked image whose log is processed stays tracked
abbrev pub TrackedLeft : Type 0
TrackedLeft = (i : Image) → IsTracked i → i.log ≡ [] → IsTracked (image_without i (unnamed_regions i.heap))

-- A humongous object is named exactly where a root names it, or a card of its remembered set that lies outside its run is exact.
abbrev pub NamedByCards : Type 0
NamedByCards = (i : Image) (r : ℕ) → IsTracked i → i.log ≡ [] → r < i.heap.geometry.n → kind i.heap r ≡ HumongousFirst
    → is_named i.heap (object_at i.heap (start i.heap r))
    ≡ (has (root_targets i.heap) (start i.heap r)
    || list_any (λ c. not (lies_in i.heap (region_of_card i.heap c) (object_at i.heap (start i.heap r))) && is_exact i.heap r c) (remembered_of i r))
