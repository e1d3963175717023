-- Humongous objects that nothing names, and an image in which they are freed.
use Rattle.std.specs.Prelude.{ℕ, Bool, not, ◌&&◌, ◌||◌, List, [], ◌+◌, ◌*◌, ◌==◌, map, filter, nat_le, nat_lt, if◌then◌else◌}
use Rattle.std.specs.List.{range_with_len, list_any}
use Rattle.g1_words.specs.declared.object.Object.{Object}
use Rattle.g1_words.specs.Lists.{has}
use Rattle.g1_words.specs.Heap.{Heap, free_region, is_first, kind, objects, region, region_of, regions, start, word}
use Rattle.g1_words.specs.References.{refs, root_targets}
use Rattle.g1_words.specs.Survivors.{in_set}
use Rattle.g1_image.specs.Image.{Image, remembered_of, card_in}

-- the humongous objects, by address
abbrev pub humongous : Heap → List Object
humongous h = filter (λ o. is_first (kind h (region_of h o.at))) (objects h)

-- the word at an address is one of the object's
abbrev pub has_word : Object → ℕ → Bool
has_word o p = nat_le o.at p && nat_lt p (o.at + o.size)

-- a root names the object, or a slot of another object does
abbrev pub is_named : Heap → Object → Bool
is_named h o = has (root_targets h) o.at || list_any (λ e. (e.target == o.at) && not (has_word o e.slot)) (refs h)

-- the humongous objects that no root names and no slot of another object
abbrev pub unnamed : Heap → List Object
unnamed h = filter (λ o. not (is_named h o)) (humongous h)

-- a word of the object lies in region r
abbrev pub lies_in : Heap → ℕ → Object → Bool
lies_in h r o = nat_lt o.at (start h r + h.geometry.w) && nat_lt (start h r) (o.at + o.size)

-- the regions of these objects' runs, rising
abbrev pub runs_of : Heap → List Object → List ℕ
runs_of h os = filter (λ r. list_any (lies_in h r) os) (regions h)

-- the heap with these regions free and all their words 0
abbrev pub heap_without : Heap → List ℕ → Heap
heap_without h rs = record {
  geometry = h.geometry;
  words = map (λ q. if in_set h rs q then 0 else word h q) (range_with_len 0 (h.geometry.n * h.geometry.w));
  regions = map (λ r. if has rs r then free_region else region h r) (regions h);
  roots = h.roots;
  current = h.current;
}

-- the image with these regions free: their remembered sets are empty, and their cards leave every other
abbrev pub image_without : Image → List ℕ → Image
image_without i rs = record {
  heap = heap_without i.heap rs;
  remembered = map (λ r. if has rs r then [] else filter (λ c. not (card_in i.heap rs c)) (remembered_of i r)) (regions i.heap);
  log = i.log;
}

-- the regions of the humongous objects that nothing names
abbrev pub unnamed_regions : Heap → List ℕ
unnamed_regions h = runs_of h (unnamed h)
