-- What first references each object that a search of a set of regions finds.
use Rattle.std.specs.Prelude.{ℕ, not, ◌==◌, List, [], ◌∷◌, ◌++◌, ◌+◌, map, filter, flat_map, length, slice_index}
use Rattle.std.specs.List.{range_with_len}
use Rattle.g1_words.specs.Heap.{Heap, word, card_of, object_at}
use Rattle.g1_words.specs.References.{named, refs}
use Rattle.g1_words.specs.Survivors.{in_set}
use Rattle.g1_explain.specs.declared.finder.Finder.{Finder}
use Rattle.g1_explain.specs.declared.finder.Finder.TheVariants.{Root, Card, Object as Slot}

-- a reference: where it stands, and the address of the object that it leads to
pub record Lead : Type 0 where
  pub finder : Finder
  pub target : ℕ

-- what stands there leads where this reference word does
abbrev pub lead : Finder → ℕ → List Lead
lead f x = map (λ a. record { finder = f; target = a }) (named x)

-- the references of the roots, by number
abbrev pub root_leads : Heap → List Lead
root_leads h = flat_map (λ k. lead (Root k) (slice_index h.roots k)) (range_with_len 0 (length h.roots))

-- those of the slots outside a set of regions, by address
abbrev pub slot_leads : Heap → List ℕ → List Lead
slot_leads h set = map (λ e. record { finder = Card (card_of h e.slot) e.slot; target = e.target }) (filter (λ e. not (in_set h set e.slot)) (refs h))

-- those of the object at an address, which has place m among those found, by slot
abbrev pub object_leads : Heap → ℕ → ℕ → List Lead
object_leads h m a = flat_map (λ s. lead (Slot m a s) (word h (a + 1 + s))) (range_with_len 0 (object_at h a).refs)

-- those of the first n objects found
abbrev pub found_leads : Heap → List ℕ → ℕ → List Lead
found_leads h found n = flat_map (λ m. object_leads h m (slice_index found m)) (range_with_len 0 n)

-- the references that lead into a set, in the order of the search: the roots, the slots outside, the objects found
abbrev pub leads : Heap → List ℕ → List ℕ → List Lead
leads h set found = filter (λ l. in_set h set l.target) (root_leads h ++ (slot_leads h set ++ found_leads h found (length found)))

-- the first reference to each object
abbrev pub first_leads : List Lead → List Lead
first_leads [] = []
first_leads (x ∷ xs) = x ∷ filter (λ y. not (x.target == y.target)) (first_leads xs)
