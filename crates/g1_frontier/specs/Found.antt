-- What a search found, and what one worker sees that searches alone.
use Rattle.std.specs.Prelude.{◌≡◌, ℕ, suc, not, ◌&&◌, List, map, filter, IfSome}
use Rattle.g1_words.specs.Heap.{Heap}
use Rattle.g1_words.specs.Layout.{sizes_of}
use Rattle.g1_words.specs.References.{Ref, refs}
use Rattle.g1_words.specs.Survivors.{in_set, Survivors}
use Rattle.g1_frontier.specs.declared.found.Found.{Found}
use Rattle.g1_frontier.specs.declared.found.Seen.{Seen}

-- a reference's slot with its word
abbrev pub lead : Ref → ℕ × ℕ
lead e = (e.slot, suc e.target)

-- the slots outside the window that reference an object in it, by address, each with its word
abbrev pub slots_into : Heap → List ℕ → List (ℕ × ℕ)
slots_into h window = map lead (filter (λ e. in_set h window e.target && not (in_set h window e.slot)) (refs h))

-- it saw the sizes of these survivors, and the slots that lead into the window
pub record IsSeen (h : Heap) (window l : List ℕ) (s : Seen) : Type 0 where
  pub sizes : s.sizes.items ≡ sizes_of h l
  pub leads : s.leads.items ≡ slots_into h window

-- the survivors are found, and what was seen on the way is as it is in the heap
pub record IsFound (h : Heap) (window : List ℕ) (f : Found) : Type 0 where
  pub survivors : Survivors h window f.survivors.items
  pub seen : IfSome f.seen (IsSeen h window f.survivors.items)
