-- Which objects of a collection set survive, and in which order they are found.
use Rattle.std.specs.Prelude.{◌≡◌, ◌↔◌, ℕ, Bool, not, ◌&&◌, List, [], ◌∷◌, ◌++◌, map, filter, flat_map, Contains, ◌==◌}
use Rattle.g1_words.specs.declared.region.Kind.TheVariants.{Ordinary}
use Rattle.g1_words.specs.Lists.{has}
use Rattle.g1_words.specs.Heap.{Heap, kind, region_of}
use Rattle.g1_words.specs.References.{refs, root_targets, targets}
use Rattle.g1_words.specs.Live.{Reached}

-- the regions of a collection set are ordinary ones
abbrev pub AllOrdinary : Heap → List ℕ → Type 0
AllOrdinary h set = (r : ℕ) → Contains set r → kind h r ≡ Ordinary

-- whether an address lies in a region of the set
abbrev pub in_set : Heap → List ℕ → ℕ → Bool
in_set h set a = has set (region_of h a)

-- what the roots name in the set, by root number, then what slots outside the set name in it, by slot address
abbrev pub seeds : Heap → List ℕ → List ℕ
seeds h set =
    filter (in_set h set) (root_targets h)
    ++ map (λ e. e.target) (filter (λ e. in_set h set e.target && not (in_set h set e.slot)) (refs h))

-- what the slots of the object at an address name in the set, by slot
abbrev pub children : Heap → List ℕ → ℕ → List ℕ
children h set a = filter (in_set h set) (targets h a)

-- the first occurrence of each number
abbrev pub firsts : List ℕ → List ℕ
firsts [] = []
firsts (x ∷ xs) = x ∷ filter (λ y. not (x == y)) (firsts xs)

-- the list has exactly what is reached, each once: the seeds first, then the children of the first member, of the second, and so on
pub record IsBreadthFirst (seeds : List ℕ) (children : ℕ → List ℕ) (l : List ℕ) : Type 0 where
  pub reached : (a : ℕ) → Contains l a ↔ Reached seeds children a
  pub in_order : l ≡ firsts (seeds ++ flat_map children l)

-- the survivors of a set of regions, in the order in which they are found
abbrev pub Survivors : Heap → List ℕ → List ℕ → Type 0
Survivors h set l = IsBreadthFirst (seeds h set) (children h set) l
