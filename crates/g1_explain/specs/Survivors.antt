-- The lines of the survivors of a pause.
use Rattle.std.specs.Prelude.{ℕ, List, ◌∷◌, ◌++◌, map, codes}
use Rattle.g1_words.specs.Heap.{Heap, object_at}
use Rattle.g1_explain.specs.Finders.{Lead, leads, first_leads}
use Rattle.g1_explain.specs.Lines.{object_words, finder_words}

-- survivor A SIZE/SLOTS by FINDER
abbrev pub survivor_line : Heap → Lead → List (List ℕ)
survivor_line h l = object_words (codes "survivor") (object_at h l.target) ++ codes "by" ∷ finder_words l.finder

-- a line for each survivor, with the first reference to it
abbrev pub survivor_lines : Heap → List ℕ → List ℕ → List (List (List ℕ))
survivor_lines h set survivors = map (survivor_line h) (first_leads (leads h set survivors))
