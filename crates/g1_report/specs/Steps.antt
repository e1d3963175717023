-- THE PATH from a root by the names of its slots.
use Rattle.std.specs.Prelude.{ℕ, List, [], ◌∷◌, ◌++◌, Option, Some, None, option_and_then, option_map, codes, decimal, slice_index}
use Rattle.g1_words.specs.Heap.{Heap}
use Rattle.g1_report.specs.declared.objects.ObjectWords.{ObjectWords}
use Rattle.g1_report.specs.Program.{ProgramNames, WordsOf, WordName, object_of, slot_name, words_text}
use Rattle.g1_report.specs.Runs.{runs_of, ends_text}

-- a name behind a dot, unless it is empty, and a number in brackets
abbrev pub dotted : List ℕ → List ℕ
dotted [] = []
dotted (c ∷ cs) = codes "." ++ c ∷ cs

abbrev pub bracketed : Option ℕ → List ℕ
bracketed None = []
bracketed (Some n) = codes "[" ++ (decimal n ++ codes "]")

-- a slot by its name, or by its number if it has none
abbrev pub slot_text : Option WordName → ℕ → List ℕ
slot_text None slot = codes " slot " ++ decimal slot
slot_text (Some w) slot = dotted w.name ++ bracketed w.number

-- the step by a slot of an object, if there is one
abbrev pub step_text : ProgramNames → Option WordsOf → ℕ → List ℕ
step_text p object slot = slot_text (option_and_then (λ o. slot_name p o slot) object) slot

-- the reference word in a slot of an object; null if there is none
abbrev pub word_in : Option WordsOf → ℕ → ℕ
word_in None slot = 0
word_in (Some o) slot = slice_index o.slots slot

-- the steps by slots, one after another, from the object that a word references
abbrev pub steps_from : ProgramNames → Heap → ℕ → List ℕ → List (List ℕ)
steps_from p h word [] = []
steps_from p h word (slot ∷ slots) = step_text p (object_of h word) slot ∷ steps_from p h (word_in (object_of h word) slot) slots

abbrev pub steps_text : ProgramNames → Heap → ℕ → List ℕ → List (List ℕ)
steps_text p h root slots = steps_from p h (slice_index h.roots root) slots

-- THE TEXT of a path, behind its root
abbrev pub named_path_text : ProgramNames → Heap → ℕ → List ℕ → List ℕ
named_path_text p h root slots = ends_text (runs_of (steps_text p h root slots))

-- an object as functions inside have it
abbrev pub object_told : Option ObjectWords → Option WordsOf
object_told object = option_map words_text object
