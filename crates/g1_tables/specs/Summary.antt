-- What `print --summary` prints: a heap in numbers.
use Rattle.std.specs.Prelude.{◌≡◌, ◌↔◌, ◌==◌, ◌-◌, ℕ, Bool, List, [], ◌∷◌, length, filter, sum_by, decimal, codes, IsTrue}
use Rattle.g1_words.specs.declared.region.Region.{Region}
use Rattle.g1_words.specs.declared.region.Kind.{Kind}
use Rattle.g1_words.specs.declared.region.Kind.TheVariants.{Free, Ordinary, HumongousFirst, Continuation}
use Rattle.g1_words.specs.Geometry.{Geometry}
use Rattle.g1_words.specs.Heap.{Heap, objects}
use Rattle.g1_words.specs.Kind.{kind_number}
use Rattle.g1_words.specs.Live.{Live}
use Rattle.g1_image.specs.Image.{Image}
use Rattle.g1_work.specs.Ranges.{used}
use Rattle.g1_text.specs.Lines.{text_of}

-- heap W K N
abbrev pub sizes_line : Geometry → List (List ℕ)
sizes_line g = codes "heap" ∷ decimal g.w ∷ decimal g.k ∷ decimal g.n ∷ []

-- how many of some regions are of this kind, and how many are pinned
abbrev pub count_of : Kind → List Region → ℕ
count_of kind qs = length (filter (λ q. kind_number q.kind == kind_number kind) qs)

abbrev pub count_pinned : List Region → ℕ
count_pinned qs = length (filter (λ q. q.pinned) qs)

-- regions free F ordinary O humongous H continuation C pinned P
abbrev pub regions_line : List Region → List (List ℕ)
regions_line qs =
    codes "regions" ∷ codes "free" ∷ decimal (count_of Free qs) ∷ codes "ordinary" ∷ decimal (count_of Ordinary qs) ∷ codes "humongous" ∷ decimal (count_of HumongousFirst qs)
    ∷ codes "continuation" ∷ decimal (count_of Continuation qs) ∷ codes "pinned" ∷ decimal (count_pinned qs) ∷ []

-- NAME N words
abbrev pub words_line : List ℕ → ℕ → List (List ℕ)
words_line name n = name ∷ decimal n ∷ codes "words" ∷ []

-- the words of the objects that pass a test
abbrev pub words_where : Heap → (ℕ → Bool) → ℕ
words_where h test = sum_by (λ o. o.size) (filter (λ o. test o.at) (objects h))

-- cards remembered R dirty D: those of all remembered sets, and those of the log
abbrev pub cards_line : Image → List (List ℕ)
cards_line i = codes "cards" ∷ codes "remembered" ∷ decimal (sum_by length i.remembered) ∷ codes "dirty" ∷ decimal (length i.log) ∷ []

-- roots R
abbrev pub roots_line : List ℕ → List (List ℕ)
roots_line roots = codes "roots" ∷ decimal (length roots) ∷ []

-- the lines of a summary, by the number of live words: used words are those below the tops, and all that aren't live are garbage
abbrev pub summary_lines : Image → ℕ → List (List (List ℕ))
summary_lines i live =
    sizes_line i.heap.geometry ∷ regions_line i.heap.regions ∷ words_line (codes "used") (used i.heap.regions) ∷ words_line (codes "live") live
    ∷ words_line (codes "garbage") (used i.heap.regions - live) ∷ cards_line i ∷ roots_line i.heap.roots ∷ []

-- THE TEXT OF A SUMMARY: live words are those of the objects that the roots reach, counted with a test that passes exactly these
pub record IsSummary (i : Image) (text : List ℕ) : Type 0 where
  pub test : ℕ → Bool
  pub passes : (a : ℕ) → IsTrue (test a) ↔ Live i.heap a
  pub printed : text ≡ text_of (summary_lines i (words_where i.heap test))
