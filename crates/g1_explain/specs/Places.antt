-- Where the survivors go: the lines.
use Rattle.std.specs.Prelude.{ℕ, zero, suc, List, [], ◌∷◌, ◌++◌, ◌+◌, ◌-◌, ◌%◌, ◌^◌, ◌==◌, min, codes, decimal, slice_index, if◌then◌else◌}
use Rattle.g1_words.specs.Heap.{Heap, region_of, object_at}

-- the most that 64 bits hold, if a number is more
abbrev pub within_64 : ℕ → ℕ
within_64 x = min x (2 ^ 64 - 1)

-- gap REGION at B words N
abbrev pub gap_line : ℕ → ℕ → ℕ → List (List ℕ)
gap_line r end words = codes "gap" ∷ decimal r ∷ codes "at" ∷ decimal end ∷ codes "words" ∷ decimal words ∷ []

-- the words from where a survivor ends to the end of the region, if the next one is not right behind it
abbrev pub gap_lines : Heap → ℕ → ℕ → List (List (List ℕ))
gap_lines h end next =
    if next == end then [] else (if end % h.geometry.w == 0 then [] else gap_line (region_of h end) end (h.geometry.w - end % h.geometry.w) ∷ [])

-- where the object at an address ends if it moves to a place
abbrev pub end_at : Heap → ℕ → ℕ → ℕ
end_at h a place = within_64 (place + (object_at h a).size)

-- the gap before the survivor of this index
abbrev pub gap_before : Heap → List ℕ → List ℕ → ℕ → List (List (List ℕ))
gap_before h survivors places zero = []
gap_before h survivors places (suc j) = gap_lines h (end_at h (slice_index survivors j) (slice_index places j)) (slice_index places (suc j))

-- place A at B, behind a gap if there is one
abbrev pub place_lines_of : Heap → List ℕ → List ℕ → ℕ → List (List (List ℕ))
place_lines_of h survivors places j =
    gap_before h survivors places j ++ (codes "place" ∷ decimal (slice_index survivors j) ∷ codes "at" ∷ decimal (slice_index places j) ∷ []) ∷ []

-- OLD NEW SIZE
abbrev pub map_line : Heap → List ℕ → List ℕ → ℕ → List (List ℕ)
map_line h survivors places j = decimal (slice_index survivors j) ∷ decimal (slice_index places j) ∷ decimal (object_at h (slice_index survivors j)).size ∷ []
