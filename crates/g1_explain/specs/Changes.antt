-- The lines of what a pause writes outside the copies.
use Rattle.std.specs.Prelude.{ℕ, suc, Bool, not, ◌&&◌, ◌==◌, if◌then◌else◌, List, [], ◌∷◌, ◌++◌, codes, decimal, slice_index, slice_index_or, Option, Some, None}
use Rattle.g1_words.specs.declared.region.Region.{Region}
use Rattle.g1_words.specs.Heap.{Heap, word, free_region}
use Rattle.g1_words.specs.Kind.{kind_word, kind_number}
use Rattle.g1_image.specs.Image.{Image}

-- WORD N from A to B, if a reference word leads to A and is to lead to another address B
abbrev pub move_lines : List ℕ → ℕ → ℕ → ℕ → List (List (List ℕ))
move_lines word n (suc a) (suc b) = if a == b then [] else (word ∷ decimal n ∷ codes "from" ∷ decimal a ∷ codes "to" ∷ decimal b ∷ []) ∷ []
move_lines word n _ _ = []

-- that of a root, by the words before and after
abbrev pub root_moves : List ℕ → List ℕ → ℕ → List (List (List ℕ))
root_moves before after k = move_lines (codes "root") k (slice_index before k) (slice_index after k)

-- that of a slot with its new word
abbrev pub patch_moves : Heap → ℕ × ℕ → List (List (List ℕ))
patch_moves h x = move_lines (codes "slot") x.0 (word h x.0) x.1

-- the regions are alike
abbrev pub is_same : Region → Region → Bool
is_same a b = (kind_number a.kind == kind_number b.kind) && ((a.top == b.top) && (if a.pinned then b.pinned else not b.pinned))

-- region R KIND top T, if it changes
abbrev pub region_change : ℕ → Region → Region → List (List (List ℕ))
region_change r a b = if is_same a b then [] else (codes "region" ∷ decimal r ∷ kind_word b.kind ∷ codes "top" ∷ decimal b.top ∷ []) ∷ []

-- that of a region, by the regions before and after
abbrev pub region_changes : List Region → List Region → ℕ → List (List (List ℕ))
region_changes before after r = region_change r (slice_index_or before r free_region) (slice_index_or after r free_region)

-- log empty, if there was a dirty card, and current none, if there was a current region
abbrev pub log_change : List ℕ → List (List (List ℕ))
log_change [] = []
log_change (c ∷ cs) = (codes "log" ∷ codes "empty" ∷ []) ∷ []

abbrev pub current_change : Option ℕ → List (List (List ℕ))
current_change None = []
current_change (Some r) = (codes "current" ∷ codes "none" ∷ []) ∷ []

abbrev pub heading_changes : Image → List (List (List ℕ))
heading_changes i = log_change i.log ++ current_change i.heap.current
