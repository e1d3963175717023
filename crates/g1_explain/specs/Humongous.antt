-- The lines of humongous objects: what keeps each, or the regions that are freed with it.
use Rattle.std.specs.Prelude.{ℕ, ◌+◌, ◌-◌, ◌*◌, List, [], ◌∷◌, map, flat_map, codes, decimal, slice_index_or}
use Rattle.std.specs.Int.{div_ceil}
use Rattle.std.specs.List.{range_with_len}
use Rattle.g1_words.specs.Heap.{Heap, object_at, regions}
use Rattle.g1_explain.specs.declared.finder.Finder.{Finder}
use Rattle.g1_explain.specs.declared.humongous.Keeper.{Keeper}
use Rattle.g1_explain.specs.declared.humongous.Keeper.TheVariants.{NoObject, Nothing, By}
use Rattle.g1_explain.specs.Lines.{finder_words}
use Rattle.g1_explain.specs.Places.{within_64}

-- the number behind the last region of the object that begins in region r
abbrev pub run_end : Heap → ℕ → ℕ
run_end h r = within_64 (r + div_ceil (object_at h (r * h.geometry.w)).size h.geometry.w)

-- the regions of the object that begins in region r
abbrev pub run : Heap → ℕ → List ℕ
run h r = range_with_len r (run_end h r - r)

-- humongous A kept by FINDER
abbrev pub kept_line : ℕ → Finder → List (List ℕ)
kept_line a f = codes "humongous" ∷ decimal a ∷ codes "kept" ∷ codes "by" ∷ finder_words f

-- humongous A freed REGION ..
abbrev pub freed_line : Heap → ℕ → ℕ → List (List ℕ)
freed_line h r a = codes "humongous" ∷ decimal a ∷ codes "freed" ∷ map decimal (run h r)

-- the line of the object that begins in region r, by what keeps it
abbrev pub fate_lines : Heap → ℕ → Keeper → List (List (List ℕ))
fate_lines h r NoObject = []
fate_lines h r Nothing = freed_line h r (r * h.geometry.w) ∷ []
fate_lines h r (By f) = kept_line (r * h.geometry.w) f ∷ []

-- the lines of all of them, by what keeps each
abbrev pub humongous_lines : Heap → List Keeper → List (List (List ℕ))
humongous_lines h keepers = flat_map (λ r. fate_lines h r (slice_index_or keepers r NoObject)) (regions h)
