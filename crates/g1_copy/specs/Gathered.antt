-- The words of to-space after the pause.
use Rattle.std.specs.Prelude.{◌≡◌, ◌≤◌, ◌<◌, ℕ, ◌+◌, ◌-◌, ◌*◌, List, map, flat_map, slice_index}
use Rattle.std.specs.List.{range_with_len}
use Rattle.g1_words.specs.Heap.{Heap, object_at, start}
use Rattle.g1_words.specs.Layout.{forward, need, to_space}
use Rattle.g1_words.specs.Copy.{renamed_words}
use Rattle.g1_after.specs.Made.{moved_word}
use Rattle.g1_layout.specs.Plan.{Plan}

-- the words of a region that survivors are placed in: each word is that of the survivor that takes it, its references renamed, or 0
abbrev pub placed_words : Heap → List ℕ → ℕ → List ℕ
placed_words h l r = map (moved_word (forward h l) h (map (object_at h) l)) (range_with_len (start h r) h.geometry.w)

-- the words of to-space, its regions one after another
abbrev pub to_space_words : Heap → List ℕ → List ℕ
to_space_words h l = flat_map (placed_words h l) (to_space h l)

-- the size of a plan's i-th survivor
abbrev pub size_of : Heap → Plan → ℕ → ℕ
size_of h p i = (object_at h (slice_index p.survivors i)).size

-- where the t-th region of to-space begins
abbrev pub start_of : Heap → Plan → ℕ → ℕ
start_of h p t = start h (slice_index (to_space h p.survivors) t)

-- the i-th survivor's place lies in the t-th region of to-space, and its words stand there, its references renamed
pub record IsGatheredAt (h : Heap) (p : Plan) (i t : ℕ) : Type 0 where
  pub region : t < need h p.survivors
  pub low : start_of h p t ≤ slice_index p.places i
  pub high : slice_index p.places i + size_of h p i ≤ start_of h p t + h.geometry.w
  pub words : (k : ℕ) → k < size_of h p i → slice_index (to_space_words h p.survivors) (t * h.geometry.w + (slice_index p.places i + k - start_of h p t))
      ≡ slice_index (renamed_words (forward h p.survivors) h (object_at h (slice_index p.survivors i))) k
