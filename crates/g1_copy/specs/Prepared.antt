-- What was made ready for a commit.
use Rattle.std.specs.Prelude.{◌≡◌, ◌≢◌, ℕ, List, ◌++◌, ◌+◌, ◌/◌, length, map, flat_map, slice_index}
use Rattle.std.specs.List.{range_with_len}
use Rattle.g1_words.specs.declared.region.Region.{Region}
use Rattle.g1_words.specs.Heap.{region_of}
use Rattle.g1_words.specs.Layout.{HasRoom, forward, to_space}
use Rattle.g1_image.specs.Image.{Image}
use Rattle.g1_words.specs.Copy.{renamed}
use Rattle.g1_after.specs.Made.{heap_moved, image_paused}
use Rattle.g1_after.specs.Unnamed.{unnamed, unnamed_regions}
use Rattle.g1_work.specs.Regions.{slice_of}
use Rattle.g1_copy.specs.declared.fates.Fate.{Fate}
use Rattle.g1_copy.specs.declared.fates.Fate.TheVariants.{Filled}
use Rattle.g1_copy.specs.Fates.{AreFates, fate_at}
use Rattle.g1_copy.specs.Gathered.{to_space_words}
use Rattle.g1_copy.specs.Patches.{AreFirsts, all_patches}
use Rattle.g1_copy.specs.Slices.{by_fate}

-- each region's fate, the words of to-space, the patches with where each region's begin, the regions, roots and remembered sets after, and the first regions of the humongous objects that are freed
pub record Prepared : Type 0 where
  pub fates : List Fate
  pub gathered : List ℕ
  pub patches : List (ℕ × ℕ)
  pub firsts : List ℕ
  pub regions : List Region
  pub roots : List ℕ
  pub remembered : List (List ℕ)
  pub humongous : List ℕ

-- the words that a commit makes of these, in regions of w words
abbrev pub written : Prepared → ℕ → List ℕ → List ℕ
written p w xs = flat_map (λ r. by_fate w p.gathered p.patches r (fate_at p.fates r) (slice_of w r xs)) (range_with_len 0 (length xs / w))

-- no run fills region r, and no patch lies in it
pub record IsUnwritten (p : Prepared) (r : ℕ) : Type 0 where
  pub filled : (t : ℕ) → fate_at p.fates r ≢ Filled t
  pub patched : slice_index p.firsts r ≡ slice_index p.firsts (r + 1)

-- it was made for the pause of i that evacuates the survivors l of the set
pub record IsMadeFor (p : Prepared) (i : Image) (set l : List ℕ) : Type 0 where
  pub room : HasRoom i.heap set l
  pub fates : AreFates i.heap (set ++ unnamed_regions (heap_moved i.heap set l)) (to_space i.heap l) p.fates
  pub gathered : p.gathered ≡ to_space_words i.heap l
  pub patches : p.patches ≡ all_patches i.heap set l
  pub firsts : AreFirsts i.heap.geometry.w i.heap.geometry.n p.patches p.firsts
  pub table : p.regions ≡ (image_paused i set l).heap.regions
  pub roots : p.roots ≡ map (renamed (forward i.heap l)) i.heap.roots
  pub remembered : p.remembered ≡ (image_paused i set l).remembered
  pub humongous : p.humongous ≡ map (λ o. region_of i.heap o.at) (unnamed (heap_moved i.heap set l))
