-- What a pause does with each region.
use Rattle.std.specs.Prelude.{◌≡◌, ◌≢◌, ◌<◌, ℕ, List, Option, Some, None, length, position, slice_index_or, ◌==◌, if◌then◌else◌}
use Rattle.g1_words.specs.Heap.{Heap, free_region, region_with}
use Rattle.g1_words.specs.declared.region.Kind.TheVariants.{Ordinary}
use Rattle.g1_words.specs.declared.region.Region.{Region}
use Rattle.g1_layout.specs.declared.plan.Run.{Run}
use Rattle.g1_words.specs.Lists.{has}
use Rattle.g1_copy.specs.declared.fates.Fate.{Fate}
use Rattle.g1_copy.specs.declared.fates.Fate.TheVariants.{Freed, Filled, Kept}

-- a region's fate in a table; past the last one, kept
abbrev pub fate_at : List Fate → ℕ → Fate
fate_at fates r = slice_index_or fates r Kept

-- the t-th region of to-space is filled by the t-th run, and one that isn't of to-space is kept
abbrev pub filled_or_kept : Option ℕ → Fate
filled_or_kept (Some t) = Filled t
filled_or_kept None = Kept

-- what a pause does with a region, of its set and its to-space
abbrev pub fate_of : List ℕ → List ℕ → ℕ → Fate
fate_of set to r = if has set r then Freed else filled_or_kept (position (λ d. d == r) to)

-- each region has its fate
pub record AreFates (h : Heap) (set to : List ℕ) (fates : List Fate) : Type 0 where
  pub one_each : length fates ≡ h.geometry.n
  pub each : (r : ℕ) → r < h.geometry.n → fate_at fates r ≡ fate_of set to r

-- a region after, of what it is before and the runs by which regions are filled; u is none of these
abbrev pub region_by_fate : List Run → Run → Fate → Region → Region
region_by_fate runs u Freed region = free_region
region_by_fate runs u (Filled t) region = region_with Ordinary (slice_index_or runs t u).end
region_by_fate runs u Kept region = region

-- at each of the first n places is what is told for it, and all other regions have the fates that they had
pub record AreReplaced (n : ℕ) (place : ℕ → ℕ) (told : ℕ → Fate) (old new : List Fate) : Type 0 where
  pub size : length new ≡ length old
  pub replaced : (t : ℕ) → t < n → fate_at new (place t) ≡ told t
  pub others : (r : ℕ) → ((t : ℕ) → t < n → place t ≢ r) → fate_at new r ≡ fate_at old r
