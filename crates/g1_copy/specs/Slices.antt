-- The words after the pause, region by region: filled, cleared or patched.
use Rattle.std.specs.Prelude.{◌≡◌, ◌≤◌, ◌<◌, ◌^◌, ℕ, List, [], ◌∷◌, ◌+◌, ◌-◌, ◌*◌, ◌/◌, length, set, replicate, flat_map, slice_index, nat_le, if◌then◌else◌}
use Rattle.std.specs.List.{range_with_len}
use Rattle.g1_work.specs.Regions.{slice_of}
use Rattle.g1_copy.specs.declared.fates.Fate.{Fate}
use Rattle.g1_copy.specs.declared.fates.Fate.TheVariants.{Freed, Filled, Kept}
use Rattle.g1_copy.specs.Fates.{fate_at, fate_of}
use Rattle.g1_copy.specs.Patches.{AreBefore}

-- a slice that starts at base, with those patches that lie in it
abbrev pub patched : List (ℕ × ℕ) → ℕ → List ℕ → List ℕ
patched [] base xs = xs
patched (x ∷ ps) base xs = patched ps base (if nat_le base x.0 then set xs (x.0 - base) x.1 else xs)

-- slice r after, of what it was before: cleared, slice t of the gathered words, or patched
abbrev pub by_fate : ℕ → List ℕ → List (ℕ × ℕ) → ℕ → Fate → List ℕ → List ℕ
by_fate w gathered patches r Freed xs = replicate w 0
by_fate w gathered patches r (Filled t) xs = slice_of w t gathered
by_fate w gathered patches r Kept xs = patched patches (r * w) xs

-- the same, of the regions that are cleared and those that are filled
abbrev pub slice_after : ℕ → List ℕ → List ℕ → List ℕ → List (ℕ × ℕ) → ℕ → List ℕ → List ℕ
slice_after w clears to gathered patches r xs = by_fate w gathered patches r (fate_of clears to r) xs

-- all words after, slice by slice
abbrev pub words_after : ℕ → List ℕ → List ℕ → List ℕ → List (ℕ × ℕ) → List ℕ → List ℕ
words_after w clears to gathered patches xs =
    flat_map (λ r. slice_after w clears to gathered patches r (slice_of w r xs)) (range_with_len 0 (length xs / w))

-- slice r can be written by its fate: its run has been gathered, and the patches that lie in it are those between two indices
pub record IsWritable (w : ℕ) (fates : List Fate) (gathered : List ℕ) (patches : List (ℕ × ℕ)) (firsts : List ℕ) (r : ℕ) (xs : List ℕ) : Type 0 where
  pub size : length xs ≡ w
  pub fate : r < length fates
  pub run : (t : ℕ) → fate_at fates r ≡ Filled t → t * w + w ≤ length gathered
  pub room : r * w + w < 2 ^ 64
  pub next : r + 1 < length firsts
  pub begins : AreBefore patches (r * w) (slice_index firsts r)
  pub ends : AreBefore patches (r * w + w) (slice_index firsts (r + 1))
