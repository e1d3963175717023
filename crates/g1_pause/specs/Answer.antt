-- What a pause answers.
use Rattle.std.specs.Prelude.{◌≡◌, ℕ, List, ◌∷◌, ◌≤◌, ◌<◌, map, filter, length, slice_index, Result, Ok, Err}
use Rattle.g1_words.specs.declared.limits.Limits.{Limits}
use Rattle.g1_words.specs.declared.limits.Limits.TheVariants.{Specified}
use Rattle.g1_words.specs.declared.fault.Fault.{Fault}
use Rattle.g1_words.specs.declared.fault.Fault.TheVariants.{Uncovered, Set, Room}
use Rattle.g1_words.specs.Heap.{Heap, regions}
use Rattle.g1_words.specs.Lists.{has}
use Rattle.g1_words.specs.Survivors.{Survivors}
use Rattle.g1_words.specs.Live.{IsLiveBytes}
use Rattle.g1_words.specs.Layout.{need, free_regions}
use Rattle.g1_image.specs.Image.{Image, IsTextWithin, IsTextIn}
use Rattle.g1_image.specs.declared.cursor.Version.TheVariants.{Two}
use Rattle.g1_image.specs.Faults.{FaultWithin}
use Rattle.g1_image.specs.Cards.{refined, uncovered, Covered}
use Rattle.g1_after.specs.Paused.{IsPaused}
use Rattle.g1_choose.specs.declared.parameters.Cost.{Cost}
use Rattle.g1_choose.specs.Choice.{IsChosen}
use Rattle.g1_choose.specs.Named.{AreTakeable, IsFirstBad}
use Rattle.g1_pause.specs.declared.settings.Choice.{Choice}
use Rattle.g1_pause.specs.declared.settings.Choice.TheVariants.{Budget, Given}

-- two choices ask for the same: one budget, or lists that name the same regions in the same order
abbrev pub AskTheSame : Choice → Choice → Type 0
AskTheSame (Budget b) (Budget c) = b ≡ c
AskTheSame (Given xs) (Given ys) = xs.items ≡ ys.items
AskTheSame _ _ = ⊥

-- the collection set, rising: what the budget buys by the refined sets and the live bytes, or the regions that are named
abbrev pub IsSetFor : Cost → Image → Choice → List ℕ → Type 0
IsSetFor cost i (Budget b) set =
    (lives : List ℕ) × IsLiveBytes i.heap lives
    × IsChosen cost i.heap (map (refined i) (regions i.heap)) lives (length i.log) b set
IsSetFor cost i (Given list) set = AreTakeable i.heap list.items × (set ≡ filter (has list.items) (regions i.heap))

-- the fault of a choice: the first region of the list that can't be taken; a budget has none
abbrev pub FaultOfChoice : Heap → Choice → Fault → Type 0
FaultOfChoice h (Budget b) e = ⊥
FaultOfChoice h (Given list) e = (k : ℕ) × IsFirstBad h list.items k × (e ≡ Set (slice_index list.items k))

-- what the pause of an image gives: the fault of the choice, or that the free regions have no room for the survivors, or the image after
pub data IsEvacuated (cost : Cost) (choice : Choice) (i : Image) : Result Image Fault → Type 0 where
  bad_set : {e : Fault} → FaultOfChoice i.heap choice e → IsEvacuated cost choice i (Err e)
  no_room : (set l : List ℕ) → IsSetFor cost i choice set → Survivors i.heap set l → length (free_regions i.heap) < need i.heap l
      → IsEvacuated cost choice i (Err (Room (need i.heap l) (length (free_regions i.heap))))
  done : (set l : List ℕ) {j : Image} → IsSetFor cost i choice set → Survivors i.heap set l → need i.heap l ≤ length (free_regions i.heap)
      → IsPaused i set l j → IsEvacuated cost choice i (Ok j)

-- THE ANSWER to bytes: the fault of bytes that are no image's text within these limits, else that of the lowest slot
-- without cover, else what the pause of the image gives, an image as its text of version 2
pub data IsAnswerWithin (limits : Limits) (cost : Cost) (choice : Choice) (bytes : List ℕ) : Result (List ℕ) Fault → Type 0 where
  unread : {f : Fault} → FaultWithin limits bytes f → IsAnswerWithin limits cost choice bytes (Err f)
  not_covered : {i : Image} {p : ℕ} {ps : List ℕ} → IsTextWithin limits bytes i → uncovered i ≡ p ∷ ps → IsAnswerWithin limits cost choice bytes (Err (Uncovered p))
  refused : {i : Image} {f : Fault} → IsTextWithin limits bytes i → Covered i → IsEvacuated cost choice i (Err f) → IsAnswerWithin limits cost choice bytes (Err f)
  written : {i j : Image} {out : List ℕ} → IsTextWithin limits bytes i → Covered i → IsEvacuated cost choice i (Ok j) → IsTextIn Two out j → IsAnswerWithin limits cost choice bytes (Ok out)

-- the answer to bytes within the limits of the specification
abbrev pub IsAnswer : Cost → Choice → List ℕ → Result (List ℕ) Fault → Type 0
IsAnswer cost choice bytes r = IsAnswerWithin Specified cost choice bytes r
