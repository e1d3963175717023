-- The cards of regions that need none, since a collector looks at all of their slots.
use Rattle.std.specs.Prelude.{◌≡◌, ◌<◌, ◌⊎◌, ℕ, ◌+◌, ◌-◌, List, [], length, slice_index, flat_map, if◌then◌else◌}
use Rattle.std.specs.List.{range_with_len}
use Rattle.g1_words.specs.Heap.{Heap, kind, start, card_of, is_free}
use Rattle.g1_words.specs.declared.fault.Fault.TheVariants as fault
use Rattle.g1_image.specs.Image.{Image}
use Rattle.g1_image.specs.Faults.{IsFirstBreach}
use Rattle.g1_command.specs.declared.refusal.Refusal.{Refusal}
use Rattle.g1_command.specs.declared.refusal.Refusal.TheVariants as refusal
use Rattle.g1heap_request.specs.declared.options.Part.TheVariants as part
use Rattle.g1heap_cli.specs.Reasons.{LacksPart}

-- the cards of a region: those up to the next region's; a free region has none
abbrev pub region_cards : Heap → ℕ → List ℕ
region_cards h r = if is_free (kind h r) then [] else range_with_len (card_of h (start h r)) (card_of h (start h (r + 1)) - card_of h (start h r))

-- those of several regions
abbrev pub young_cards : Heap → List ℕ → List ℕ
young_cards h young = flat_map (region_cards h) young

-- an image has the region that stands at this place of a list
abbrev pub HasRegionAt : Image → List ℕ → ℕ → Type 0
HasRegionAt i young k = slice_index young k < i.heap.geometry.n

-- WHY NOT ALL CARDS OF THESE REGIONS ARE DIRTY: the image lacks one of the regions, and the first that it lacks is reported; or memory is wanted
abbrev pub LacksYoung : List ℕ → Image → List ℕ → Refusal → Type 0
LacksYoung file i young r =
    (r ≡ refusal.Fault fault.Memory) ⊎ ((k : ℕ) × IsFirstBreach (HasRegionAt i young) (length young) k × LacksPart file (part.Region (slice_index young k)) i r)
