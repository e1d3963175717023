-- THE LINES OF A PAUSE, by its steps.
use Rattle.std.specs.Prelude.{◌≡◌, ℕ, ◌*◌, not, min, List, [], ◌∷◌, ◌++◌, map, flat_map, filter, length, codes, Option, None, Some, IfSome, slice_index_or}
use Rattle.std.specs.List.{range_with_len}
use Rattle.g1_words.specs.declared.fault.Fault.{Fault}
use Rattle.g1_words.specs.declared.fault.Fault.TheVariants.{Room}
use Rattle.g1_words.specs.declared.region.Region.{Region}
use Rattle.g1_words.specs.Heap.{Heap, regions, region_of, free_region, is_free}
use Rattle.g1_image.specs.Image.{Image}
use Rattle.g1_image.specs.Cards.{refined}
use Rattle.g1_rem.specs.EntryCards.{cards_into}
use Rattle.g1_choose.specs.declared.parameters.Cost.{Cost}
use Rattle.g1_layout.specs.Plan.{Plan}
use Rattle.g1_copy.specs.Prepared.{Prepared}
use Rattle.g1_pause.specs.declared.settings.Choice.{Choice}
use Rattle.g1_pause.specs.declared.steps.Outcome.{Outcome}
use Rattle.g1_pause.specs.declared.steps.Outcome.TheVariants.{Ready, NoRoom}
use Rattle.g1_pause.specs.declared.steps.Steps.{Steps}
use Rattle.g1_pause.specs.Answer.{IsSetFor}
use Rattle.g1_pause.specs.Bought.{IsBought}
use Rattle.g1_pause.specs.Steps.{IsOutcome}
use Rattle.g1_text.specs.Lines.{heading, text_of}
use Rattle.g1_explain.specs.Cards.{set_lines}
use Rattle.g1_explain.specs.Changes.{root_moves, patch_moves, region_changes, heading_changes}
use Rattle.g1_explain.specs.Choosing.{bought_lines}
use Rattle.g1_explain.specs.Humongous.{humongous_lines}
use Rattle.g1_explain.specs.Keepers.{keepers_of}
use Rattle.g1_explain.specs.Places.{within_64, place_lines_of}
use Rattle.g1_explain.specs.Remembered.{remembered_changes, dirty_lines}
use Rattle.g1_explain.specs.Survivors.{survivor_lines}
use Rattle.g1_explain.specs.Totals.{room_line, refusal_lines, totals_line, counts_words}

-- what the steps of a pause of an image are: its set and what a budget bought it by, the cards that lead in, and what follows
pub record AreTaken (cost : Cost) (choice : Choice) (i : Image) (x : Steps) : Type 0 where
  pub set : IsSetFor cost i choice x.collection.regions.items
  pub bought : IfSome x.collection.bought (IsBought cost choice i)
  pub cards : x.cards.items ≡ cards_into i.heap (map (refined i) (regions i.heap)) x.collection.regions.items
  pub outcome : IsOutcome i x.collection.regions.items x.outcome

-- how many of some regions are free
abbrev pub free_among : List Region → ℕ
free_among qs = length (filter (λ q. is_free q.kind) qs)

-- the patches of slots that are there after the pause
abbrev pub lasting_patches : Heap → Prepared → List (ℕ × ℕ)
lasting_patches h q = filter (λ x. not (is_free (slice_index_or q.regions (region_of h x.0) free_region).kind)) q.patches

-- the lines of where the survivors go, and of the roots and slots that reference them
abbrev pub moving_lines : Heap → Plan → Prepared → List (ℕ × ℕ) → List (List (List ℕ))
moving_lines h p q patches =
    flat_map (place_lines_of h p.survivors p.places) (range_with_len 0 (min (length p.survivors) (length p.places)))
    ++ (flat_map (root_moves h.roots q.roots) (range_with_len 0 (min (length h.roots) (length q.roots)))
    ++ flat_map (patch_moves h) patches)

-- the lines of the remembered sets, of the table and of the heading
abbrev pub table_changes : Image → Prepared → List (List (List ℕ))
table_changes i q =
    remembered_changes (map (refined i) (regions i.heap)) q.remembered
    ++ (flat_map (region_changes i.heap.regions q.regions) (range_with_len 0 (min (length i.heap.regions) (length q.regions)))
    ++ heading_changes i)

-- the totals of a pause that looks at so many cards and patches so many slots
abbrev pub totals_of : Heap → Plan → Prepared → ℕ → ℕ → List (List ℕ)
totals_of h p q cards slots =
    totals_line (length p.set) (length q.humongous) (length p.survivors) (within_64 (p.words * 8)) (counts_words cards slots (free_among h.regions) (free_among q.regions))

-- the lines of a pause that has room
abbrev pub ready_lines : Image → ℕ → Plan → Prepared → List (List (List ℕ))
ready_lines i cards p q =
    room_line (length p.to_space) (free_among i.heap.regions)
    ∷ (moving_lines i.heap p q (lasting_patches i.heap q)
    ++ (humongous_lines i.heap (keepers_of i.heap p.set p.survivors)
    ++ (table_changes i q
    ++ totals_of i.heap p q cards (length (lasting_patches i.heap q)) ∷ [])))

-- the lines of the survivors, and of what follows
abbrev pub outcome_lines : Image → List ℕ → ℕ → Outcome → List (List (List ℕ))
outcome_lines i set cards (Ready p q) = survivor_lines i.heap set p.survivors ++ ready_lines i cards p q
outcome_lines i set cards (NoRoom survivors need free) = survivor_lines i.heap set survivors.items ++ refusal_lines (Room need free)

-- the lines of the steps: what a budget bought, the set and the cards that lead in, the survivors, and what follows
abbrev pub step_lines : Cost → Image → Steps → List (List (List ℕ))
step_lines cost i x =
    bought_lines cost i x.collection.bought
    ++ (set_lines i.heap x.collection.regions.items x.cards.items
    ++ outcome_lines i x.collection.regions.items (length x.cards.items) x.outcome)

-- that the image is covered, and what its dirty cards add
abbrev pub covered_lines : Image → List (List (List ℕ))
covered_lines i = (codes "covered" ∷ []) ∷ dirty_lines i

-- all lines of a pause
abbrev pub pause_lines : Cost → Image → Steps → List (List (List ℕ))
pause_lines cost i x = heading i ∷ (covered_lines i ++ step_lines cost i x)

-- THE TEXT OF A PAUSE, by its steps: all its lines
abbrev pub IsTextOfSteps : Cost → Image → Steps → List ℕ → Type 0
IsTextOfSteps cost i x text = text ≡ text_of (pause_lines cost i x)

-- the fault for which a pause is refused, if it has no room
abbrev pub refusal_of : Outcome → Option Fault
refusal_of (Ready p q) = None
refusal_of (NoRoom survivors need free) = Some (Room need free)
