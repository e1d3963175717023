-- Slots with their words, and the cards that such slots put into remembered sets.
use Rattle.std.specs.Prelude.{ℕ, Bool, not, ◌&&◌, List, ◌+◌, ◌-◌, ◌*◌, ◌==◌, min, length, map, filter, flat_map, slice_range}
use Rattle.std.specs.List.{range_with_len, list_any}
use Rattle.g1_words.specs.Heap.{Heap, regions, card_of, object_at, word}
use Rattle.g1_words.specs.References.{Ref}
use Rattle.g1_words.specs.Layout.{forward}
use Rattle.g1_words.specs.Copy.{renamed}
use Rattle.g1_image.specs.Cards.{cards_where, leads_into}
use Rattle.g1_layout.specs.Plan.{Plan, laid_before}

-- the reference that a slot holds whose word isn't null
abbrev pub link : ℕ × ℕ → Ref
link x = record { slot = x.0; target = x.1 - 1 }

-- card c has one of these slots, and it leads into region r from another
abbrev pub is_linked : Heap → List (ℕ × ℕ) → ℕ → ℕ → Bool
is_linked h xs r c = list_any (λ x. leads_into h r (link x) && (card_of h x.0 == c)) xs

-- for each region the cards of those slots that lead into it from another, rising
abbrev pub cards_by_region : Heap → List (ℕ × ℕ) → List (List ℕ)
cards_by_region h xs = map (λ r. cards_where h (is_linked h xs r)) (regions h)

-- the slots of a survivor at its place that aren't null, each with its new word
abbrev pub moved_slots : Heap → List ℕ → ℕ → List (ℕ × ℕ)
moved_slots h l a =
    map (λ k. (forward h l a + k, renamed (forward h l) (word h (a + k)))) (filter (λ k. not (word h (a + k) == 0)) (range_with_len 1 (object_at h a).refs))

-- those of all survivors, in their order
abbrev pub copied_slots : Heap → List ℕ → List (ℕ × ℕ)
copied_slots h l = flat_map (moved_slots h l) l

-- those of the survivors from one index of the list up to another
abbrev pub copied_between : Heap → List ℕ → ℕ → ℕ → List (ℕ × ℕ)
copied_between h l i j = flat_map (moved_slots h l) (slice_range l i j)

-- how many runs stand before the j-th part of so many runs
abbrev pub runs_before : Plan → ℕ → ℕ → ℕ
runs_before p size j = min (j * size) (length p.runs)

-- for each region the cards of those slots of the survivors of the j-th part's runs that lead into it from another
abbrev pub part_cards : Heap → Plan → ℕ → ℕ → List (List ℕ)
part_cards h p size j =
    cards_by_region h (copied_between h p.survivors (laid_before h p.survivors (runs_before p size j)) (laid_before h p.survivors (runs_before p size (j + 1))))
