-- The slots of an object whose words stand somewhere in a list.
use Rattle.std.specs.Prelude.{ℕ, not, List, ◌+◌, ◌%◌, ◌^◌, ◌==◌, map, filter, slice_index}
use Rattle.std.specs.List.{range_with_len}

-- the slots that aren't null of an object whose words begin at an index of xs and will stand at a place, each with its word
abbrev pub filled_slots : List ℕ → ℕ → ℕ → List (ℕ × ℕ)
filled_slots xs at place =
    map (λ k. (place + k, slice_index xs (at + k))) (filter (λ k. not (slice_index xs (at + k) == 0)) (range_with_len 1 (slice_index xs at % 2 ^ 32)))
