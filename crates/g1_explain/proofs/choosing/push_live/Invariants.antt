use Rattle.std.proofs.Common.{◌≡◌, ◌++◌, [], flat_map, map, length, string_bytes}
use Rattle.std.specs.Prelude.{slice_index, slice_index_or}
use Rattle.std.specs.List.{range_with_len}
use Rattle.g1_words.specs.Heap.{free_region}
use Rattle.g1_text.specs.Lines.{text_of}
use Rattle.g1_explain.specs.Choosing.{live_lines_of}
use Rattle.g1_explain.proofs.choosing.push_live.Given as goal

abbrev pub invariant-loop-number : goal.invariant-loop-number
invariant-loop-number l = string_bytes l.text ≡ string_bytes l.initial.text ++ flat_map (λ r. text_of (live_lines_of r (slice_index_or l.regions r free_region) (slice_index l.live r) (length (slice_index_or (map (λ s. s.items) l.remembered) r [])))) (range_with_len 0 l.number)
