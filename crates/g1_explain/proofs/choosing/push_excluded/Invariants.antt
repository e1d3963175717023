use Rattle.std.proofs.Common.{◌≡◌, ◌++◌, flat_map, string_bytes}
use Rattle.std.specs.Prelude.{slice_index, slice_index_or}
use Rattle.std.specs.List.{range_with_len}
use Rattle.g1_words.specs.Heap.{free_region}
use Rattle.g1_text.specs.Lines.{text_of}
use Rattle.g1_explain.specs.Choosing.{excluded_lines_of}
use Rattle.g1_explain.proofs.choosing.push_excluded.Given as goal

abbrev pub invariant-loop-number : goal.invariant-loop-number
invariant-loop-number l = string_bytes l.text ≡ string_bytes l.initial.text ++ flat_map (λ r. text_of (excluded_lines_of r (slice_index_or l.regions r free_region) (slice_index l.live r))) (range_with_len 0 l.number)
