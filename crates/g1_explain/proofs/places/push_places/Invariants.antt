use Rattle.std.proofs.Common.{◌≡◌, ◌++◌, flat_map, string_bytes}
use Rattle.std.specs.List.{range_with_len}
use Rattle.g1_text.specs.Lines.{text_of}
use Rattle.g1_explain.specs.Places.{place_lines_of}
use Rattle.g1_explain.proofs.places.push_places.Given as goal

abbrev pub invariant-loop-index : goal.invariant-loop-index
invariant-loop-index l = string_bytes l.text ≡ string_bytes l.initial.text ++ flat_map (λ k. text_of (place_lines_of l.heap l.survivors l.places k)) (range_with_len 0 l.index)
