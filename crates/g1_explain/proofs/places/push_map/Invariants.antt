use Rattle.std.proofs.Common.{◌≡◌, ◌++◌, flat_map, string_bytes}
use Rattle.std.specs.List.{range_with_len}
use Rattle.g1_text.specs.Lines.{line_text}
use Rattle.g1_explain.specs.Places.{map_line}
use Rattle.g1_explain.proofs.places.push_map.Given as goal

abbrev pub invariant-loop-index : goal.invariant-loop-index
invariant-loop-index l = string_bytes l.text ≡ string_bytes l.initial.text ++ flat_map (λ j. line_text (map_line l.heap l.survivors l.places j)) (range_with_len 0 l.index)
