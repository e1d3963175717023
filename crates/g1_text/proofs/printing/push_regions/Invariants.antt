use Rattle.std.proofs.Common.{◌≡◌, ◌++◌, flat_map, string_bytes}
use Rattle.std.specs.List.{range_with_len}
use Rattle.g1_text.specs.Lines.{text_of, region_lines}
use Rattle.g1_text.proofs.printing.push_regions.Given as goal

abbrev pub invariant-loop-region : goal.invariant-loop-region
invariant-loop-region l = string_bytes l.text ≡ string_bytes l.initial.text ++ flat_map (λ r. text_of (region_lines l.image r)) (range_with_len 0 l.region)
