use Rattle.std.proofs.Common.{◌≡◌, ◌-◌, flat_map, string_bytes}
use Rattle.std.specs.List.{range_with_len}
use Rattle.g1_text.specs.Lines.{line_text, region_line}
use Rattle.g1_tables.proofs.show.lines.Given as goal

abbrev pub invariant-loop-region : goal.invariant-loop-region
invariant-loop-region l = string_bytes l.text ≡ flat_map (λ r. line_text (region_line l.image r)) (range_with_len l.fn.from (l.region - l.fn.from))
