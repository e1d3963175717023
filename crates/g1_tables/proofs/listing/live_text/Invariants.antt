use Rattle.std.proofs.Common.{◌≡◌, flat_map, string_bytes}
use Rattle.std.specs.Prelude.{slice_index}
use Rattle.std.specs.List.{range_with_len}
use Rattle.g1_text.specs.Lines.{line_text}
use Rattle.g1_tables.specs.Tables.{live_line}
use Rattle.g1_tables.proofs.listing.live_text.Given as goal

abbrev pub invariant-loop-region : goal.invariant-loop-region
invariant-loop-region l = string_bytes l.text ≡ flat_map (λ r. line_text (live_line r (slice_index l.live r))) (range_with_len 0 l.region-counter)
