use Rattle.std.proofs.Common.{◌≡◌, ◌++◌, [], All, map, flat_map, string_bytes}
use Rattle.std.specs.Prelude.{slice_index_or}
use Rattle.std.specs.List.{range_with_len}
use Rattle.std.specs.List.Sorted.{IsStrictlyIncreasing}
use Rattle.g1_text.specs.Lines.{text_of}
use Rattle.g1_explain.specs.Remembered.{set_changes}
use Rattle.g1_explain.proofs.remembering.push_remembered.Given as goal

abbrev pub invariant-loop-region : goal.invariant-loop-region
invariant-loop-region l = All IsStrictlyIncreasing (map (λ s. s.items) l.refined) → All IsStrictlyIncreasing (map (λ s. s.items) l.after)
    → string_bytes l.text ≡ string_bytes l.initial.text ++ flat_map (λ r. text_of (set_changes r (slice_index_or (map (λ s. s.items) l.refined) r []) (slice_index_or (map (λ s. s.items) l.after) r []))) (range_with_len 0 l.region)
