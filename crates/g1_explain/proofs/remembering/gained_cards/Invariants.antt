use Rattle.std.proofs.Common.{◌≡◌, All, map, flat_map}
use Rattle.std.specs.List.{range_with_len}
use Rattle.std.specs.List.Sorted.{IsStrictlyIncreasing}
use Rattle.g1_explain.proofs.Gained.{pairs_of}
use Rattle.g1_explain.proofs.remembering.gained_cards.Given as goal

abbrev pub invariant-loop-region : goal.invariant-loop-region
invariant-loop-region l = All IsStrictlyIncreasing (map (λ s. s.items) l.before) → l.gained.items ≡ flat_map (pairs_of (map (λ s. s.items) l.before) (map (λ s. s.items) l.after)) (range_with_len 0 l.region)
