use Rattle.std.proofs.Common.{◌≡◌, filter, map}
use Rattle.std.specs.List.{range_with_len}
use Rattle.g1_copy.specs.Unnamed.{is_unnamed}
use Rattle.g1_copy.proofs.unnamed.unnamed_firsts.Given as goal

abbrev pub invariant-loop-region : goal.invariant-loop-region
invariant-loop-region l = l.firsts.items ≡ filter (is_unnamed l.naming.heap l.naming.fates (map (λ s. s.items) l.remembered)) (range_with_len 0 l.region)
