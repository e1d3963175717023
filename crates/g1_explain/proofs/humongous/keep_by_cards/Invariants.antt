use Rattle.std.proofs.Common.{[], map}
use Rattle.std.specs.Prelude.{nat_lt, slice_index_or, if◌then◌else◌}
use Rattle.g1_explain.specs.Keepers.{AreKept, leads_on}
use Rattle.g1_explain.proofs.humongous.keep_by_cards.Given as goal

abbrev pub invariant-loop-region : goal.invariant-loop-region
invariant-loop-region l =
    AreKept (λ r. if nat_lt r l.region then leads_on l.walkable.heap l.set r (slice_index_or (map (λ s. s.items) l.refined) r []) else []) l.initial.keepers l.keepers
