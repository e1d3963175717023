use Rattle.std.proofs.Common.{flat_map, slice_index}
use Rattle.std.specs.List.{range_with_len}
use Rattle.g1_explain.specs.declared.finder.Finder.TheVariants.{Root}
use Rattle.g1_explain.specs.Finders.{lead}
use Rattle.g1_explain.specs.Keepers.{AreKept, leads_in}
use Rattle.g1_explain.proofs.humongous.keep_by_roots.Given as goal

abbrev pub invariant-loop-number : goal.invariant-loop-number
invariant-loop-number l = AreKept (leads_in l.heap (flat_map (λ k. lead (Root k) (slice_index l.roots k)) (range_with_len 0 l.number))) l.initial.keepers l.keepers
