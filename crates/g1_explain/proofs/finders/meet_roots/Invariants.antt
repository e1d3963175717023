use Rattle.std.proofs.Common.{◌≡◌, flat_map, slice_index}
use Rattle.std.specs.List.{range_with_len}
use Rattle.g1_explain.specs.declared.finder.Finder.TheVariants.{Root}
use Rattle.g1_explain.specs.Finders.{lead}
use Rattle.g1_explain.specs.Searched.{met}
use Rattle.g1_explain.proofs.finders.meet_roots.Given as goal

abbrev pub invariant-loop-number : goal.invariant-loop-number
invariant-loop-number l = l.finders.items ≡ met l.found l.initial.finders.items (flat_map (λ k. lead (Root k) (slice_index l.roots k)) (range_with_len 0 l.number))
