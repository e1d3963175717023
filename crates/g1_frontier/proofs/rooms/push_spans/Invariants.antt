use Rattle.std.proofs.Common.{◌≡◌, ◌++◌, take, map, flat_map}
use Rattle.g1_frontier.specs.Offering.{in_span}
use Rattle.g1_frontier.proofs.rooms.push_spans.Given as goal

abbrev pub invariant-loop-span : goal.invariant-loop-span
invariant-loop-span l = l.kept.items ≡ l.initial.kept.items ++ flat_map (in_span (map (λ r. r.items) l.rooms)) (take l.span-index l.spans)
