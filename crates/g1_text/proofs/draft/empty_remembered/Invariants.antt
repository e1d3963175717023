use Rattle.std.proofs.Common.{◌≡◌, [], map, replicate}
use Rattle.g1_text.proofs.draft.empty_remembered.Given as goal

abbrev pub invariant-loop : goal.invariant-loop
invariant-loop l = map (λ s. s.items) l.remembered.items ≡ replicate l.counter []
