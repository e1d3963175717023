use Rattle.std.proofs.Common.{◌≡◌, ◌≤◌, ◌⊎◌, ◌-◌, ◌∷◌, ◌++◌, flat_map, string_bytes}
use Rattle.std.specs.Prelude.{decimal}
use Rattle.std.specs.List.{range_with_len}
use Rattle.g1_explain.proofs.humongous.push_range.Given as goal

abbrev pub invariant-loop-number : goal.invariant-loop-number
invariant-loop-number l = record {
  text : string_bytes l.text ≡ string_bytes l.initial.text ++ flat_map (λ x. 32 ∷ decimal x) (range_with_len l.first (l.number-counter - l.first));
  above : l.first ≤ l.number-counter;
  within : (l.number-counter ≤ l.last) ⊎ (l.number-counter ≡ l.first);
}
