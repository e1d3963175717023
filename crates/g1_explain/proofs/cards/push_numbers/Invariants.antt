use Rattle.std.proofs.Common.{◌≡◌, ◌∷◌, ◌++◌, flat_map, take, string_bytes}
use Rattle.std.specs.Prelude.{decimal}
use Rattle.g1_explain.proofs.cards.push_numbers.Given as goal

abbrev pub invariant-loop-number : goal.invariant-loop-number
invariant-loop-number l = string_bytes l.text ≡ string_bytes l.initial.text ++ flat_map (λ x. 32 ∷ decimal x) (take l.number-index l.numbers)
