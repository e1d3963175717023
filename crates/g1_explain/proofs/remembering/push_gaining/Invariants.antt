use Rattle.std.proofs.Common.{◌≡◌, ◌∷◌, ◌++◌, flat_map, take, string_bytes}
use Rattle.std.specs.Prelude.{decimal}
use Rattle.g1_explain.proofs.remembering.push_gaining.Given as goal

abbrev pub invariant-loop-pair : goal.invariant-loop-pair
invariant-loop-pair l = string_bytes l.text ≡ string_bytes l.initial.text ++ flat_map (λ x. 32 ∷ decimal x.1) (take l.pair-index l.pairs)
