use Rattle.std.proofs.Common.{◌≡◌, ◌∷◌, ◌++◌, flat_map, take, string_bytes}
use Rattle.std.specs.Prelude.{decimal}
use Rattle.g1_explain.proofs.cards.push_addresses.Given as goal

abbrev pub invariant-loop-address : goal.invariant-loop-address
invariant-loop-address l = string_bytes l.text ≡ string_bytes l.initial.text ++ flat_map (λ x. 32 ∷ decimal x) (take l.address-index l.addresses)
