use Rattle.std.proofs.Common.{◌≡◌, ◌∷◌, ◌++◌, flat_map, take, string_bytes}
use Rattle.std.specs.Prelude.{decimal}
use Rattle.g1_text.proofs.printing.push_cards.Given as goal

abbrev pub invariant-loop-card : goal.invariant-loop-card
invariant-loop-card l = string_bytes l.text ≡ string_bytes l.initial.text ++ flat_map (λ x. 32 ∷ decimal x) (take l.card-index l.cards)
