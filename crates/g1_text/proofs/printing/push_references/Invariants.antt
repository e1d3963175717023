use Rattle.std.proofs.Common.{◌≡◌, ◌∷◌, ◌++◌, flat_map, take, string_bytes}
use Rattle.g1_text.specs.Lines.{reference_word}
use Rattle.g1_text.proofs.printing.push_references.Given as goal

abbrev pub invariant-loop-reference : goal.invariant-loop-reference
invariant-loop-reference l = string_bytes l.text ≡ string_bytes l.initial.text ++ flat_map (λ x. 32 ∷ reference_word x) (take l.reference-index l.references)
