use Rattle.std.proofs.Common.{◌≡◌, ◌++◌, ◌∷◌, flat_map, take, string_bytes}
use Rattle.g1_explain.specs.Lines.{step_words}
use Rattle.g1_explain.proofs.paths.push_steps.Given as goal

abbrev pub invariant-loop-leg : goal.invariant-loop-leg
invariant-loop-leg l = string_bytes l.text ≡ string_bytes l.initial.text ++ flat_map (λ x. flat_map (λ w. 32 ∷ w) (step_words x.finder)) (take l.leg-index l.path)
