use Rattle.std.proofs.Common.{◌≡◌, ◌++◌, flat_map, take, string_bytes}
use Rattle.g1_text.specs.Lines.{line_text}
use Rattle.g1_explain.specs.Lines.{leg_line}
use Rattle.g1_explain.proofs.paths.push_path.Given as goal

abbrev pub invariant-loop-leg : goal.invariant-loop-leg
invariant-loop-leg l = string_bytes l.text ≡ string_bytes l.initial.text ++ flat_map (λ x. line_text (leg_line x)) (take l.leg-index l.path)
