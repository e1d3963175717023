use Rattle.std.proofs.Common.{◌≡◌, ◌++◌, flat_map, take, string_bytes}
use Rattle.std.specs.Prelude.{codes}
use Rattle.g1_report.proofs.comparing.push_behind.Given as goal

abbrev pub invariant-loop-word : goal.invariant-loop-word
invariant-loop-word l = string_bytes l.text ≡ string_bytes l.initial.text ++ flat_map (λ word. codes " " ++ word.now) (take l.word-index l.words)
