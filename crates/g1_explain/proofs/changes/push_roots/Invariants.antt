use Rattle.std.proofs.Common.{◌≡◌, ◌++◌, flat_map, string_bytes}
use Rattle.std.specs.List.{range_with_len}
use Rattle.g1_text.specs.Lines.{text_of}
use Rattle.g1_explain.specs.Changes.{root_moves}
use Rattle.g1_explain.proofs.changes.push_roots.Given as goal

abbrev pub invariant-loop-number : goal.invariant-loop-number
invariant-loop-number l = string_bytes l.text ≡ string_bytes l.initial.text ++ flat_map (λ k. text_of (root_moves l.before l.after k)) (range_with_len 0 l.number)
