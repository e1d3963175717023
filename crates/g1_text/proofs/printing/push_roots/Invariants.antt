use Rattle.std.proofs.Common.{◌≡◌, ◌++◌, flat_map, string_bytes}
use Rattle.std.specs.Prelude.{slice_index}
use Rattle.std.specs.List.{range_with_len}
use Rattle.g1_text.specs.Lines.{line_text, root_line}
use Rattle.g1_text.proofs.printing.push_roots.Given as goal

abbrev pub invariant-loop-number : goal.invariant-loop-number
invariant-loop-number l = string_bytes l.text ≡ string_bytes l.initial.text ++ flat_map (λ m. line_text (root_line m (slice_index l.roots m))) (range_with_len 0 l.number)
