use Rattle.std.proofs.Common.{◌≡◌, ◌++◌, flat_map, slice_index, string_bytes}
use Rattle.std.specs.List.{range_with_len}
use Rattle.g1_text.specs.Lines.{line_text}
use Rattle.g1_explain.specs.Searched.{finder_at}
use Rattle.g1_explain.specs.Survivors.{survivor_line}
use Rattle.g1_explain.proofs.finders.push_finders.Given as goal

abbrev pub invariant-loop-index : goal.invariant-loop-index
invariant-loop-index l =
    string_bytes l.text ≡ string_bytes l.initial.text ++ flat_map (λ j. line_text (survivor_line l.heap (record { finder = finder_at l.finders j; target = slice_index l.survivors j }))) (range_with_len 0 l.index)
