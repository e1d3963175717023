use Rattle.std.proofs.Common.{◌≡◌, ◌++◌, flat_map, take, string_bytes}
use Rattle.g1_words.specs.Heap.{object_at}
use Rattle.g1_text.specs.Lines.{line_text, object_line}
use Rattle.g1_text.proofs.printing.push_objects.Given as goal

abbrev pub invariant-loop-start : goal.invariant-loop-start
invariant-loop-start l = string_bytes l.text ≡ string_bytes l.initial.text ++ flat_map (λ a. line_text (object_line l.heap.words (object_at l.heap a))) (take l.start-index l.starts)
