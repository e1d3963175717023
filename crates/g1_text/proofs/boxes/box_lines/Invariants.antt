use Rattle.std.proofs.Common.{◌≡◌, take}
use Rattle.std.specs.Prelude.{flat_map, string_bytes}
use Rattle.g1_text.specs.Boxes.{box_line}
use Rattle.g1_text.specs.Marked.{names_found}
use Rattle.g1_text.proofs.boxes.box_lines.Given as goal

abbrev pub invariant-loop-word : goal.invariant-loop-word
invariant-loop-word l = string_bytes l.lines ≡ flat_map (λ k. box_line (names_found l.fn.found) k.now) (take l.word-index l.fn.found.words.keys)
