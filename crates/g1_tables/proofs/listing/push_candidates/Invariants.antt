use Rattle.std.proofs.Common.{◌≡◌, ◌++◌, flat_map, take, string_bytes}
use Rattle.g1_text.specs.Lines.{line_text}
use Rattle.g1_tables.specs.Tables.{line_of}
use Rattle.g1_tables.proofs.listing.push_candidates.Given as goal

abbrev pub invariant-loop-candidate : goal.invariant-loop-candidate
invariant-loop-candidate l = string_bytes l.text ≡ string_bytes l.initial.text ++ flat_map (λ x. line_text (line_of l.word x)) (take l.candidate-index l.candidates)
