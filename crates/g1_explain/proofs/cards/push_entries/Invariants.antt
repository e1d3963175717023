use Rattle.std.proofs.Common.{◌≡◌, ◌++◌, false, flat_map, take, string_bytes}
use Rattle.std.specs.Prelude.{slice_index_or}
use Rattle.g1_text.specs.Lines.{line_text}
use Rattle.g1_explain.specs.Cards.{entry_line}
use Rattle.g1_explain.proofs.cards.push_entries.Given as goal

abbrev pub invariant-loop-card : goal.invariant-loop-card
invariant-loop-card l = string_bytes l.text ≡ string_bytes l.initial.text ++ flat_map (λ c. line_text (entry_line l.walkable.heap (λ r. slice_index_or l.set r false) c)) (take l.card-index l.cards)
