use Rattle.std.proofs.Common.{◌≡◌, ◌++◌, ℕ, flat_map, take, string_bytes}
use Rattle.std.specs.List.Sorted.{IsNonDecreasingBy}
use Rattle.g1_text.specs.Lines.{line_text}
use Rattle.g1_explain.proofs.DirtyLines.{pairs_line}
use Rattle.g1_explain.proofs.remembering.push_dirty_cards.Given as goal

abbrev pub invariant-loop-card : goal.invariant-loop-card
invariant-loop-card l = IsNonDecreasingBy (λ (x : ℕ × ℕ). x.0) l.gained → string_bytes l.text ≡ string_bytes l.initial.text ++ flat_map (λ c. line_text (pairs_line l.gained c)) (take l.card-index l.cards)
