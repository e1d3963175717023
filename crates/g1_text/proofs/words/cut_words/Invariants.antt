use Rattle.std.proofs.Common.{◌≡◌, ◌≤◌, ◌-◌, ◌++◌, length, map, drop}
use Rattle.std.specs.Str.{IsCharBoundary}
use Rattle.g1_text.specs.Reading.{words_in}
use Rattle.g1_text.proofs.words.cut_words.Given as goal

abbrev pub invariant-loop-at : goal.invariant-loop-at
invariant-loop-at l = (map (λ t. t.now) l.words.items ++ words_in (drop l.at l.line) ≡ words_in l.line) × (l.at ≤ length l.line → IsCharBoundary l.line l.at)

abbrev pub decreases-loop-at : goal.decreases-loop-at
decreases-loop-at l = length l.bytes - l.at
