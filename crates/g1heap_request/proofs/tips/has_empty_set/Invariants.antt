use Rattle.std.proofs.Common.{◌≡◌, codes, map, ℕ, ◌<◌, slice_index_or}
use Rattle.g1heap_request.proofs.tips.has_empty_set.Given as goal

abbrev pub invariant-loop-word : goal.invariant-loop-word
invariant-loop-word l = (k : ℕ) → k < l.word-index → slice_index_or (map (λ w. w.bytes.items) l.words) k (codes "--set") ≡ codes "--set" → ⊥
