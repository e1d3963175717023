use Rattle.std.proofs.Common.{ℕ, ◌<◌, ◌+◌, slice_index}
use Rattle.g1_words.specs.Valid.{IsReference}
use Rattle.g1_image.proofs.refs.first_stray.Given as goal

abbrev pub invariant-loop-i : goal.invariant-loop-i
invariant-loop-i l = (q : ℕ) → q < l.i → IsReference l.draft (slice_index l.words.items (l.object.at + 1 + q))
