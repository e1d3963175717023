use Rattle.std.proofs.Common.{◌≡◌, ◌≤◌, length, drop}
use Rattle.g1_text.specs.Forms.{hash_behind, hash_of}
use Rattle.g1_text.proofs.values.hash.Given as goal

abbrev pub invariant-loop-at : goal.invariant-loop-at
invariant-loop-at l = (hash_behind l.hash (drop l.at l.fn.bytes) ≡ hash_of l.fn.bytes) × (l.at ≤ length l.fn.bytes)
