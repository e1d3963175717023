use Rattle.std.proofs.Common.{◌≡◌, ℕ, ◌<◌, get_or, vec_len}
use Rattle.std.specs.Slots.{slots_items}
use Rattle.g1_claim.proofs.claims.Claims.close.Given as goal

abbrev pub invariant-loop-place : goal.invariant-loop-place
invariant-loop-place l = record {
  written : (k : ℕ) → k < l.place → get_or l.words.items k 0 ≡ get_or (slots_items l.closed.words) k 0;
  len : vec_len l.words ≡ vec_len l.initial.words;
}
