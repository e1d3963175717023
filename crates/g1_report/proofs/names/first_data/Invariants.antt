use Rattle.std.proofs.Common.{◌≡◌, ℕ, ◌<◌, false, []}
use Rattle.std.specs.Prelude.{slice_index_or}
use Rattle.g1_report.specs.Program.{is_data, texts}
use Rattle.g1_report.proofs.names.first_data.Given as goal

abbrev pub invariant-loop-place : goal.invariant-loop-place
invariant-loop-place l = (k : ℕ) → k < l.place → is_data (slice_index_or (texts l.words) k []) ≡ false
