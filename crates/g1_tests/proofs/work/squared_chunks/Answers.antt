use Rattle.std.proofs.Common.{◌≡◌, ◌+◌, ◌*◌, ℕ}
use Rattle.g1_tables.proofs.Chunks.{each_out}
use Rattle.g1_tests.proofs.work.squared_chunks.Goals as goal

pub returns-clause-len : goal.returns-clause-len
returns-clause-len g c = c.in_ok-states-2.ensures.ok.count

pub returns-clause-squares : goal.returns-clause-squares
returns-clause-squares g c = λ k lt. each_out {S = ℕ} {O = ℕ} (λ s i t o. (o ≡ i * i) × (t ≡ i + 1)) c.args.chunks (λ q. q.1 ≡ q.0 * q.0) (λ s i t o h. h.0) _ _ _ c.in_ok-states-2.ensures.ok k 0 lt
