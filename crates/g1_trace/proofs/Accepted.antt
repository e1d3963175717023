-- Settings within their ranges are accepted.
use Rattle.std.proofs.Common.{◌≡◌, ℕ, refl}
use Rattle.std.specs.Prelude.{IfErr, Result, Ok, Err}
use Rattle.std.specs.Result.{IsOk}
use Rattle.g1_words.specs.declared.fault.Fault.{Fault}
use Rattle.g1_words.specs.declared.fault.Fault.TheVariants.{Settings}
use Rattle.g1_choose.specs.declared.parameters.Cost.{Cost}
use Rattle.g1_choose.specs.Cost.{IsCost}
use Rattle.g1_work.specs.Team.{AreWorkers, IsChunk}
use Rattle.g1_pause.specs.Settings.{IsRefused, by_workers, by_chunk, by_cost}

module _ {workers chunk : ℕ} {cost : Cost} (w : AreWorkers workers) (k : IsChunk chunk) (c : IsCost cost) where
  not_refused : {which : ℕ} → IsRefused workers chunk cost which → ⊥
  not_refused (by_workers out) = out w
  not_refused (by_chunk _ out) = out k
  not_refused (by_cost _ _ out) = out c

  pub accepted : {A : Type 0} (made : Result A Fault) → IfErr made (λ e. (which : ℕ) × IsRefused workers chunk cost which × (e ≡ Settings which)) → IsOk made
  accepted (Ok a) h = refl
  accepted (Err e) h = absurd (not_refused h.1)
