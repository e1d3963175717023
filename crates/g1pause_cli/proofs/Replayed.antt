-- The reply to a trace, from what its steps return.
use Rattle.std.proofs.Common.{◌≡◌, ◌⊎◌, inl, inr, ℕ, List, Option, Result, Ok, Err, sym, subst}
use Rattle.std.specs.Prelude.{IfOk, IfErr, IfSome}
use Rattle.g1_words.specs.declared.fault.Fault.{Fault}
use Rattle.g1_words.specs.declared.fault.Fault.TheVariants as fault
use Rattle.g1_words.specs.declared.fault.Device.TheVariants as device
use Rattle.g1_image.specs.Source.{HoldsOfLeft}
use Rattle.g1_choose.specs.declared.parameters.Cost.{Cost}
use Rattle.g1_trace.specs.Telling.{IsTold, IsRefusal}
use Rattle.g1_answers.specs.Numbers.{RefusesNumbers}
use Rattle.g1_answers.specs.Replies.{settled, MayRefuse}
use Rattle.g1_answers.proofs.Given.{of_left, memory_wanted, input_failed, setting_refused}
use Rattle.g1pause_cli.specs.declared.options.Replay.{Replay}
use Rattle.g1pause_cli.specs.Requests.{IsTranscript, bad_line, outside, told, IsReplayed}

module _ (replay : Replay) (left : Option (List ℕ)) where
  -- no settings
  pub no_settings : (e : Fault) → (which : ℕ) × RefusesNumbers replay.sharing replay.cost which × (e ≡ fault.Settings which) → HoldsOfLeft left (λ xs. MayRefuse (IsReplayed replay xs) e)
  no_settings e bad = of_left left (λ xs. MayRefuse (IsReplayed replay xs) e) (λ xs. setting_refused (RefusesNumbers replay.sharing replay.cost) (IsTranscript replay.cost xs) e bad)

  -- no bytes
  pub no_bytes : (e : Fault) → (e ≡ fault.Memory) ⊎ (e ≡ fault.Device device.Input) → HoldsOfLeft left (λ xs. MayRefuse (IsReplayed replay xs) e)
  no_bytes e (inl p) = of_left left (λ xs. MayRefuse (IsReplayed replay xs) e) (λ xs. memory_wanted (IsReplayed replay xs) e p)
  no_bytes e (inr p) = of_left left (λ xs. MayRefuse (IsReplayed replay xs) e) (λ xs. input_failed (IsReplayed replay xs) e p)

  module _ (none : (which : ℕ) → RefusesNumbers replay.sharing replay.cost which → ⊥) (bytes : List ℕ) (read : IfSome left (λ xs. xs ≡ bytes)) where
    pub replay_ok : {X : Type 0} (cost : Cost) → cost ≡ replay.cost → (r : Result X Fault) (items : X → List ℕ) → IfOk r (λ v. IsTold cost bytes (items v))
        → IfOk r (λ v. HoldsOfLeft left (λ xs. IsReplayed replay xs (Ok (items v))))
    replay_ok cost same (Ok v) items is = (bytes, settled none (told (subst (λ c. IsTold c bytes (items v)) same is)), read)
    replay_ok cost same (Err e) items is = tt

    refused : (e : Fault) → IsRefusal bytes e → MayRefuse (IsReplayed replay bytes) e
    refused e (inl p) = memory_wanted (IsReplayed replay bytes) e p
    refused e (inr (inl (n, is, bad))) = subst (MayRefuse (IsReplayed replay bytes)) (sym is) (settled none (bad_line bad))
    refused e (inr (inr (is, out))) = subst (MayRefuse (IsReplayed replay bytes)) (sym is) (settled none (outside out))

    pub replay_err : {X : Type 0} (r : Result X Fault) → IfErr r (IsRefusal bytes) → IfErr r (λ e. HoldsOfLeft left (λ xs. MayRefuse (IsReplayed replay xs) e))
    replay_err (Ok v) h = tt
    replay_err (Err e) h = (bytes, refused e h, read)
