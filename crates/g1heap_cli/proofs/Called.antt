-- From the words of a call to its request.
use Rattle.std.proofs.Common.{◌≡◌, inl, inr, ℕ, List, Bool, true, Result, Ok, Err, subst, sym}
use Rattle.std.specs.Prelude.{IfOk, IfErr, OnOk}
use Rattle.g1_command.specs.declared.refusal.Refusal.{Refusal}
use Rattle.g1_command.specs.Requests.{IsUsageIf}
use Rattle.g1heap_request.specs.declared.options.Request.{Request}
use Rattle.g1heap_request.specs.Words.{Asked, IsWrong}
use Rattle.g1heap_cli.specs.Endings.{IsCalled, IsImageByDefault, IsWrongCall}
use Rattle.g1_command.proofs.Reasons.{usage_so}

-- wrong words
pub wrong_words : (words : List (List ℕ)) (at_terminal : Bool) (r : Refusal) → IsUsageIf (IsWrong words) r → IsUsageIf (IsWrongCall words at_terminal) r
wrong_words words at_terminal r h = usage_so inl r h

module _ (words : List (List ℕ)) (at_terminal : Bool) (request : Request) (asked : Asked words request) (r : Result Request Refusal) where
  -- a request that is allowed
  pub called : IfOk r (λ q. q ≡ request) → OnOk r (at_terminal ≡ true → IsImageByDefault request → ⊥) → IfOk r (IsCalled words at_terminal)
  called same allowed = go r same allowed
    where
      go : (r : Result Request Refusal) → IfOk r (λ q. q ≡ request) → OnOk r (at_terminal ≡ true → IsImageByDefault request → ⊥) → IfOk r (IsCalled words at_terminal)
      go (Ok q) is allowed = subst (IsCalled words at_terminal) (sym is) (asked, allowed)
      go (Err e) is allowed = tt

  -- one that is not
  pub not_allowed : IfErr r (IsUsageIf ((at_terminal ≡ true) × IsImageByDefault request)) → IfErr r (IsUsageIf (IsWrongCall words at_terminal))
  not_allowed refused = go r refused
    where
      go : (r : Result Request Refusal) → IfErr r (IsUsageIf ((at_terminal ≡ true) × IsImageByDefault request)) → IfErr r (IsUsageIf (IsWrongCall words at_terminal))
      go (Ok q) h = tt
      go (Err e) h = usage_so (λ k. inr (request, asked, k.0, k.1)) e h
