-- What is found in the bytes of a file that is to be an image.
use Rattle.std.proofs.Common.{◌≡◌, ◌⊎◌, inl, inr, subst, ℕ, false, true≢false, List, Option}
use Rattle.g1_words.specs.declared.limits.Limits.{Limits}
use Rattle.g1_words.specs.declared.fault.Fault.{Fault}
use Rattle.g1_words.specs.declared.fault.Fault.TheVariants as fault
use Rattle.g1_words.specs.declared.fault.Device.TheVariants as device
use Rattle.g1_image.specs.Source.{HoldsOfLeft}
use Rattle.g1_image.specs.Faults.{FaultWithin, MayFailWithin}
use Rattle.g1heap_cli.specs.Refusals.{is_of_machine}

module _ (limits : Limits) (left : Option (List ℕ)) where
  -- a fault that is not the machine's is one of the bytes
  pub of_bytes : (e : Fault) → is_of_machine e ≡ false → (e ≡ fault.Device device.Input) ⊎ HoldsOfLeft left (λ xs. MayFailWithin limits xs e)
      → HoldsOfLeft left (λ xs. FaultWithin limits xs e)
  of_bytes e own (inl is) = absurd (true≢false (subst (λ x. is_of_machine x ≡ false) is own))
  of_bytes e own (inr (bytes, inl is, same)) = absurd (true≢false (subst (λ x. is_of_machine x ≡ false) is own))
  of_bytes e own (inr (bytes, inr is, same)) = (bytes, is, same)
