-- What stands in a sink if no image is made of another one.
use Rattle.std.proofs.Common.{◌≡◌, inl, inr, ℕ, List, Option, Ok, Err, refl}
use Rattle.g1_words.specs.declared.limits.Limits.{Limits}
use Rattle.g1_words.specs.declared.fault.Fault.{Fault}
use Rattle.g1_words.specs.declared.fault.Fault.TheVariants as fault
use Rattle.g1_words.specs.declared.fault.Device.TheVariants as device
use Rattle.g1_command.specs.declared.refusal.Refusal.{Refusal}
use Rattle.g1_command.specs.declared.refusal.Refusal.TheVariants as refusal
use Rattle.g1_answers.specs.declared.question.NewImage.{NewImage}
use Rattle.g1_answers.specs.Images.{IsNewImage}
use Rattle.g1_answers.specs.Replies.{Gives}
use Rattle.g1heap_cli.specs.Streams.{AreNamed}
use Rattle.g1heap_cli.specs.Leaving.{Withholds}
use Rattle.g1heap_cli.specs.Replies.{ByNamed}

module _ (limits : Limits) (wanted : NewImage) (file : List ℕ) (left : Option (List ℕ)) (bytes : List ℕ) (named : AreNamed file left bytes) (old new : Option (List ℕ)) where
  -- nothing, unless the output failed
  pub withheld : (e : Fault) (why : Refusal) → (e ≡ fault.Device device.Output → why ≡ refusal.Fault e) → Gives (IsNewImage limits wanted bytes) old new (Err e)
      → Withholds (ByNamed file left (λ xs text. IsNewImage limits wanted xs (Ok text))) old new why
  withheld (fault.Device device.Output) why same (text, k, is, a) = inr (same refl, (0, text, k, (refl, (bytes, is, named)), a))
  withheld (fault.Device device.Input) why same h = inl h.0
  withheld fault.Memory why same h = inl h.0
  withheld e why same h = inl h.0
