-- The reply to a question, from what is answered of an image.
use Rattle.std.proofs.Common.{◌≡◌, ◌⊎◌, inl, inr, ℕ, List, ◌∷◌, Option, Result, Ok, Err, sym, subst}
use Rattle.std.specs.Prelude.{IfOk, IfErr}
use Rattle.g1_words.specs.declared.limits.Limits.{Limits}
use Rattle.g1_words.specs.declared.fault.Fault.{Fault}
use Rattle.g1_words.specs.declared.fault.Fault.TheVariants as fault
use Rattle.g1_words.specs.declared.fault.Device.TheVariants as device
use Rattle.g1_image.specs.Image.{Image, IsTextWithin}
use Rattle.g1_image.specs.Faults.{MayFailWithin}
use Rattle.g1_image.specs.Source.{HoldsOfLeft}
use Rattle.g1_image.specs.Cards.{uncovered, Covered}
use Rattle.g1_answers.specs.declared.question.Question.{Question}
use Rattle.g1_answers.specs.Numbers.{RefusesQuestion}
use Rattle.g1_answers.specs.Replies.{settled, MayRefuse}
use Rattle.g1_answers.specs.Questions.{AsksCover, IsAnswerOf, IsAnswered, unread, not_covered, answered, IsReply}
use Rattle.g1_answers.proofs.Given.{of_left, memory_wanted, setting_refused, not_read}

module _ (limits : Limits) (question : Question) (left : Option (List ℕ)) where
  pub no_settings : (e : Fault) → (which : ℕ) × RefusesQuestion question which × (e ≡ fault.Settings which) → HoldsOfLeft left (λ xs. MayRefuse (IsReply limits question xs) e)
  no_settings e bad = of_left left (λ xs. MayRefuse (IsReply limits question xs) e) (λ xs. setting_refused (RefusesQuestion question) (IsAnswered limits question xs) e bad)

  module _ (none : (which : ℕ) → RefusesQuestion question which → ⊥) where
    pub no_image : (e : Fault) → (e ≡ fault.Device device.Input) ⊎ HoldsOfLeft left (λ xs. MayFailWithin limits xs e) → HoldsOfLeft left (λ xs. MayRefuse (IsReply limits question xs) e)
    no_image e h = not_read limits left (IsReply limits question) (λ xs f bad. settled none (unread bad)) e h

    module _ (i : Image) (read : HoldsOfLeft left (λ xs. IsTextWithin limits xs i)) where
      pub answer_ok : {X : Type 0} (r : Result X Fault) (items : X → List ℕ) → IfOk r (λ v. (AsksCover question → Covered i) × IsAnswerOf question i (items v))
          → IfOk r (λ v. HoldsOfLeft left (λ xs. IsReply limits question xs (Ok (items v))))
      answer_ok (Ok v) items told = (read.0, settled none (answered read.1 told.0 told.1), read.2)
      answer_ok (Err e) items told = tt

      pub answer_err : {X : Type 0} (r : Result X Fault)
          → IfErr r (λ e. (e ≡ fault.Memory) ⊎ (AsksCover question × ((p : ℕ) × (ps : List ℕ) × (uncovered i ≡ p ∷ ps) × (e ≡ fault.Uncovered p))))
          → IfErr r (λ e. HoldsOfLeft left (λ xs. MayRefuse (IsReply limits question xs) e))
      answer_err (Ok v) told = tt
      answer_err (Err e) (inl p) = (read.0, memory_wanted (IsReply limits question read.0) e p, read.2)
      answer_err (Err e) (inr (asks, bare)) =
          (read.0, subst (MayRefuse (IsReply limits question read.0)) (sym bare.3) (settled none (not_covered read.1 asks bare.2)), read.2)
