-- The reply to a new image, from what is made of an image.
use Rattle.std.proofs.Common.{◌≡◌, ◌⊎◌, inl, inr, ℕ, List, Option, Result, Ok, Err, refl, sym, subst}
use Rattle.std.specs.Prelude.{IfErr}
use Rattle.std.specs.Io.KnownBytes.{Keeps}
use Rattle.g1_words.specs.declared.limits.Limits.{Limits}
use Rattle.g1_words.specs.declared.fault.Fault.{Fault}
use Rattle.g1_words.specs.declared.fault.Fault.TheVariants as fault
use Rattle.g1_words.specs.declared.fault.Device.TheVariants as device
use Rattle.g1_image.specs.Image.{Image, IsTextIn, IsTextWithin}
use Rattle.g1_image.specs.declared.cursor.Version.TheVariants.{Two}
use Rattle.g1_image.specs.Faults.{MayFailWithin}
use Rattle.g1_image.specs.Source.{HoldsOfLeft}
use Rattle.g1_image.specs.Sink.{Writes}
use Rattle.g1_pause.specs.Settings.{Settings}
use Rattle.g1_pause.specs.Answer.{IsAnswerWithin}
use Rattle.g1_command.proofs.Delivered.{flushed}
use Rattle.g1_answers.specs.declared.question.Sharing.{Sharing}
use Rattle.g1_answers.specs.declared.question.Pause.{Pause}
use Rattle.g1_answers.specs.declared.question.NewImage.{NewImage}
use Rattle.g1_answers.specs.declared.question.NewImage.TheVariants.{Repacked, Paused}
use Rattle.g1_answers.specs.Numbers.{RefusesImage, AreSettingsOf}
use Rattle.g1_answers.specs.Replies.{settled, Gives, MayRefuse}
use Rattle.g1_answers.specs.Images.{IsRepacked, unread, repacked, IsImageMade, IsNewImage}
use Rattle.g1_answers.proofs.Given.{of_left, left_so, withheld, sent, cut, gives_so, memory_wanted, setting_refused, not_read}

-- the text of an image, written and handed on
pub image_sent : (i : Image) (old mid new : Option (List ℕ)) (u : Unit {0}) (r : Result (Unit {0}) Fault) → (text : List ℕ) × IsTextIn Two text i × Writes text old mid (Ok u) → Keeps mid new
    → IfErr r (λ e. e ≡ fault.Device device.Output) → (out : List ℕ) × IsTextIn Two out i × Gives (λ x. x ≡ Ok out) old new r
image_sent i old mid new u r w kept failed = (w.0, w.1, sent (λ x. x ≡ Ok w.0) w.0 old new r refl (flushed w.0 old mid new r w.2 kept) failed)

-- or cut
pub image_cut : (i : Image) (old new : Option (List ℕ)) (e : Fault) → (text : List ℕ) × IsTextIn Two text i × Writes text old new (Err e)
    → (out : List ℕ) × IsTextIn Two out i × Gives (λ x. x ≡ Ok out) old new (Err e)
image_cut i old new e w = (w.0, w.1, cut (λ x. x ≡ Ok w.0) w.0 old new e refl w.2)

-- bytes that are not read are not written in another version
pub not_repacked : (limits : Limits) (left old : Option (List ℕ)) (e : Fault) → (e ≡ fault.Device device.Input) ⊎ HoldsOfLeft left (λ xs. MayFailWithin limits xs e)
    → HoldsOfLeft left (λ xs. Gives (IsRepacked limits xs) old old (Err e))
not_repacked limits left old e h =
    left_so left (λ xs. MayRefuse (IsRepacked limits xs) e) (λ xs. Gives (IsRepacked limits xs) old old (Err e)) (λ xs bad. withheld (IsRepacked limits xs) old e bad)
    (not_read limits left (IsRepacked limits) (λ xs f bad. unread bad) e h)

pub repacks : (limits : Limits) (left old new : Option (List ℕ)) (i : Image) (r : Result (Unit {0}) Fault) → HoldsOfLeft left (λ xs. IsTextWithin limits xs i)
    → (out : List ℕ) × IsTextIn Two out i × Gives (λ x. x ≡ Ok out) old new r → HoldsOfLeft left (λ xs. Gives (IsRepacked limits xs) old new r)
repacks limits left old new i r read w =
    left_so left (λ xs. IsTextWithin limits xs i) (λ xs. Gives (IsRepacked limits xs) old new r)
    (λ xs t. gives_so (λ x. x ≡ Ok w.0) (IsRepacked limits xs) (λ x is. subst (IsRepacked limits xs) (sym is) (repacked t w.1)) old new r w.2) read

module _ (limits : Limits) (wanted : NewImage) (left old : Option (List ℕ)) where
  -- no settings
  pub no_new_image : (e : Fault) → (e ≡ fault.Memory) ⊎ ((which : ℕ) × RefusesImage wanted which × (e ≡ fault.Settings which))
      → HoldsOfLeft left (λ xs. Gives (IsNewImage limits wanted xs) old old (Err e))
  no_new_image e h = of_left left (λ xs. Gives (IsNewImage limits wanted xs) old old (Err e)) (λ xs. withheld (IsNewImage limits wanted xs) old e (why xs h))
    where
      why : (xs : List ℕ) → (e ≡ fault.Memory) ⊎ ((which : ℕ) × RefusesImage wanted which × (e ≡ fault.Settings which)) → MayRefuse (IsNewImage limits wanted xs) e
      why xs (inl p) = memory_wanted (IsNewImage limits wanted xs) e p
      why xs (inr bad) = setting_refused (RefusesImage wanted) (IsImageMade limits wanted xs) e bad

  module _ (none : (which : ℕ) → RefusesImage wanted which → ⊥) (new : Option (List ℕ)) (r : Result (Unit {0}) Fault) where
    made : HoldsOfLeft left (λ xs. Gives (IsImageMade limits wanted xs) old new r) → HoldsOfLeft left (λ xs. Gives (IsNewImage limits wanted xs) old new r)
    made h = left_so left (λ xs. Gives (IsImageMade limits wanted xs) old new r) (λ xs. Gives (IsNewImage limits wanted xs) old new r)
        (λ xs g. gives_so (IsImageMade limits wanted xs) (IsNewImage limits wanted xs) (λ x is. settled none is) old new r g) h

    pub made_again : (sharing : Sharing) → wanted ≡ Repacked sharing → HoldsOfLeft left (λ xs. Gives (IsRepacked limits xs) old new r) → HoldsOfLeft left (λ xs. Gives (IsNewImage limits wanted xs) old new r)
    made_again sharing is h = made (subst (λ w. HoldsOfLeft left (λ xs. Gives (IsImageMade limits w xs) old new r)) (sym is) h)

    pub made_by_pause : (pause : Pause) (s : Settings) → wanted ≡ Paused pause → AreSettingsOf wanted s
        → HoldsOfLeft left (λ xs. Gives (IsAnswerWithin limits s.cost s.choice xs) old new r) → HoldsOfLeft left (λ xs. Gives (IsNewImage limits wanted xs) old new r)
    made_by_pause pause s is settings h =
        let by = subst (λ w. AreSettingsOf w s) is settings in
        let P = λ (xs : List ℕ). Gives (IsImageMade limits (Paused pause) xs) old new r in
        made (subst (λ w. HoldsOfLeft left (λ xs. Gives (IsImageMade limits w xs) old new r)) (sym is)
        (left_so left (λ xs. Gives (IsAnswerWithin limits s.cost s.choice xs) old new r) P
        (λ xs g. gives_so (IsAnswerWithin limits s.cost s.choice xs) (IsImageMade limits (Paused pause) xs)
        (λ x a. (s.choice, by.1, subst (λ c. IsAnswerWithin limits c s.choice xs x) by.0 a)) old new r g) h))
