-- The images that are made of another one: `show --repack`, `pause`.
use Rattle.std.specs.Prelude.{ℕ, List, Result, Ok, Err}
use Rattle.g1_words.specs.declared.limits.Limits.{Limits}
use Rattle.g1_words.specs.declared.fault.Fault.{Fault}
use Rattle.g1_image.specs.Image.{Image, IsTextIn, IsTextWithin}
use Rattle.g1_image.specs.declared.cursor.Version.TheVariants.{Two}
use Rattle.g1_image.specs.Faults.{FaultWithin}
use Rattle.g1_pause.specs.declared.settings.Choice.{Choice}
use Rattle.g1_pause.specs.Answer.{IsAnswerWithin}
use Rattle.g1_answers.specs.declared.question.Pause.{Pause}
use Rattle.g1_answers.specs.declared.question.NewImage.{NewImage}
use Rattle.g1_answers.specs.declared.question.NewImage.TheVariants.{Repacked, Paused}
use Rattle.g1_answers.specs.Numbers.{RefusesImage, IsChoiceOf}
use Rattle.g1_answers.specs.Replies.{Settled}

-- the bytes' image in version 2, or the fault of bytes that are no image's text within these limits
pub data IsRepacked (limits : Limits) (bytes : List ℕ) : Result (List ℕ) Fault → Type 0 where
  unread : {f : Fault} → FaultWithin limits bytes f → IsRepacked limits bytes (Err f)
  repacked : {i : Image} {out : List ℕ} → IsTextWithin limits bytes i → IsTextIn Two out i → IsRepacked limits bytes (Ok out)

-- the answer of the pause that the cost and the choice ask for
abbrev pub IsPausedAs : Limits → Pause → List ℕ → Result (List ℕ) Fault → Type 0
IsPausedAs limits pause bytes r = (choice : Choice) × IsChoiceOf pause choice × IsAnswerWithin limits pause.cost choice bytes r

-- what is made of the image that the bytes say
abbrev pub IsImageMade : Limits → NewImage → List ℕ → Result (List ℕ) Fault → Type 0
IsImageMade limits (Repacked sharing) bytes r = IsRepacked limits bytes r
IsImageMade limits (Paused pause) bytes r = IsPausedAs limits pause bytes r

-- THE REPLY TO A NEW IMAGE that is asked for
abbrev pub IsNewImage : Limits → NewImage → List ℕ → Result (List ℕ) Fault → Type 0
IsNewImage limits wanted bytes r = Settled (RefusesImage wanted) (IsImageMade limits wanted bytes) r
