-- The answers to what is asked of an image: `show`, `check`, `live`, `choose`.
use Rattle.std.specs.Prelude.{◌≡◌, ℕ, List, ◌∷◌, codes, Result, Ok, Err, ⊤}
use Rattle.g1_words.specs.declared.limits.Limits.{Limits}
use Rattle.g1_words.specs.declared.fault.Fault.{Fault}
use Rattle.g1_words.specs.declared.fault.Fault.TheVariants.{Uncovered}
use Rattle.g1_image.specs.Image.{Image, IsTextWithin}
use Rattle.g1_image.specs.Faults.{FaultWithin}
use Rattle.g1_image.specs.Cards.{uncovered, Covered}
use Rattle.g1_text.specs.Lines.{text_of, table_lines}
use Rattle.g1_tables.specs.Tables.{IsLiveText, IsChoiceText}
use Rattle.g1_answers.specs.declared.question.Question.{Question}
use Rattle.g1_answers.specs.declared.question.Question.TheVariants.{Regions, Cover, Live, Candidates}
use Rattle.g1_answers.specs.Numbers.{RefusesQuestion}
use Rattle.g1_answers.specs.Replies.{Settled}

-- the question is asked of covered images alone
abbrev pub AsksCover : Question → Type 0
AsksCover (Regions sharing) = ⊥
AsksCover Cover = ⊤
AsksCover (Live sharing) = ⊥
AsksCover (Candidates sharing cost budget) = ⊤

-- the text that answers the question of an image
abbrev pub IsAnswerOf : Question → Image → List ℕ → Type 0
IsAnswerOf (Regions sharing) i text = text ≡ text_of (table_lines i)
IsAnswerOf Cover i text = text ≡ codes "covered\n"
IsAnswerOf (Live sharing) i text = IsLiveText i.heap text
IsAnswerOf (Candidates sharing cost budget) i text = IsChoiceText cost i budget text

-- by the image that the bytes say: the fault of bytes that are no image's text within these limits; that of the lowest slot
-- without cover, if the question asks for cover; else the text
pub data IsAnswered (limits : Limits) (question : Question) (bytes : List ℕ) : Result (List ℕ) Fault → Type 0 where
  unread : {f : Fault} → FaultWithin limits bytes f → IsAnswered limits question bytes (Err f)
  not_covered : {i : Image} {p : ℕ} {ps : List ℕ} → IsTextWithin limits bytes i → AsksCover question → uncovered i ≡ p ∷ ps
      → IsAnswered limits question bytes (Err (Uncovered p))
  answered : {i : Image} {text : List ℕ} → IsTextWithin limits bytes i → (AsksCover question → Covered i) → IsAnswerOf question i text
      → IsAnswered limits question bytes (Ok text)

-- THE REPLY TO A QUESTION of bytes
abbrev pub IsReply : Limits → Question → List ℕ → Result (List ℕ) Fault → Type 0
IsReply limits question bytes r = Settled (RefusesQuestion question) (IsAnswered limits question bytes) r
