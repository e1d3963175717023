-- The laws that public functions of this crate prove.
use Rattle.std.specs.Prelude.{◌≡◌, ℕ, List, Result, Ok}
use Rattle.g1_words.specs.declared.limits.Limits.{Limits}
use Rattle.g1_words.specs.declared.fault.Fault.{Fault}
use Rattle.g1_words.specs.Heap.{Heap}
use Rattle.g1_words.specs.Live.{IsLiveBytes}
use Rattle.g1_words.specs.Valid.{IsValid}
use Rattle.g1_image.specs.Image.{Image}
use Rattle.g1_image.specs.Cards.{IsTracked}
use Rattle.g1_image.specs.Reading.{IsBytes}
use Rattle.g1_choose.specs.declared.parameters.Cost.{Cost}
use Rattle.g1_pause.specs.declared.settings.Choice.{Choice}
use Rattle.g1_pause.specs.Answer.{AskTheSame, IsSetFor, IsEvacuated, IsAnswerWithin}
use Rattle.g1_pause.specs.Follows.{Follows, TextFollowsWithin}

-- a choice has one set
abbrev pub OneSetFor : Type 0
OneSetFor = (cost : Cost) (i : Image) (choice : Choice) (s t : List ℕ) → IsSetFor cost i choice s → IsSetFor cost i choice t → s ≡ t

-- the pause of an image gives one thing
abbrev pub OneEvacuation : Type 0
OneEvacuation = (cost : Cost) (i : Image) (choice : Choice) (x y : Result Image Fault) → IsTracked i → IsEvacuated cost choice i x → IsEvacuated cost choice i y → x ≡ y

-- within any limits bytes have one answer
abbrev pub OneAnswer : Type 0
OneAnswer = (limits : Limits) (cost : Cost) (choice : Choice) (bytes : List ℕ) (x y : Result (List ℕ) Fault) → IsAnswerWithin limits cost choice bytes x → IsAnswerWithin limits cost choice bytes y → x ≡ y

-- the pause of an image is told by what a choice asks for
abbrev pub EvacuationByAsking : Type 0
EvacuationByAsking = (cost : Cost) (i : Image) (c d : Choice) (x : Result Image Fault) → AskTheSame c d → IsEvacuated cost c i x → IsEvacuated cost d i x

-- and so is the answer to bytes
abbrev pub AnswerByAsking : Type 0
AnswerByAsking = (limits : Limits) (cost : Cost) (c d : Choice) (bytes : List ℕ) (x : Result (List ℕ) Fault) → AskTheSame c d → IsAnswerWithin limits cost c bytes x → IsAnswerWithin limits cost d bytes x

-- a valid heap has live bytes
abbrev pub LiveBytesExist : Type 0
LiveBytesExist = (h : Heap) → IsValid h → (lives : List ℕ) × IsLiveBytes h lives

-- a tracked image has a pause, whatever the choice and the cost
abbrev pub EvacuationExists : Type 0
EvacuationExists = (cost : Cost) (i : Image) (choice : Choice) → IsTracked i → (x : Result Image Fault) × IsEvacuated cost choice i x

-- within any limits bytes always have an answer
abbrev pub AnswerExists : Type 0
AnswerExists = (limits : Limits) (cost : Cost) (choice : Choice) (bytes : List ℕ) → IsBytes bytes → (x : Result (List ℕ) Fault) × IsAnswerWithin limits cost choice bytes x

-- the image that a pause gives follows from the image before
abbrev pub EvacuationFollows : Type 0
EvacuationFollows = (cost : Cost) (choice : Choice) (i j : Image) → IsTracked i → IsEvacuated cost choice i (Ok j) → Follows cost choice i j

-- and so do the texts
abbrev pub AnswerFollows : Type 0
AnswerFollows = (limits : Limits) (cost : Cost) (choice : Choice) (bytes out : List ℕ) → IsAnswerWithin limits cost choice bytes (Ok out) → TextFollowsWithin limits cost choice bytes out
