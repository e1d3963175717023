-- What a command asks with its options, by the rows that clap found of them.
use Rattle.std.specs.Prelude.{◌≡◌, ◌≢◌, List, [], ◌∷◌, ◌++◌, Option, None, Some, codes}
use Rattle.std.specs.List.{Any}
use Rattle.clap.specs.Words.{Row, Text, first_of}
use Rattle.g1_command.specs.Values.{IsNumber, IsNumberOf, IsCostOf, IsNoNumberOf, IfGiven, cost_options}
use Rattle.g1_answers.specs.declared.question.Sharing.{Sharing}
use Rattle.g1_answers.specs.declared.question.Pause.{Pause}
use Rattle.g1_answers.specs.declared.question.Question.{Question}
use Rattle.g1_answers.specs.declared.question.Question.TheVariants.{Regions, Cover, Live, Candidates}

-- HOW THE WORK IS SHARED: by the numbers of these options
pub record IsSharingOf (rows : List Row) (sharing : Sharing) : Type 0 where
  pub workers : IsNumberOf rows (codes "workers") sharing.workers
  pub chunk : IsNumberOf rows (codes "chunk") sharing.chunk

-- THE QUESTION that a command of this name asks with its options
abbrev pub AsksQuestion : Text → List Row → Question → Type 0
AsksQuestion name rows (Regions sharing) = (name ≡ codes "show") × IsSharingOf rows sharing
AsksQuestion name rows Cover = name ≡ codes "check"
AsksQuestion name rows (Live sharing) = (name ≡ codes "live") × IsSharingOf rows sharing
AsksQuestion name rows (Candidates sharing cost budget) =
    (name ≡ codes "choose") × IsSharingOf rows sharing × IsCostOf rows cost × IsNumberOf rows (codes "budget") budget

-- a command of this name asks no question
abbrev pub IsNoQuestion : Text → Type 0
IsNoQuestion name = (name ≢ codes "show") × (name ≢ codes "check") × (name ≢ codes "live") × (name ≢ codes "choose")

-- the question of a command, or none
abbrev pub IsQuestionOf : Text → List Row → Option Question → Type 0
IsQuestionOf name rows None = IsNoQuestion name
IsQuestionOf name rows (Some question) = AsksQuestion name rows question

-- the numbers of a pause: a budget is there if it is given
pub record AreNumbersOf (rows : List Row) (pause : Pause) : Type 0 where
  pub sharing : IsSharingOf rows pause.sharing
  pub cost : IsCostOf rows pause.cost
  pub budget : IfGiven IsNumber (first_of (codes "budget") rows) pause.budget

-- THE PAUSE that the options ask for, without its regions
abbrev pub IsPauseOf : List Row → Pause → Type 0
IsPauseOf rows pause = AreNumbersOf rows pause × (pause.regions.items ≡ [])

-- the options of the sharing, and those of a pause's numbers
abbrev pub sharing_options : List Text
sharing_options = codes "workers" ∷ codes "chunk" ∷ []

abbrev pub number_options : List Text
number_options = sharing_options ++ (cost_options ++ codes "budget" ∷ [])

-- the value of one of these options is no number
abbrev pub HasNoNumberOf : List Text → List Row → Type 0
HasNoNumberOf options rows = Any (IsNoNumberOf rows) options
