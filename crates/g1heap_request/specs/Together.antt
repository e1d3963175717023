-- Which options go together: some exclude one another, some need another one, and one file alone is standard input.
use Rattle.std.specs.Prelude.{◌≡◌, ◌≢◌, ◌<◌, ◌≤◌, ◌⊎◌, ℕ, Bool, false, List, [], ◌∷◌, None, codes}
use Rattle.std.specs.List.{count_by}
use Rattle.std.specs.Option.{option_map_or}
use Rattle.std.specs.Str.{bytes_eq}
use Rattle.clap.specs.Words.{Row, Text, first_of}
use Rattle.g1_command.specs.Values.{IsOn, IsOff}
use Rattle.g1heap_request.specs.Values.{standard}

-- an option that has a value is given; it is left out
abbrev pub IsGiven : List Row → Text → Type 0
IsGiven rows option = first_of option rows ≢ None

abbrev pub IsLeftOut : List Row → Text → Type 0
IsLeftOut rows option = first_of option rows ≡ None

-- OPTIONS THAT EXCLUDE ONE ANOTHER are both there
pub data AreTogether (rows : List Row) : Type 0 where
  budget_and_set : IsGiven rows (codes "budget") → IsGiven rows (codes "set") → AreTogether rows
  object_and_region : IsGiven rows (codes "object") → IsGiven rows (codes "region") → AreTogether rows
  summary_and_region : IsOn rows (codes "summary") → IsGiven rows (codes "region") → AreTogether rows
  summary_and_object : IsOn rows (codes "summary") → IsGiven rows (codes "object") → AreTogether rows
  hex_and_summary : IsOn rows (codes "hex") → IsOn rows (codes "summary") → AreTogether rows
  map_and_names : IsOn rows (codes "map") → IsGiven rows (codes "names") → AreTogether rows

-- no two of the options that choose what is printed are there
pub record ArePrinted (rows : List Row) : Type 0 where
  pub object_or_region : IsLeftOut rows (codes "object") ⊎ IsLeftOut rows (codes "region")
  pub summary_or_region : IsOff rows (codes "summary") ⊎ IsLeftOut rows (codes "region")
  pub summary_or_object : IsOff rows (codes "summary") ⊎ IsLeftOut rows (codes "object")
  pub hex_or_summary : IsOff rows (codes "hex") ⊎ IsOff rows (codes "summary")

-- nor is a budget beside regions to collect
abbrev pub IsOneChoice : List Row → Type 0
IsOneChoice rows = IsLeftOut rows (codes "budget") ⊎ IsLeftOut rows (codes "set")

-- AN OPTION LACKS ANOTHER ONE, without which it has no meaning
pub data LacksAnother (rows : List Row) : Type 0 where
  young : IsGiven rows (codes "young") → IsOff rows (codes "covered") → LacksAnother rows
  fill : IsOn rows (codes "fill") → IsLeftOut rows (codes "set") → LacksAnother rows
  names_after : IsGiven rows (codes "names-after") → IsLeftOut rows (codes "names") → LacksAnother rows
  without : IsGiven rows (codes "without") → IsLeftOut rows (codes "from") → LacksAnother rows
  weak : IsOn rows (codes "weak") → IsLeftOut rows (codes "from") → LacksAnother rows
  dangling_null : IsOn rows (codes "dangling-null") → IsLeftOut rows (codes "from") → LacksAnother rows

-- what a comparison is told of young regions, of filled ones and of names has a meaning
abbrev pub CoversYoung : List Row → Type 0
CoversYoung rows = IsLeftOut rows (codes "young") ⊎ IsOn rows (codes "covered")

abbrev pub FillsOfSet : List Row → Type 0
FillsOfSet rows = IsOff rows (codes "fill") ⊎ IsGiven rows (codes "set")

abbrev pub NamesBoth : List Row → Type 0
NamesBoth rows = IsLeftOut rows (codes "names-after") ⊎ IsGiven rows (codes "names")

-- what is told of a part of a dump has a meaning
pub record TellsOfPart (rows : List Row) : Type 0 where
  pub without : IsLeftOut rows (codes "without") ⊎ IsGiven rows (codes "from")
  pub weak : IsOff rows (codes "weak") ⊎ IsGiven rows (codes "from")
  pub dangling_null : IsOff rows (codes "dangling-null") ⊎ IsGiven rows (codes "from")

-- how many of these files are standard input
abbrev pub is_standard : List Row → Text → Bool
is_standard rows option = option_map_or (λ name. bytes_eq name standard) (first_of option rows) false

abbrev pub inputs_among : List Row → List Text → ℕ
inputs_among rows files = count_by (is_standard rows) files

-- STANDARD INPUT IS READ once at most; it would be read twice
abbrev pub ReadsOnce : List Row → List Text → Type 0
ReadsOnce rows files = inputs_among rows files ≤ 1

abbrev pub ReadsTwice : List Row → List Text → Type 0
ReadsTwice rows files = 1 < inputs_among rows files

-- the files of a comparison; an image and its names
abbrev pub compared : List Text
compared = codes "before" ∷ codes "after" ∷ codes "names" ∷ codes "names-after" ∷ []

abbrev pub named : List Text
named = codes "image" ∷ codes "names" ∷ []
