-- What is wrong with the values of a command, by the rows that clap found. A command whose options lack one of these has no
-- row of it, so one list of reasons serves all commands.
use Rattle.std.specs.Prelude.{◌≡◌, ◌≢◌, ◌⊎◌, ℕ, List, [], ◌∷◌, ◌++◌, Some, codes, option_to_list}
use Rattle.clap.specs.Words.{Row, Text, first_of}
use Rattle.g1_command.specs.Values.{IsNoRegionOf, IsOn, texts_of}
use Rattle.g1_command.specs.Lists.{AreRegionsIn, parts_of}
use Rattle.g1_answers.specs.Asked.{HasNoNumberOf, number_options}
use Rattle.g1heap_request.specs.declared.dump.HeapSizes.{HeapSizes}
use Rattle.g1heap_request.specs.Asks.{AreSizesIn, IsNoneAsked}
use Rattle.g1heap_request.specs.InRange.{IsOutOfRange}
use Rattle.g1heap_request.specs.Together.{AreTogether, LacksAnother, ReadsTwice, compared, named}
use Rattle.g1heap_request.specs.Values.{IsCount, standard}

-- the options that have a number
abbrev pub numbers : List Text
numbers = number_options ++ codes "object" ∷ codes "address" ∷ []

-- a text is no number that counts
abbrev pub IsNoCount : Text → Type 0
IsNoCount text = (n : ℕ) → IsCount n text → ⊥

-- lists name no regions
abbrev pub NameNone : List Text → Type 0
NameNone lists = (regions : List ℕ) → AreRegionsIn lists regions → ⊥

-- a text is no sizes of a heap
abbrev pub AreNoSizes : Text → Type 0
AreNoSizes text = (sizes : HeapSizes) → AreSizesIn (parts_of text) sizes → ⊥

-- WHY THE VALUES OF A COMMAND ARE NO REQUEST
pub data HasWrongValue (rows : List Row) : Type 0 where
  no_number : HasNoNumberOf numbers rows → HasWrongValue rows
  no_region : IsNoRegionOf rows (codes "region") → HasWrongValue rows
  no_set : NameNone (texts_of rows (codes "set")) → HasWrongValue rows
  no_young : NameNone (option_to_list (first_of (codes "young") rows)) → HasWrongValue rows
  no_limits : (text : Text) → first_of (codes "limits") rows ≡ Some text → text ≢ codes "wide" → text ≢ codes "specification" → HasWrongValue rows
  no_sizes : (text : Text) → first_of (codes "sizes") rows ≡ Some text → AreNoSizes text → HasWrongValue rows
  no_count : (text : Text) → first_of (codes "all") rows ≡ Some text → IsNoCount text → HasWrongValue rows
  no_command : (number file : Text) → texts_of rows (codes "image") ≡ number ∷ file ∷ [] → IsNoCount number → HasWrongValue rows
  beside_replies : (number : Text) → texts_of rows (codes "image") ≡ number ∷ standard ∷ [] → IsOn rows (codes "live") → HasWrongValue rows
  alone : LacksAnother rows → HasWrongValue rows
  together : AreTogether rows → HasWrongValue rows
  read_twice : ReadsTwice rows compared ⊎ ReadsTwice rows named → HasWrongValue rows

-- a command answers a question of an image, or makes another one of it: so its numbers have ranges
abbrev pub HasRanges : Text → List Row → Type 0
HasRanges name rows = IsNoneAsked name → IsOn rows (codes "repack")

-- WHY A COMMAND IS REFUSED: a value of it is wrong; or one is out of its range; or no file gets the names that it makes
pub data IsRefused (name : Text) (rows : List Row) : Type 0 where
  by_value : HasWrongValue rows → IsRefused name rows
  by_range : HasRanges name rows → IsOutOfRange rows → IsRefused name rows
  by_file : name ≡ codes "convert" → first_of (codes "names") rows ≡ Some standard → IsRefused name rows
