-- The laws that public functions of this crate prove.
use Rattle.std.specs.Prelude.{◌≡◌, ◌↔◌, ℕ, false, List, ◌∷◌, Option, map, All}
use Rattle.std.specs.List.{list_any}
use Rattle.g1_words.specs.Heap.{Heap}
use Rattle.g1_words.specs.Valid.{IsValid}
use Rattle.g1_words.specs.Graph.{SameGraph}
use Rattle.g1_image.specs.Image.{Image, IsImage}
use Rattle.g1_text.specs.Lines.{image_text, image_lines, heading}
use Rattle.g1_text.specs.Reading.{HasLines, words_in, parts_of}
use Rattle.g1_text.specs.Graphs.{NamedGraph, SaysGraph}
use Rattle.g1_text.specs.Forms.{StandsFor}
use Rattle.g1_text.specs.Weak.{Slot, AreSlotsOf, is_weak, IsWithoutWeak}
use Rattle.g1_text.specs.Carried.{Carries}
use Rattle.g1_text.specs.Renamed.{HasOwnNames, SameByName}
use Rattle.g1_text.specs.Content.{Content, Line, Begins, Says, Adds, IsContentOf, SaysImage, words_of}

-- a full text is that of one image
abbrev pub OneImage : Type 0
OneImage = (i j : Image) → IsImage i → IsImage j → image_text i ≡ image_text j → i ≡ j

-- the lines of an image are a heading and lines that add up to the image
abbrev pub LinesAddUp : Type 0
LinesAddUp = (i : Image) → IsImage i
    → (b : Content) × (c : Content) × (lines : List Line) × Begins (heading i) b × (image_lines i ≡ heading i ∷ map words_of lines) × Adds b lines c × IsContentOf c i

-- lines with the words of an image's lines say the image, and nothing else
abbrev pub LinesSayImage : Type 0
LinesSayImage = (i : Image) (b c : Content) (lines : List Line) → IsImage i → Begins (heading i) b → image_lines i ≡ heading i ∷ map words_of lines → Adds b lines c → IsContentOf c i

-- a text with the lines of an image says the image
abbrev pub TextsSayImage : Type 0
TextsSayImage = (i : Image) (text : List ℕ) → IsImage i → HasLines text (image_lines i) → SaysImage text i

-- the words of a line say at most one thing
abbrev pub LinesSayOne : Type 0
LinesSayOne = (before : Option Content) (words : List (List ℕ)) (c d : Content) → Says before words c → Says before words d → c ≡ d

-- a text says at most one image
abbrev pub TextsSayOne : Type 0
TextsSayOne = (text : List ℕ) (i j : Image) → SaysImage text i → SaysImage text j → i ≡ j

-- a text says at most one graph by name
abbrev pub TextsSayOneGraph : Type 0
TextsSayOneGraph = (text : List ℕ) (g h : NamedGraph) → SaysGraph text g → SaysGraph text h → g ≡ h

-- a word stands for at most one number
abbrev pub OneValue : Type 0
OneValue = (m n : ℕ) (word : List ℕ) → StandsFor m word → StandsFor n word → m ≡ n

-- in a graph that a text says each object has a name of its own
abbrev pub TextsGiveOwnNames : Type 0
TextsGiveOwnNames = (text : List ℕ) (g : NamedGraph) → SaysGraph text g → HasOwnNames g

-- two heaps that carry graphs by name show the same graph exactly if these are the same by name
abbrev pub SameCarried : Type 0
SameCarried = (g h : NamedGraph) (ats bts : List ℕ) (x y : Heap) → HasOwnNames g → HasOwnNames h → IsValid x → IsValid y → Carries g ats x → Carries h bts y
    → SameGraph x y ↔ SameByName g h

-- two heaps that carry one graph by name show the same graph, wherever its objects stand
abbrev pub SameWhereverPlaced : Type 0
SameWhereverPlaced = (g : NamedGraph) (ats bts : List ℕ) (x y : Heap) → HasOwnNames g → IsValid x → IsValid y → Carries g ats x → Carries g bts y → SameGraph x y

-- a text with weak references is read as one text
abbrev pub TextsReadOne : Type 0
TextsReadOne = (text a b : List ℕ) → IsWithoutWeak text a → IsWithoutWeak text b → a ≡ b

-- a text without weak references is read as it is
abbrev pub PlainTextsStay : Type 0
PlainTextsStay = (text other : List ℕ) → All (λ line. (slots : List Slot) → AreSlotsOf (words_in line) slots → list_any is_weak slots ≡ false) (parts_of text)
    → IsWithoutWeak text other → other ≡ text
