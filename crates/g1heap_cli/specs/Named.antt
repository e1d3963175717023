-- The names of a program that a file gives, and lines with them.
use Rattle.std.specs.Prelude.{◌≡◌, ◌⊎◌, ℕ, List, Option, Some, None, String, option_map}
use Rattle.g1_words.specs.Heap.{Heap}
use Rattle.g1_command.specs.declared.refusal.Refusal.{Refusal}
use Rattle.g1_report.specs.declared.sides.Side.{Side}
use Rattle.g1_report.specs.declared.names.WrongNames.{WrongNames}
use Rattle.g1_report.specs.Program.{ProgramNames, text_lines}
use Rattle.g1_report.specs.NamesText.{IsNamesText, IsWrongNames}
use Rattle.g1_report.specs.Noted.{SpeaksOfObjects, noted_text}
use Rattle.g1_report.specs.Answer.{labels_of}
use Rattle.g1heap_cli.specs.Refusals.{IsUnread}
use Rattle.g1heap_cli.specs.Lines.{RefusesNames}
use Rattle.g1heap_cli.specs.Streams.{HoldsOfNamed}

-- the names of a heap's objects by address, if they have names
abbrev pub ObjectNames : Type 0
ObjectNames = Option (List (ℕ × List ℕ))

-- those of a side
abbrev pub names_on : Side → ObjectNames
names_on s = option_map text_lines (labels_of s)

-- THE NAMES IN A FILE are those that its bytes say, of a heap whose objects have these names
abbrev pub AreNamesOfFile : List ℕ → Option (List ℕ) → ObjectNames → ProgramNames → Type 0
AreNamesOfFile file left labels p = HoldsOfNamed file left (λ bytes. IsNamesText bytes labels p)

-- THE NAMES OF A PROGRAM: those in the file that is given; none without one
abbrev pub AreNamesGiven : {Z : Type 0} → Option (String Z) → Option (List ℕ) → ObjectNames → Option ProgramNames → Type 0
AreNamesGiven None left labels names = names ≡ None
AreNamesGiven (Some file) left labels None = ⊥
AreNamesGiven (Some file) left labels (Some p) = AreNamesOfFile file.bytes.items left labels p

-- THE REFUSAL OF A FILE OF NAMES: it is not read, or its bytes have no names
abbrev pub RefusesNamesOf : List ℕ → Option (List ℕ) → ObjectNames → Refusal → Type 0
RefusesNamesOf file left labels r = IsUnread file r ⊎ HoldsOfNamed file left (λ bytes. (wrong : WrongNames) × IsWrongNames bytes labels wrong × RefusesNames file wrong r)

-- the same of a file that may be given: without one there is no refusal
abbrev pub RefusesNamesGiven : {Z : Type 0} → Option (String Z) → Option (List ℕ) → ObjectNames → Refusal → Type 0
RefusesNamesGiven None left labels r = ⊥
RefusesNamesGiven (Some file) left labels r = RefusesNamesOf file.bytes.items left labels r

-- THE LINES WITH THE NAMES of a program behind them, if each of these lines that names an object has the address of one
abbrev pub AreLinesNamed : ProgramNames → Heap → List ℕ → List ℕ → Type 0
AreLinesNamed p h lines text = SpeaksOfObjects h lines → text ≡ noted_text p h lines

-- lines of an image, with the names behind them that the bytes of a file say, which are by address
abbrev pub IsTextNamed : List ℕ → Option (List ℕ) → Heap → (List ℕ → Type 0) → List ℕ → Type 0
IsTextNamed file left h Is text = (lines : List ℕ) × (p : ProgramNames) × Is lines × AreNamesOfFile file left None p × AreLinesNamed p h lines text

-- THE TEXT OF LINES: these as they are, or with the names of a file that is given
abbrev pub MayBeNamed : {Z : Type 0} → Option (String Z) → Option (List ℕ) → Heap → (List ℕ → Type 0) → List ℕ → Type 0
MayBeNamed None left h Is text = Is text
MayBeNamed (Some file) left h Is text = IsTextNamed file.bytes.items left h Is text
