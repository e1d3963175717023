-- Why `same` refuses two files, in the order in which it looks at them. `left` is what standard input has left.
use Rattle.std.specs.Prelude.{◌≡◌, ◌⊎◌, ℕ, Bool, true, List, ◌∷◌, ◌++◌, codes, Option, Some, None, if◌then◌else◌}
use Rattle.g1_words.specs.declared.fault.Fault.{Fault}
use Rattle.g1_words.specs.declared.fault.Fault.TheVariants as fault
use Rattle.g1_words.specs.declared.fault.Device.TheVariants as device
use Rattle.g1_words.specs.declared.limits.Limits.{Limits}
use Rattle.g1_image.specs.Cards.{uncovered}
use Rattle.g1_image.specs.Dirty.{dirtied}
use Rattle.g1_image.specs.Image.{Image}
use Rattle.g1_command.specs.declared.refusal.Refusal.{Refusal}
use Rattle.g1_command.specs.declared.refusal.Refusal.TheVariants as refusal
use Rattle.g1_text.specs.Plain.{IsPlainText}
use Rattle.g1_text.specs.declared.expected.Wrong.{Wrong}
use Rattle.g1_text.specs.declared.expected.Wrong.TheVariants as wrong
use Rattle.g1_report.specs.declared.sides.Side.{Side}
use Rattle.g1_report.specs.declared.sides.Strays.{Strays}
use Rattle.g1_report.specs.declared.reporting.Refused.TheVariants as refused
use Rattle.g1_report.specs.Finding.{IsIdle, IsRefusal, IsVerdict}
use Rattle.g1_report.specs.Opened.{IsNoText}
use Rattle.g1_report.specs.Program.{ProgramNames}
use Rattle.g1_report.specs.Shared.{HasTwoTexts}
use Rattle.g1heap_request.specs.declared.options.Same.{Same}
use Rattle.g1heap_cli.specs.Refusals.{Tells, RefusesCover, RefusesFile, RefusesLine, told_line}
use Rattle.g1heap_cli.specs.Lines.{RefusesLines}
use Rattle.g1heap_cli.specs.Streams.{HoldsOfNamed, LeavesBehind, LeavesBehindAny}
use Rattle.g1heap_cli.specs.Named.{AreNamesGiven, RefusesNamesGiven, names_on}
use Rattle.g1heap_cli.specs.Compared.{AreLines}
use Rattle.g1heap_cli.specs.SideReasons.{IsUnreadSide}
use Rattle.g1heap_cli.specs.Young.{LacksYoung, young_cards}
use Rattle.g1heap_cli.specs.SameSuits.{AsksCardsOfLines, AsksMovesOfOne, AsksSetOfLines, Suits}
use Rattle.g1heap_cli.specs.SameReplies.{AreProgramNames, IsSideOf}

-- ---- one file
-- lines, in plain words, have no graph: what is wrong with them is told
abbrev pub RefusesText : List ℕ → List ℕ → Refusal → Type 0
RefusesText file bytes r = AreLines bytes × ((plain : List ℕ) × IsPlainText bytes plain × (wrong : Wrong) × IsNoText plain wrong × RefusesLines file wrong r)

-- A FILE HAS NO SIDE: it is not read, its bytes are neither lines nor an image, or they are lines without a graph
abbrev pub RefusesSide : Limits → List ℕ → Option (List ℕ) → Refusal → Type 0
RefusesSide limits file left r = IsUnreadSide limits file left r ⊎ HoldsOfNamed file left (λ bytes. RefusesText file bytes r)

-- the refusal of a file for what is wrong with its stale words: a line or a fault
abbrev pub RefusesWrong : List ℕ → Wrong → Refusal → Type 0
RefusesWrong file (wrong.Line number expected) r = RefusesLine file number r
RefusesWrong file (wrong.Fault f) r = RefusesFile file f r

-- a side has stale words, and what is wrong with them is told
abbrev pub RefusesStrays : List ℕ → Side → Refusal → Type 0
RefusesStrays file s r = (strays : Strays) × (s.stale ≡ Some strays) × RefusesWrong file strays.wrong r

-- ---- what is asked of two sides
-- an option is for images, and the file has lines
abbrev pub RefusesOption : List ℕ → List ℕ → Refusal → Type 0
RefusesOption file option r = Tells 2 (λ t. t ≡ told_line file (option ++ codes " is for images, and these are lines: leave it out, or compare images\n")) r

-- the option that is not for lines after: that of cover comes before that of regions
abbrev pub cards_option : Bool → List ℕ
cards_option covered = if covered then codes "--covered" else codes "--set"

-- it can't be asked what moved
abbrev pub RefusesMoves : List ℕ → Refusal → Type 0
RefusesMoves file r =
    Tells 2 (λ t. t ≡ told_line file (codes "--moved is for two images or for lines twice: leave it out, or name the objects of both by --names-after\n")) r

-- a word stands for one text before, and for another one after: the lowest such word is told
abbrev pub RefusesTexts : List ℕ → Side → Side → Refusal → Type 0
RefusesTexts file b a r =
    (word : ℕ) × (text : List ℕ) × (other : List ℕ) × HasTwoTexts b a word text other
    × Tells 3 (λ t. t ≡ told_line file (other ++ (codes " has the hash of " ++ (text ++ codes ", which is in the other file: write it in another way\n")))) r

-- this is so, and it is told; or it is not, and what stands behind it is told
abbrev pub TellsFirst : Type 0 → Type 0 → Type 0 → Type 0
TellsFirst Is told behind = (Is × told) ⊎ ((Is → ⊥) × behind)

-- WHAT IS ASKED DOES NOT SUIT THE SIDES: the first thing that does not is told
abbrev pub RefusesAsked : Same → Side → Side → Refusal → Type 0
RefusesAsked same b a r =
    TellsFirst (AsksSetOfLines same b) (RefusesOption same.before.bytes.items (codes "--set") r)
    (TellsFirst (AsksCardsOfLines same a) (RefusesOption same.after.bytes.items (cards_option same.covered) r)
    (TellsFirst (AsksMovesOfOne same b a) (RefusesMoves same.after.bytes.items r)
    (RefusesTexts same.after.bytes.items b a r)))

-- THE NAMES OF A PROGRAM ARE REFUSED: the file of names is, or behind it that of names after
abbrev pub RefusesProgram : Same → Side → Side → Option (List ℕ) → Refusal → Type 0
RefusesProgram same b a left r =
    RefusesNamesGiven same.names left (names_on b) r
    ⊎ ((names : Option ProgramNames) × AreNamesGiven same.names left (names_on b) names × (rest : Option (List ℕ)) × LeavesBehindAny same.names left rest
    × RefusesNamesGiven same.names_after rest (names_on a) r)

-- both files of names are read, if they are given
abbrev pub HasProgramNames : Same → Option (List ℕ) → Side → Side → Type 0
HasProgramNames same left b a = (names : Option ProgramNames) × (names_after : Option ProgramNames) × AreProgramNames same left b a names names_after

-- THERE IS NO VERDICT: no pause of the heap before collects the regions, for the first that is bad; the graphs are one, and the heap after
-- has stale words to which no path leads; or memory is wanted
abbrev pub RefusesReport : Same → Side → Side → Refusal → Type 0
RefusesReport same b a r =
    ((f : Fault) × IsRefusal b.image.heap a.image.heap a.stale same.set.items (refused.Set f) × RefusesFile same.before.bytes.items f r)
    ⊎ ((w : Wrong) × IsIdle b.image.heap a.image.heap a.stale w × RefusesStrays same.after.bytes.items a r)
    ⊎ (r ≡ refusal.Fault fault.Memory)

-- ---- cover
-- a fault of an image's cover: the lowest slot that lacks it; or memory
abbrev pub IsCoverFault : Image → Fault → Type 0
IsCoverFault i f = (f ≡ fault.Memory) ⊎ ((p : ℕ) × (others : List ℕ) × (uncovered i ≡ p ∷ others) × (f ≡ fault.Uncovered p))

-- an image lacks cover, and the lowest slot that lacks it is told; or memory is wanted
abbrev pub LacksCover : List ℕ → Image → Refusal → Type 0
LacksCover file i r =
    ((p : ℕ) × (others : List ℕ) × (uncovered i ≡ p ∷ others) × RefusesCover file (fault.Uncovered p) r) ⊎ (r ≡ refusal.Fault fault.Memory)

-- an image lacks one of these regions; or cover, if all cards of these are dirty
abbrev pub LacksCoverBeside : List ℕ → List ℕ → Image → Refusal → Type 0
LacksCoverBeside file young i r = LacksYoung file i young r ⊎ LacksCover file (dirtied i (young_cards i.heap young)) r

-- COVER IS REFUSED: it is asked of what is the same
abbrev pub RefusesCovered : Same → Side → Side → Refusal → Type 0
RefusesCovered same b a r =
    (same.covered ≡ true) × IsVerdict b.image.heap a.image.heap a.stale same.set.items same.fill 0 × LacksCoverBeside same.after.bytes.items same.young.items a.image r

-- ---- both files
-- two sides are refused: what is asked does not suit them; it does, and the names are refused; or these are read, and there is no verdict, or no
-- cover
abbrev pub RefusesSides : Same → Side → Side → Option (List ℕ) → Refusal → Type 0
RefusesSides same b a left r =
    RefusesAsked same b a r
    ⊎ (Suits same b a × (RefusesProgram same b a left r ⊎ (HasProgramNames same left b a × (RefusesReport same b a r ⊎ RefusesCovered same b a r))))

-- the file after has no side, or the two sides are refused
abbrev pub RefusesAfter : Same → Side → Option (List ℕ) → Refusal → Type 0
RefusesAfter same b left r =
    RefusesSide same.limits same.after.bytes.items left r
    ⊎ ((a : Side) × IsSideOf same.limits same.after.bytes.items left a × (rest : Option (List ℕ)) × LeavesBehind same.after.bytes.items left rest × RefusesSides same b a rest r)

-- the side before has stale words; or it has none, and the file after is looked at
abbrev pub RefusesBefore : Same → Side → Option (List ℕ) → Refusal → Type 0
RefusesBefore same b rest r = RefusesStrays same.before.bytes.items b r ⊎ ((b.stale ≡ None) × RefusesAfter same b rest r)

-- WHY `same` IS REFUSED: the file before has no side, or it has one, and what is behind it is refused
abbrev pub RefusesSame : Same → Option (List ℕ) → Refusal → Type 0
RefusesSame same left r =
    RefusesSide same.limits same.before.bytes.items left r
    ⊎ ((b : Side) × IsSideOf same.limits same.before.bytes.items left b × (rest : Option (List ℕ)) × LeavesBehind same.before.bytes.items left rest × RefusesBefore same b rest r)

-- or the output failed
abbrev pub OrOutput : (Refusal → Type 0) → Refusal → Type 0
OrOutput Is r = Is r ⊎ (r ≡ refusal.Fault (fault.Device device.Output))
