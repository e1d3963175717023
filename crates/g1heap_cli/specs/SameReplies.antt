-- What `same` replies: two sides, what is said of them, and cover.
use Rattle.std.specs.Prelude.{◌≡◌, ℕ, zero, suc, Bool, true, false, List, [], ◌++◌, codes, Option, Some, None}
use Rattle.g1_words.specs.declared.limits.Limits.{Limits}
use Rattle.g1_image.specs.Image.{Image}
use Rattle.g1_image.specs.Cards.{Covered}
use Rattle.g1_image.specs.Dirty.{dirtied}
use Rattle.g1_text.specs.Graphs.{NamedGraph}
use Rattle.g1_report.specs.declared.sides.Side.{Side}
use Rattle.g1_report.specs.declared.reporting.Asked.{Asked}
use Rattle.g1_report.specs.Program.{ProgramNames, names_told}
use Rattle.g1_report.specs.Answer.{IsInOrder, HandsOn}
use Rattle.g1_report.specs.Finding.{IsVerdict}
use Rattle.g1_report.specs.Opened.{IsStale, ShowsText, AsksOfGraphs, IsVerdictByName}
use Rattle.g1heap_request.specs.declared.options.Same.{Same}
use Rattle.g1heap_cli.specs.declared.files.SideContent.{SideContent}
use Rattle.g1heap_cli.specs.declared.files.SideContent.TheVariants as content
use Rattle.g1heap_cli.specs.Compared.{IsContent}
use Rattle.g1heap_cli.specs.Streams.{HoldsOfNamed, LeavesBehind, LeavesBehindAny}
use Rattle.g1heap_cli.specs.Named.{AreNamesGiven, names_on}
use Rattle.g1heap_cli.specs.SameSuits.{Suits}
use Rattle.g1heap_cli.specs.Young.{young_cards}

-- the side is of an image: it has no names and no texts
pub record ShowsImage (image : Image) (s : Side) : Type 0 where
  pub is : s.image ≡ image
  pub labels : s.labels ≡ None
  pub texts : s.texts.entries ≡ []

-- the side is opened of this
abbrev pub Opens : SideContent → Side → Type 0
Opens (content.Lines lines) s = ShowsText lines.items s
Opens (content.Image image) s = ShowsImage image s × (s.stale ≡ None)
Opens (content.Stale image stale fault) s = ShowsImage image s × IsStale stale fault s.stale

-- THE SIDE OF A FILE: it is opened of what the bytes of the file have, and its names are in order
pub record IsSideOf (limits : Limits) (file : List ℕ) (left : Option (List ℕ)) (s : Side) : Type 0 where
  pub opened : HoldsOfNamed file left (λ bytes. (c : SideContent) × IsContent limits bytes c × Opens c s)
  pub in_order : IsInOrder s

-- THE NAMES OF A PROGRAM for two sides: those in the files of names that are given, by the names of the objects before and by those
-- of the objects after. `left` is what standard input has left for these files
pub record AreProgramNames (same : Same) (left : Option (List ℕ)) (before after : Side) (program program_after : Option ProgramNames) : Type 0 where
  pub names : AreNamesGiven same.names left (names_on before) program
  pub left_after : Option (List ℕ)
  pub unread : LeavesBehindAny same.names left left_after
  pub names_after : AreNamesGiven same.names_after left_after (names_on after) program_after

-- of two sides is asked what the request asks, with the names in its files
pub record AsksOf (same : Same) (left : Option (List ℕ)) (a : Asked) : Type 0 where
  pub names : AreProgramNames same left a.before.now a.after.now (names_told a.names) (names_told a.names_after)
  pub moved : a.moved ≡ same.moved
  pub set : a.set.now ≡ same.set.items
  pub fill : a.fill ≡ same.fill
  pub all : a.all ≡ same.all

-- WHAT IS SAID OF TWO SIDES, as the request asks, if that suits them: the text of all that is found of them
pub record IsSaid (same : Same) (left : Option (List ℕ)) (a : Asked) (status : ℕ) (text : List ℕ) : Type 0 where
  pub suits : Suits same a.before.now a.after.now
  pub asks : AsksOf same left a
  pub verdict : IsVerdict a.before.now.image.heap a.after.now.image.heap a.after.now.stale a.set.now a.fill status
  pub by_name : (g h : NamedGraph) → AsksOfGraphs a g h → IsVerdictByName g h status
  pub says : HandsOn a status (Some []) (Some text)

-- THE TWO FILES ARE COMPARED: what is said is said of their sides. The file before has no stale words. If one of them is standard
-- input, it is not known what that has left for the files behind it
pub record IsCompared (same : Same) (left : Option (List ℕ)) (a : Asked) (status : ℕ) (text : List ℕ) : Type 0 where
  pub before : IsSideOf same.limits same.before.bytes.items left a.before.now
  pub whole : a.before.now.stale ≡ None
  pub left_after : Option (List ℕ)
  pub unread : LeavesBehind same.before.bytes.items left left_after
  pub after : IsSideOf same.limits same.after.bytes.items left_after a.after.now
  pub left_names : Option (List ℕ)
  pub unread_after : LeavesBehind same.after.bytes.items left_after left_names
  pub said : IsSaid same left_names a status text

-- the image is covered, if all cards of these regions are dirty
abbrev pub IsCoveredBeside : List ℕ → Image → Type 0
IsCoveredBeside young i = Covered (dirtied i (young_cards i.heap young))

-- the text behind that of a comparison: with status 0 the line of cover, if it is asked; else nothing
abbrev pub AddsCover : Bool → ℕ → List ℕ → Image → List ℕ → Type 0
AddsCover true zero young i behind = (behind ≡ codes "covered\n") × IsCoveredBeside young i
AddsCover true (suc n) young i behind = behind ≡ []
AddsCover false status young i behind = behind ≡ []

-- WHAT `same` REPLIES
abbrev pub IsSameText : Same → Option (List ℕ) → ℕ → List ℕ → Type 0
IsSameText same left status text =
    (a : Asked) × (front : List ℕ) × (behind : List ℕ) × IsCompared same left a status front
    × AddsCover same.covered status same.young.items a.after.now.image behind × (text ≡ front ++ behind)
