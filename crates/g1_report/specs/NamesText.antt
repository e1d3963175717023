-- THE TEXT OF A PROGRAM'S NAMES: what each of its lines says, and how they are put in order.
use Rattle.std.specs.Prelude.{◌≡◌, ◌⊎◌, ◌<◌, ◌^◌, ℕ, Bool, true, false, Option, Some, None, List, [], ◌∷◌, ◌++◌, ◌+◌, length, take, map, filter, codes, IsUtf8, IsSome}
use Rattle.std.specs.List.{AllZip, filter_map, list_any}
use Rattle.std.specs.Ordering.{nat_cmp}
use Rattle.std.specs.Cmp.Lexicographic.{slice_cmp}
use Rattle.std.specs.Str.Lossy.{utf8_valid_len}
use Rattle.g1_text.specs.Reading.{words_in, parts_of}
use Rattle.g1_text.specs.Forms.{Form, Spells, StandsFor, IsName}
use Rattle.g1_report.specs.Sorting.{IsPutInOrder}
use Rattle.g1_report.specs.Program.{ProgramNames, KindOf, is_data}
use Rattle.g1_report.specs.declared.names.WrongNames.{WrongNames}
use Rattle.g1_report.specs.declared.names.WrongNames.TheVariants.{Line, Memory}

-- what a line says: the name of a root, the words of a type behind `slots`, the type of a first data word, the text of a data word,
-- or the kind of an object at an address or of a name
pub data Saying : Type 0 where
  OfRoot : ℕ → List ℕ → Saying
  OfType : List ℕ → List (List ℕ) → Saying
  OfLabel : ℕ → List ℕ → Saying
  OfText : ℕ → List (List ℕ) → Saying
  OfAddress : ℕ → KindOf → Saying
  OfName : List ℕ → KindOf → Saying

-- TYPE [NOTE]: no note is an empty one
abbrev pub IsKind : KindOf → Form
IsKind kind words = ((words ≡ kind.name ∷ []) × (kind.note ≡ [])) ⊎ (words ≡ kind.name ∷ kind.note ∷ [])

-- THE LINES, by their words, of a heap whose objects have these names, if they have names:
-- root NUMBER NAME
-- type TYPE slots NAME .. data NAME ..
-- label WORD TYPE
-- text WORD TEXT ..
-- object ADDRESS TYPE [NOTE], if objects have no names
-- object NAME TYPE [NOTE], if they have
abbrev pub Says : Option (List (ℕ × List ℕ)) → List (List ℕ) → Saying → Type 0
Says labels words (OfRoot n name) = (number : List ℕ) × (words ≡ codes "root" ∷ number ∷ name ∷ []) × Spells (2 ^ 64) n number
Says labels words (OfType name rest) = (words ≡ codes "type" ∷ name ∷ codes "slots" ∷ rest) × (list_any is_data rest ≡ true)
Says labels words (OfLabel n name) = (word : List ℕ) × (words ≡ codes "label" ∷ word ∷ name ∷ []) × StandsFor n word
Says labels words (OfText n text) = (word : List ℕ) × (words ≡ codes "text" ∷ word ∷ text) × (0 < length text) × StandsFor n word
Says labels words (OfAddress at kind) = (address : List ℕ) × (rest : List (List ℕ)) × (words ≡ codes "object" ∷ address ∷ rest) × Spells (2 ^ 64) at address × IsKind kind rest × (labels ≡ None)
Says labels words (OfName name kind) = (rest : List (List ℕ)) × (words ≡ codes "object" ∷ name ∷ rest) × IsName name × IsKind kind rest × IsSome labels

-- what lines of one kind say
abbrev pub root_said : Saying → Option (ℕ × List ℕ)
root_said (OfRoot n name) = Some (n, name)
root_said _ = None

abbrev pub type_said : Saying → Option (List ℕ × List (List ℕ))
type_said (OfType name rest) = Some (name, rest)
type_said _ = None

abbrev pub label_said : Saying → Option (ℕ × List ℕ)
label_said (OfLabel n name) = Some (n, name)
label_said _ = None

abbrev pub text_said : Saying → Option (ℕ × List (List ℕ))
text_said (OfText n text) = Some (n, text)
text_said _ = None

abbrev pub object_said : Saying → Option (ℕ × KindOf)
object_said (OfAddress at kind) = Some (at, kind)
object_said _ = None

abbrev pub named_said : Saying → Option (List ℕ × KindOf)
named_said (OfName name kind) = Some (name, kind)
named_said _ = None

-- names, and behind those of each kind what lines say
abbrev pub with_said : ProgramNames → List Saying → ProgramNames
with_said p said = record {
  roots = p.roots ++ filter_map root_said said;
  types = p.types ++ filter_map type_said said;
  labels = p.labels ++ filter_map label_said said;
  texts = p.texts ++ filter_map text_said said;
  objects = p.objects ++ filter_map object_said said;
  named = p.named ++ filter_map named_said said;
  labels_before = p.labels_before;
}

-- a line has a word
abbrev pub has_word : List (List ℕ) → Bool
has_word [] = false
has_word (word ∷ words) = true

-- EACH LINE THAT HAS A WORD SAYS SOMETHING, and all that they say stands behind the names before it
pub record IsSaid (labels : Option (List (ℕ × List ℕ))) (lines : List (List (List ℕ))) (before after : ProgramNames) : Type 0 where
  pub said : List Saying
  pub says : AllZip (Says labels) (filter has_word lines) said
  pub names : after ≡ with_said before said

-- a line says something, which stands behind the names before it
pub record IsTaken (words : List (List ℕ)) (before after : ProgramNames) : Type 0 where
  pub said : Saying
  pub says : Says before.labels_before words said
  pub names : after ≡ with_said before (said ∷ [])

-- a line says nothing
abbrev pub SaysNothing : Option (List (ℕ × List ℕ)) → List (List ℕ) → Type 0
SaysNothing labels words = (said : Saying) → Says labels words said → ⊥

-- THE FIRST WRONG LINE, counted from 1 with blank lines: each line above it that has a word says something, and it has a word and says nothing
pub record IsFirstWrongLine (text : List ℕ) (labels : Option (List (ℕ × List ℕ))) (number : ℕ) : Type 0 where
  pub above : List (List ℕ)
  pub line : List ℕ
  pub below : List (List ℕ)
  pub parts : parts_of text ≡ above ++ line ∷ below
  pub counted : number ≡ length above + 1
  pub said : List Saying
  pub says : AllZip (Says labels) (filter has_word (map words_in above)) said
  pub word : has_word (words_in line) ≡ true
  pub nothing : SaysNothing labels (words_in line)

-- what holds of the number of a line, if one is wrong
abbrev pub MatchWrong : WrongNames → (ℕ → Type 0) → Type 0
MatchWrong (Line number expected) P = P number
MatchWrong Memory P = Unit {0}

-- the number of the line in which the first bytes stand that are not UTF-8: so many lines has the text in front of them
abbrev pub line_of_no_text : List ℕ → ℕ
line_of_no_text text = length (parts_of (take (utf8_valid_len text) text))

-- THE LINES OF EACH KIND ARE PUT IN ORDER, by number or by name
pub record ArePutInOrder (before after : ProgramNames) : Type 0 where
  pub roots : IsPutInOrder (λ line. line.0) nat_cmp before.roots after.roots
  pub types : IsPutInOrder (λ line. line.0) (slice_cmp nat_cmp) before.types after.types
  pub labels : IsPutInOrder (λ line. line.0) nat_cmp before.labels after.labels
  pub texts : IsPutInOrder (λ line. line.0) nat_cmp before.texts after.texts
  pub objects : IsPutInOrder (λ line. line.0) nat_cmp before.objects after.objects
  pub named : IsPutInOrder (λ line. line.0) (slice_cmp nat_cmp) before.named after.named
  pub labels_before : after.labels_before ≡ before.labels_before

-- no names but those of the heap's objects
abbrev pub no_names : Option (List (ℕ × List ℕ)) → ProgramNames
no_names labels = record { roots = []; types = []; labels = []; texts = []; objects = []; named = []; labels_before = labels }

-- THE NAMES IN A TEXT: what its lines say, in order
pub record IsNamesText (text : List ℕ) (labels : Option (List (ℕ × List ℕ))) (p : ProgramNames) : Type 0 where
  pub utf8 : IsUtf8 text
  pub said : ProgramNames
  pub lines : IsSaid labels (map words_in (parts_of text)) (no_names labels) said
  pub order : ArePutInOrder said p

-- WHY A TEXT HAS NO NAMES: its first wrong line, or the first one that is not UTF-8, if there is one; or memory ran out
abbrev pub IsWrongNames : List ℕ → Option (List (ℕ × List ℕ)) → WrongNames → Type 0
IsWrongNames text labels wrong = MatchWrong wrong (λ number. (IsUtf8 text × IsFirstWrongLine text labels number) ⊎ ((IsUtf8 text → ⊥) × (number ≡ line_of_no_text text)))
