-- What a program calls its roots, its objects and the words in them, as the lines of its names say it.
use Rattle.std.specs.Prelude.{ℕ, zero, suc, Bool, ◌+◌, ◌-◌, List, [], ◌∷◌, take, drop, map, length, Option, Some, None, option_map, option_and_then, IfSome, if◌then◌else◌, nat_le, ◌==◌, bytes_eq, codes, slice_get, slice_index_or, slice_range}
use Rattle.std.specs.Map.{lookup}
use Rattle.std.specs.List.{position_or_len}
use Rattle.std.specs.List.Sorted.{IsNonDecreasingBy, IsSortedByKey}
use Rattle.std.specs.Cmp.Lexicographic.{slice_cmp}
use Rattle.std.specs.Ordering.{nat_cmp}
use Rattle.std.specs.Borrow.{Bor}
use Rattle.g1_words.specs.Heap.{Heap, object_at}
use Rattle.g1_report.specs.declared.objects.ObjectWords.{ObjectWords}
use Rattle.g1_report.specs.declared.names.Names.{Names}
use Rattle.g1_report.specs.declared.names.Kind.{Kind}
use Rattle.g1_report.specs.declared.names.Word.{Word}

-- the type of an object, and what else its line says of it
pub record KindOf : Type 0 where
  pub name : List ℕ
  pub note : List ℕ

-- an object of a heap: its address, its slots and its data words
pub record WordsOf : Type 0 where
  pub at : ℕ
  pub slots : List ℕ
  pub data_words : List ℕ

-- the words of the object at an address, and those of the object that a reference word names, if it isn't null
abbrev pub words_at : Heap → ℕ → WordsOf
words_at h at = record {
  at = at;
  slots = slice_range h.words (at + 1) (at + 1 + (object_at h at).refs);
  data_words = slice_range h.words (at + 1 + (object_at h at).refs) (at + (object_at h at).size);
}

abbrev pub object_of : Heap → ℕ → Option WordsOf
object_of h zero = None
object_of h (suc at) = Some (words_at h at)

-- the name of a word, and its number among the words of this name, if there may be several
pub record WordName : Type 0 where
  pub name : List ℕ
  pub number : Option ℕ

-- THE LINES OF A PROGRAM'S NAMES, kind by kind: roots by number, types by name with the words behind `slots`, labels and texts by
-- data word, objects by address and by name. The last are the names that the objects of the heap have by address, if they have any
pub record ProgramNames : Type 0 where
  pub roots : List (ℕ × List ℕ)
  pub types : List (List ℕ × List (List ℕ))
  pub labels : List (ℕ × List ℕ)
  pub texts : List (ℕ × List (List ℕ))
  pub objects : List (ℕ × KindOf)
  pub named : List (List ℕ × KindOf)
  pub labels_before : Option (List (ℕ × List ℕ))

-- what lines say of a number, or of a name: the first of several
abbrev pub at_number : {X : Type 0} → List (ℕ × X) → ℕ → Option X
at_number lines n = lookup (λ k. n == k) lines

abbrev pub at_name : {X : Type 0} → List (List ℕ × X) → List ℕ → Option X
at_name lines name = lookup (λ k. bytes_eq k name) lines

-- THE NAME OF A ROOT
abbrev pub root_name : ProgramNames → ℕ → Option (List ℕ)
root_name p n = at_number p.roots n

-- the type whose objects have this first data word
abbrev pub label_name : ProgramNames → ℕ → Option (List ℕ)
label_name p word = at_number p.labels word

-- THE TEXT that a data word stands for, in words
abbrev pub text_of_word : ProgramNames → ℕ → Option (List (List ℕ))
text_of_word p word = at_number p.texts word

-- what a line says of the object at an address: by its name, if objects have names
abbrev pub kind_by_line : Option (List (ℕ × List ℕ)) → ProgramNames → ℕ → Option KindOf
kind_by_line None p at = at_number p.objects at
kind_by_line (Some names) p at = option_and_then (at_name p.named) (at_number names at)

abbrev pub type_alone : List ℕ → KindOf
type_alone name = record { name = name; note = [] }

-- what a label says of an object with these data words
abbrev pub kind_by_label : ProgramNames → List ℕ → Option KindOf
kind_by_label p [] = None
kind_by_label p (word ∷ words) = option_map type_alone (label_name p word)

abbrev pub or_else : {X : Type 0} → Option X → Option X → Option X
or_else None other = other
or_else (Some x) other = Some x

-- THE KIND OF AN OBJECT: that of its line, or else the type of its first data word
abbrev pub kind_of_object : ProgramNames → WordsOf → Option KindOf
kind_of_object p o = or_else (kind_by_line p.labels_before p o.at) (kind_by_label p o.data_words)

-- the words of the line of an object's type, behind `slots`
abbrev pub type_words : ProgramNames → WordsOf → Option (List (List ℕ))
type_words p o = option_and_then (λ kind. at_name p.types kind.name) (kind_of_object p o)

abbrev pub is_data : List ℕ → Bool
is_data word = bytes_eq word (codes "data")

-- The place of the word between the names of slots and those of data words. A slot may be called `data`, too: so it is the word
-- behind as many names as there are slots, if that is the one, and else the first one
abbrev pub border : List (List ℕ) → ℕ → ℕ
border words slots = if is_data (slice_index_or words slots []) then slots else position_or_len is_data words

abbrev pub slot_names : List (List ℕ) → ℕ → List (List ℕ)
slot_names words slots = take (border words slots) words

abbrev pub data_names : List (List ℕ) → ℕ → List (List ℕ)
data_names words slots = drop (border words slots + 1) words

-- what stands before `[]` at the end of a name
abbrev pub before_brackets : List ℕ → Option (List ℕ)
before_brackets name = if bytes_eq (drop (length name - 2) name) (codes "[]") then Some (take (length name - 2) name) else None

abbrev pub last_name : List (List ℕ) → List ℕ
last_name names = slice_index_or names (length names - 1) []

-- the name of all words from the last name on, if that ends with `[]` and word n is one of these
abbrev pub name_from : List (List ℕ) → ℕ → Option (List ℕ)
name_from names n = if nat_le (length names - 1) n then before_brackets (last_name names) else None

abbrev pub alone : List ℕ → WordName
alone name = record { name = name; number = None }

abbrev pub numbered_name : Option (List ℕ) → List (List ℕ) → ℕ → Option WordName
numbered_name None names n = option_map alone (slice_get names n)
numbered_name (Some name) names n = Some (record { name = name; number = Some (n - (length names - 1)) })

-- THE NAME OF WORD n by these names: a last name that ends with `[]` is that of its word and of all behind it, which it numbers from 0
abbrev pub name_of_word : List (List ℕ) → ℕ → Option WordName
name_of_word names n = numbered_name (name_from names n) names n

-- THE NAMES of a slot and of a data word of an object
abbrev pub slot_name : ProgramNames → WordsOf → ℕ → Option WordName
slot_name p o n = option_and_then (λ words. name_of_word (slot_names words (length o.slots)) n) (type_words p o)

abbrev pub data_name : ProgramNames → WordsOf → ℕ → Option WordName
data_name p o n = option_and_then (λ words. name_of_word (data_names words (length o.slots)) n) (type_words p o)

-- the numbers of lines don't fall, and the names of lines don't
abbrev pub RiseByNumber : {X : Type 0} → List (ℕ × X) → Type 0
RiseByNumber lines = IsNonDecreasingBy (λ line. line.0) lines

abbrev pub RiseByName : {X : Type 0} → List (List ℕ × X) → Type 0
RiseByName lines = IsSortedByKey (λ line. line.0) (slice_cmp nat_cmp) lines

-- THE NAMES ARE IN ORDER, as they are searched
pub record AreInOrder (p : ProgramNames) : Type 0 where
  pub roots : RiseByNumber p.roots
  pub types : RiseByName p.types
  pub labels : RiseByNumber p.labels
  pub texts : RiseByNumber p.texts
  pub objects : RiseByNumber p.objects
  pub named : RiseByName p.named
  pub labels_before : IfSome p.labels_before RiseByNumber

-- texts, as lists of bytes
abbrev pub texts : List (Bor (List ℕ)) → List (List ℕ)
texts words = map (λ word. word.now) words

abbrev pub text_lines : List (ℕ × Bor (List ℕ)) → List (ℕ × List ℕ)
text_lines lines = map (λ line. (line.0, line.1.now)) lines

abbrev pub kind_said : Kind → KindOf
kind_said kind = record { name = kind.name.now; note = kind.note.now }

abbrev pub words_text : ObjectWords → WordsOf
words_text o = record { at = o.at; slots = o.slots.now; data_words = o.«data».now }

-- the lines that were read
abbrev pub program_of : Names → ProgramNames
program_of names = record {
  roots = text_lines names.roots.items;
  types = map (λ line. (line.0.now, texts line.1.items)) names.types.items;
  labels = text_lines names.labels.items;
  texts = map (λ line. (line.0, texts line.1.items)) names.texts.items;
  objects = map (λ line. (line.0, kind_said line.1)) names.objects.items;
  named = map (λ line. (line.0.now, kind_said line.1)) names.named.items;
  labels_before = option_map (λ labels. text_lines labels.now) names.labels_before;
}

abbrev pub names_told : Option (Bor Names) → Option ProgramNames
names_told names = option_map (λ names. program_of names.now) names

abbrev pub kind_told : Option Kind → Option KindOf
kind_told kind = option_map kind_said kind

abbrev pub word_told : Option Word → Option WordName
word_told word = option_map (λ word. record { name = word.name.now; number = word.number }) word

abbrev pub texts_told : Option (Bor (List (Bor (List ℕ)))) → Option (List (List ℕ))
texts_told words = option_map (λ words. texts words.now) words

abbrev pub labels_told : Option (Bor (List (ℕ × Bor (List ℕ)))) → Option (List (ℕ × List ℕ))
labels_told labels = option_map (λ labels. text_lines labels.now) labels

abbrev pub text_told : Option (Bor (List ℕ)) → Option (List ℕ)
text_told text = option_map (λ text. text.now) text
