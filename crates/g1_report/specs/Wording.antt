-- The lines of two heaps that are compared, with a program's names and without.
use Rattle.std.specs.Prelude.{ℕ, zero, suc, Bool, true, false, not, List, [], ◌∷◌, ◌++◌, ◌==◌, ◌&&◌, Option, Some, None, is_some, option_map, option_and_then, if◌then◌else◌, nat_lt, codes, decimal, length, map, flat_map, slice_index, sum_by, count_by}
use Rattle.std.specs.Borrow.{Bor}
use Rattle.std.specs.Fmt.{radix_digits}
use Rattle.std.specs.List.{range_with_len, join_with_byte}
use Rattle.std.specs.Map.{lookup}
use Rattle.std.specs.Str.{byte, bytes_eq}
use Rattle.g1_words.specs.Lists.{has}
use Rattle.g1_words.specs.Heap.{Heap, kind, region_of, object_at, objects}
use Rattle.g1_words.specs.Kind.{kind_word}
use Rattle.g1_words.specs.declared.object.Object.{Object}
use Rattle.g1_same.specs.declared.difference.How.{How}
use Rattle.g1_same.specs.declared.difference.How.TheVariants.{NullBefore, NullAfter, Split, Joined, Size, Slots, Data}
use Rattle.g1_same.specs.Ends.{data_word}
use Rattle.g1_kept.specs.declared.lost.Lost.{Lost}
use Rattle.g1_kept.specs.Wording.{lost_text}
use Rattle.g1_report.specs.Program.{ProgramNames, KindOf, WordsOf, WordName, or_else, root_name, object_of, words_at, kind_of_object, kind_by_label, text_of_word, data_name}
use Rattle.g1_report.specs.Steps.{named_path_text}

-- numbers, and what stands for each
abbrev pub Called : Type 0
Called = List (ℕ × Bor (List ℕ))

-- Two heaps, and what a program calls their words, if it says so: all of the first heap, and the objects of the second. And what
-- their files call things: the objects of each by address, the roots, the data words of each, and stale words. A file of an image
-- has no names.
pub record Compared : Type 0 where
  pub before : Heap
  pub after : Heap
  pub names : Option ProgramNames
  pub names_after : Option ProgramNames
  pub objects_before : Option Called
  pub objects_after : Option Called
  pub roots : Called
  pub texts_before : Called
  pub texts_after : Called
  pub stale : Option Called

abbrev pub told : Option (Bor (List ℕ)) → Option (List ℕ)
told name = option_map (λ name. name.now) name

-- what stands for a number in a list: the first of several
abbrev pub name_of : Called → ℕ → Option (List ℕ)
name_of names n = told (lookup (λ k. n == k) names)

abbrev pub name_in : Option Called → ℕ → Option (List ℕ)
name_in None n = None
name_in (Some names) n = name_of names n

-- the name, or the number if there is none
abbrev pub name_or_number : Option (List ℕ) → ℕ → List ℕ
name_or_number None n = decimal n
name_or_number (Some name) n = name

-- an object by its address
abbrev pub object_text : Option Called → ℕ → List ℕ
object_text names address = name_or_number (name_in names address) address

-- a reference word
abbrev pub word_text : Option Called → ℕ → List ℕ
word_text names zero = codes "null"
word_text names (suc address) = codes "object " ++ object_text names address

-- a root: its name, or its number
abbrev pub root_text_of : Option (List ℕ) → ℕ → List ℕ
root_text_of None n = codes "root " ++ decimal n
root_text_of (Some name) n = name

-- the name of a root: that of the program's names, or else that of its line
abbrev pub name_of_root : Option ProgramNames → Called → ℕ → Option (List ℕ)
name_of_root names roots n = or_else (option_and_then (λ p. root_name p n) names) (name_of roots n)

-- the slots of a path: by number, or by the names that a program has for them
abbrev pub slots_text : Option ProgramNames → Heap → ℕ → List ℕ → List ℕ
slots_text None g root slots = flat_map (λ slot. codes " slot " ++ decimal slot) slots
slots_text (Some p) g root slots = named_path_text p g root slots

-- THE PATH from a root by slots
abbrev pub path_text : Compared → ℕ → List ℕ → List ℕ
path_text s root slots = root_text_of (name_of_root s.names s.roots root) root ++ slots_text s.names s.before root slots

-- what else a line says of an object
abbrev pub note_text : List ℕ → List ℕ
note_text [] = []
note_text (c ∷ cs) = codes " " ++ (c ∷ cs)

-- THE KIND OF AN OBJECT, in parentheses
abbrev pub kind_text : Option KindOf → List ℕ
kind_text None = []
kind_text (Some kind) = codes " (" ++ (kind.name ++ (note_text kind.note ++ codes ")"))

-- the kind of the object that a word of the first heap references, if a program has names
abbrev pub kind_before : Compared → ℕ → Option KindOf
kind_before s x = option_and_then (λ p. option_and_then (kind_of_object p) (object_of s.before x)) s.names

-- that of an object of the second heap: by its own names, or else by its first data word
abbrev pub own_kind : Compared → WordsOf → Option KindOf
own_kind s o = option_and_then (λ p. kind_of_object p o) s.names_after

abbrev pub like_kind : Compared → WordsOf → Option KindOf
like_kind s o = option_and_then (λ p. kind_by_label p o.data_words) s.names

abbrev pub kind_after : Compared → ℕ → Option KindOf
kind_after s y = option_and_then (λ o. or_else (own_kind s o) (like_kind s o)) (object_of s.after y)

-- a data word: its number, or what stands for it, with the number behind
abbrev pub value_text_of : Option (List ℕ) → ℕ → List ℕ
value_text_of None word = decimal word
value_text_of (Some text) word = text ++ (codes " (" ++ (decimal word ++ codes ")"))

-- words apart, in quotes
abbrev pub quoted_text : List (List ℕ) → List ℕ
quoted_text words = codes "\"" ++ (join_with_byte (byte " ") words ++ codes "\"")

-- the same with a program's names: what these say counts more, and a number alone stands there in both forms
abbrev pub named_value_text : Option (List (List ℕ)) → Option (List ℕ) → ℕ → List ℕ
named_value_text (Some words) said word = value_text_of (Some (quoted_text words)) word
named_value_text None (Some text) word = value_text_of (Some text) word
named_value_text None None word = decimal word ++ (codes " (0x" ++ (radix_digits 16 false word ++ codes ")"))

abbrev pub value_text : Option ProgramNames → Called → ℕ → List ℕ
value_text None texts word = value_text_of (name_of texts word) word
value_text (Some p) texts word = named_value_text (text_of_word p word) (name_of texts word) word

-- the number of a word among those of its name
abbrev pub number_text : Option ℕ → List ℕ
number_text None = []
number_text (Some n) = codes "[" ++ (decimal n ++ codes "]")

-- the name of a data word, behind its number
abbrev pub word_name_text : Option WordName → List ℕ
word_name_text None = []
word_name_text (Some word) = codes ", " ++ (word.name ++ (number_text word.number ++ codes ","))

-- the name that a program has for data word k of the object that a word of the first heap references
abbrev pub word_name : Compared → ℕ → ℕ → Option WordName
word_name s x k = option_and_then (λ p. option_and_then (λ o. data_name p o k) (object_of s.before x)) s.names

-- the kind of a difference
abbrev pub how_word : How → List ℕ
how_word NullBefore = codes "null"
how_word NullAfter = codes "null"
how_word (Split a m n) = codes "split"
how_word (Joined m n b) = codes "joined"
how_word (Size m n) = codes "size"
how_word (Slots m n) = codes "slots"
how_word (Data k) = codes "data"

-- an object of one heap that is another one of the other heap on an earlier path
abbrev pub met_text : List ℕ → List ℕ → List ℕ
met_text object first = codes "; " ++ (object ++ (codes " is " ++ (first ++ codes " on an earlier path")))

abbrev pub old_object : Compared → ℕ → List ℕ
old_object s a = object_text s.objects_before a ++ codes " before"

abbrev pub new_object : Compared → ℕ → List ℕ
new_object s b = object_text s.objects_after b ++ codes " after"

-- two numbers of one thing
abbrev pub numbers_text : List ℕ → ℕ → ℕ → List ℕ
numbers_text what m n = codes "; " ++ (what ++ (codes " " ++ (decimal m ++ (codes " before, " ++ (decimal n ++ codes " after")))))

-- two values of data word k of the object that x references before
abbrev pub values_text : Compared → ℕ → ℕ → ℕ → ℕ → List ℕ
values_text s x k u v =
    codes "; data word " ++ (decimal k ++ (word_name_text (word_name s x k) ++ (codes " is " ++ (value_text s.names s.texts_before u
    ++ (codes " before, " ++ (value_text s.names s.texts_after v ++ codes " after"))))))

-- how the words x and y of one place disagree
abbrev pub detail_text : Compared → How → ℕ → ℕ → List ℕ
detail_text s NullBefore x y = []
detail_text s NullAfter x y = []
detail_text s (Split a m n) x y = met_text (old_object s a) (new_object s m)
detail_text s (Joined m n b) x y = met_text (new_object s b) (old_object s m)
detail_text s (Size m n) x y = numbers_text (codes "size") m n
detail_text s (Slots m n) x y = numbers_text (codes "slots") m n
detail_text s (Data k) x y = values_text s x k (data_word s.before x k) (data_word s.after y k)

abbrev pub before_text : Compared → ℕ → List ℕ
before_text s x = codes ": " ++ (word_text s.objects_before x ++ (kind_text (kind_before s x) ++ codes " before"))

abbrev pub after_text : Compared → ℕ → List ℕ
after_text s y = codes ", " ++ (word_text s.objects_after y ++ (kind_text (kind_after s y) ++ codes " after"))

-- THE LINE OF A DIFFERENCE at a path that leads to x before and to y after
abbrev pub place_line : Compared → ℕ → List ℕ → How → ℕ → ℕ → List ℕ
place_line s root slots how x y =
    codes "differ " ++ (how_word how ++ (codes " at " ++ (path_text s root slots
    ++ (before_text s x ++ (after_text s y ++ (detail_text s how x y ++ codes "\n"))))))

-- THE LINE OF TWO NUMBERS OF ROOTS
abbrev pub roots_line : ℕ → ℕ → List ℕ
roots_line m n = codes "differ roots: " ++ (decimal m ++ (codes " before, " ++ (decimal n ++ codes " after\n")))

abbrev pub still_text : Bool → List ℕ
still_text true = codes "still is"
still_text false = codes "is"

-- the word before references the object of this name
abbrev pub is_name : Option (List ℕ) → List ℕ → Bool
is_name None name = false
is_name (Some other) name = bytes_eq other name

abbrev pub was_name : Option Called → ℕ → List ℕ → Bool
was_name names zero name = false
was_name names (suc a) name = is_name (name_in names a) name

-- an object starts at the address
abbrev pub starts_at : Heap → ℕ → Bool
starts_at g a = has (map (λ (o : Object). o.at) (objects g)) a

-- what was before where a stale word leads: the object that was referenced there, another one, or none
abbrev pub was_text : Bool → Bool → List ℕ
was_text false same = codes "no object starts"
was_text true true = codes "the object was before"
was_text true false = codes "another object was before"

-- the word references the object at the address
abbrev pub references : ℕ → ℕ → Bool
references zero a = false
references (suc b) a = b == a

-- the end of the line of a stale word that leads into the heap; objects with names have no addresses to compare
abbrev pub was_end : Option Called → Heap → ℕ → ℕ → List ℕ
was_end (Some names) g x a = codes "\n"
was_end None g x a = codes ", where " ++ (was_text (starts_at g a) (references x a) ++ codes "\n")

-- the region that a stale word leads to, and what was there before
abbrev pub region_text : Compared → ℕ → ℕ → List ℕ
region_text s x a =
    if nat_lt (region_of s.after a) s.after.geometry.n
    then codes "in region " ++ (decimal (region_of s.after a) ++ (codes ", " ++ (kind_word (kind s.after (region_of s.after a)) ++ (codes " after" ++ was_end s.objects_before s.before x a))))
    else codes "outside the heap\n"

abbrev pub behind_text : Compared → ℕ → ℕ → List ℕ
behind_text s x zero = codes "outside the heap\n"
behind_text s x (suc a) = region_text s x a

-- a stale word z in the place where x was before: the name that it stands for, or its number
abbrev pub stale_text : Compared → ℕ → ℕ → Option (List ℕ) → List ℕ
stale_text s x z (Some name) = codes "; the word " ++ (still_text (was_name s.objects_before x name) ++ (codes " " ++ (name ++ codes ", which no object after has\n")))
stale_text s x z None =
    codes "; the word " ++ (still_text (z == x && not (is_some s.objects_before)) ++ (codes " " ++ (decimal z ++ (codes ", " ++ behind_text s x z))))

-- THE LINE OF A STALE WORD z at a path that leads to x before
abbrev pub stale_line : Compared → ℕ → List ℕ → ℕ → ℕ → List ℕ
stale_line s root slots x z = codes "differ stale at " ++ (path_text s root slots ++ (before_text s x ++ stale_text s x z (name_in s.stale z)))

-- THE LINE OF A LOSS
abbrev pub lost_line : Lost → List ℕ
lost_line l = codes "differ " ++ (lost_text l ++ codes "\n")

-- THE LINE OF ONE GRAPH: how many objects the roots reach, and their words
abbrev pub same_line : Heap → List ℕ → List ℕ
same_line g olds =
    codes "same objects " ++ (decimal (length olds) ++ (codes " words " ++ (decimal (sum_by (λ a. (object_at g a).size) olds) ++ codes "\n")))

-- whether two names differ, if both are there
abbrev pub names_differ : Option (List ℕ) → Option (List ℕ) → Option Bool
names_differ (Some m) (Some n) = Some (not (bytes_eq m n))
names_differ _ _ = None

-- whether an object has another address after; of lines, another name, if it has one in both
abbrev pub is_elsewhere : Option Called → Option Called → ℕ → ℕ → Option Bool
is_elsewhere None news a b = Some (not (a == b))
is_elsewhere (Some olds) news a b = names_differ (name_of olds a) (name_in news b)

-- what a line says beside a type, if it does
abbrev pub note_of : List ℕ → Option (List ℕ)
note_of [] = None
note_of (c ∷ cs) = Some (c ∷ cs)

abbrev pub identifier_of : KindOf → Option (List ℕ)
identifier_of kind = note_of kind.note

-- the identifier of an object: what a program's names say of it beside its type
abbrev pub identifier : Option ProgramNames → Heap → ℕ → Option (List ℕ)
identifier names g a = option_and_then (λ p. option_and_then identifier_of (kind_of_object p (words_at g a))) names

-- whether an object has another identifier after, if a program has names for the second heap, and else whether it is elsewhere
abbrev pub has_moved : Compared → Option ProgramNames → ℕ → ℕ → Option Bool
has_moved s None a b = is_elsewhere s.objects_before s.objects_after a b
has_moved s (Some p) a b = names_differ (identifier s.names s.before a) (identifier (Some p) s.after b)

-- the same of all objects and their copies, which are at the same places of two lists
abbrev pub have_moved : Compared → List ℕ → List ℕ → List (Option Bool)
have_moved s olds news = map (λ n. has_moved s s.names_after (slice_index olds n) (slice_index news n)) (range_with_len 0 (length olds))

abbrev pub is_yes : Option Bool → Bool
is_yes None = false
is_yes (Some b) = b

-- by what objects are told apart
abbrev pub file_way : Option Called → List ℕ
file_way None = codes "address"
file_way (Some names) = codes "name"

abbrev pub moved_by : Option ProgramNames → Option Called → List ℕ
moved_by None names = file_way names
moved_by (Some p) names = codes "identifier"

-- THE LINE OF WHAT MOVED
abbrev pub moved_line : Compared → List (Option Bool) → List ℕ
moved_line s moves =
    codes "moved " ++ (decimal (count_by is_yes moves) ++ (codes " of " ++ (decimal (count_by is_some moves) ++ (codes " by " ++ (moved_by s.names_after s.objects_before ++ codes "\n")))))
