-- What is kept of lines in which values and places inside objects are looked for.
use Rattle.std.specs.Prelude.{ℕ, Bool, ◌||◌, ◌==◌, List, map, filter, bytes_eq}
use Rattle.std.specs.List.{list_any}
use Rattle.indexmap.specs.IndexSet.{insert_all}
use Rattle.g1_text.specs.declared.boxes.Found.{Found}

-- the bytes of a value or of a place have a `=` or a `+` among them
abbrev pub is_mark : ℕ → Bool
is_mark b = b == 61 || b == 43

abbrev pub is_marked : List ℕ → Bool
is_marked bytes = list_any is_mark bytes

-- the names of objects that were found, and the words
abbrev pub names_found : Found → List (List ℕ)
names_found f = map (λ t. t.now) f.names.keys

abbrev pub words_found : Found → List (List ℕ)
words_found f = map (λ t. t.now) f.words.keys

-- words with others that are not among them yet
abbrev pub with_all : List (List ℕ) → List (List ℕ) → List (List ℕ)
with_all words more = insert_all bytes_eq words more

-- words with those of others that have a mark
abbrev pub with_marked : List (List ℕ) → List (List ℕ) → List (List ℕ)
with_marked words more = with_all words (filter is_marked more)
