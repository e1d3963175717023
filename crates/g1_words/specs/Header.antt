-- What a header word tells: an object's size in words, the header included, and its number of references.
use Rattle.std.specs.Prelude.{ℕ, List, ◌/◌, ◌%◌, ◌^◌, slice_index}
use Rattle.g1_words.specs.declared.object.Object.{Object}

-- the object whose header is the word at an address; for the words of a heap this is its object_at
abbrev pub header : List ℕ → ℕ → Object
header words a = record { at = a; size = slice_index words a / 2 ^ 32; refs = slice_index words a % 2 ^ 32 }
