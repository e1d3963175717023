-- What the kind of a region tells, and the number that stands for it in an image file.
use Rattle.std.specs.Prelude.{ℕ, List, nat_lt, codes, if◌then◌else◌}
use Rattle.g1_words.specs.declared.region.Kind.{Kind}
use Rattle.g1_words.specs.declared.region.Kind.TheVariants.{Free, Ordinary, HumongousFirst, Continuation}

-- regions of this kind may have a remembered set that is not empty
abbrev pub MayHoldCards : Kind → Type 0
MayHoldCards Ordinary = Unit {0}
MayHoldCards HumongousFirst = Unit {0}
MayHoldCards _ = ⊥

-- the word that stands for a kind in a line
abbrev pub kind_word : Kind → List ℕ
kind_word Free = codes "free"
kind_word Ordinary = codes "ordinary"
kind_word HumongousFirst = codes "humongous"
kind_word Continuation = codes "continuation"

-- the number that stands for a kind in a file
abbrev pub kind_number : Kind → ℕ
kind_number Free = 0
kind_number Ordinary = 1
kind_number HumongousFirst = 2
kind_number Continuation = 3

-- the kind that a number stands for; a number above 3 stands for none, and is read here as 3
abbrev pub kind_of : ℕ → Kind
kind_of x = if nat_lt x 2 then (if nat_lt x 1 then Free else Ordinary) else (if nat_lt x 3 then HumongousFirst else Continuation)
