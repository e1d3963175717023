-- What lines were taken, call by call.
use Rattle.std.proofs.Common.{ℕ, List, [], ◌++◌, ◌∙◌, sym, ap, append_assoc}
use Rattle.std.proofs.lemmas.List.{append-nil}
use Rattle.std.specs.Prelude.{Option, Some, None}
use Rattle.std.specs.Io.KnownBytes.{Appends}
use Rattle.g1_report.specs.Taken.{TakesPart, TakesFirst}

-- what was taken is taken first
pub taken_first : (old new : Option (List ℕ)) (text : List ℕ) → Appends old new text → TakesFirst old new text
taken_first None new text a = tt
taken_first (Some xs) None text a = absurd a
taken_first (Some xs) (Some ys) text a = ([], a ∙ ap (λ zs. xs ++ zs) (sym (append-nil text)))

-- and still is when more is taken
pub taken_more : (old now new : Option (List ℕ)) (text more : List ℕ) → TakesFirst old now text → Appends now new more → TakesFirst old new text
taken_more None now new text more f a = tt
taken_more (Some xs) None new text more f a = absurd f
taken_more (Some xs) (Some ys) None text more f a = absurd a
taken_more (Some xs) (Some ys) (Some zs) text more f a =
    (f.0 ++ more, a ∙ ap (λ w. w ++ more) f.1 ∙ simp append_assoc)

-- also when any number of lines is
pub taken_on : (old now new : Option (List ℕ)) (text : List ℕ) → TakesFirst old now text → TakesFirst now new [] → TakesFirst old new text
taken_on None now new text f a = tt
taken_on (Some xs) None new text f a = absurd f
taken_on (Some xs) (Some ys) None text f a = absurd a
taken_on (Some xs) (Some ys) (Some zs) text f a =
    (f.0 ++ a.0, a.1 ∙ ap (λ w. w ++ a.0) f.1 ∙ simp append_assoc)

-- any number is taken by one call
pub taken_any : (old new : Option (List ℕ)) (text : List ℕ) → Appends old new text → TakesFirst old new []
taken_any None new text a = tt
taken_any (Some xs) None text a = absurd a
taken_any (Some xs) (Some ys) text a = (text, a)

-- a call that fails may take a beginning
pub taken_part : (old new : Option (List ℕ)) (text : List ℕ) → TakesPart old new text → TakesFirst old new []
taken_part None new text a = tt
taken_part (Some xs) None text a = absurd a
taken_part (Some xs) (Some ys) text a = (a.0, a.3)

-- what is taken behind a text is taken behind what stood before it
pub taken_behind : (old new : Option (List ℕ)) (text : List ℕ) → TakesFirst old new text → TakesFirst old new []
taken_behind None new text f = tt
taken_behind (Some xs) None text f = absurd f
taken_behind (Some xs) (Some ys) text f = (text ++ f.0, f.1)
