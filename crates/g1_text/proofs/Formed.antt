-- Which forms the lines of a text have, when they are read one after the other.
use Rattle.std.proofs.Common.{◌≡◌, ℕ, Bool, true, false, cond, List, [], ◌∷◌, All, IsUtf8, refl, sym, subst}
use Rattle.std.proofs.lemmas.Bool.{false≢true}
use Rattle.std.proofs.lemmas.List.Elements.{All-nil, All-cons, All-same}
use Rattle.g1_text.specs.Reading.{words_in, says_something, parts_of, lines_in}
use Rattle.g1_text.specs.Forms.{Form, HaveForms, HasMeaning}
use Rattle.g1_text.specs.Drafts.{IsTaken, AreTaken}
use Rattle.g1_text.proofs.Turns.{lines_of}

module _ (heading below : Form) where
  -- what these parts begin with was read, and the rest is left: if that is taken, so are all
  pub record IsLeft (parts : List (List ℕ)) (before : Bool) (left : List (List ℕ)) (now : Bool) : Type 0 where
    pub utf8 : All IsUtf8 left → All IsUtf8 parts
    pub taken : (after : Bool) → AreTaken heading below now (lines_of left) after → AreTaken heading below before (lines_of parts) after

  pub nothing_read : (parts : List (List ℕ)) (before : Bool) → IsLeft parts before parts before
  nothing_read parts before = record { utf8 = λ all. all; taken = λ after t. t }

  -- ONE LINE MORE
  module _ (parts left rest : List (List ℕ)) (line : List ℕ) (is : left ≡ line ∷ rest) (before old new : Bool)
      (so_far : IsLeft parts before left old) (utf8 : IsUtf8 line)
      (says : says_something (words_in line) ≡ true → IsTaken heading below old (words_in line) new)
      (nothing : says_something (words_in line) ≡ false → new ≡ old) where
    more_utf8 : All IsUtf8 rest → All IsUtf8 parts
    more_utf8 all = so_far.utf8 (All-same IsUtf8 left (line ∷ rest) is (All-cons IsUtf8 line rest utf8 all))

    whole : (after b : Bool) → says_something (words_in line) ≡ b → AreTaken heading below old (cond b (words_in line ∷ lines_of rest) (lines_of rest)) after
        → AreTaken heading below before (lines_of parts) after
    whole after b e t = so_far.taken after (subst (λ ps. AreTaken heading below old (lines_of ps) after) (sym is)
        (subst (λ x. AreTaken heading below old (cond x (words_in line ∷ lines_of rest) (lines_of rest)) after) (sym e) t))

    more_taken : (after b : Bool) → says_something (words_in line) ≡ b → AreTaken heading below new (lines_of rest) after → AreTaken heading below before (lines_of parts) after
    more_taken after true e t = let s = says e in whole after true e (s.0, subst (λ x. AreTaken heading below x (lines_of rest) after) s.1 t)
    more_taken after false e t = whole after false e (subst (λ x. AreTaken heading below x (lines_of rest) after) (nothing e) t)

    pub one_more : IsLeft parts before rest new
    one_more = record { utf8 = more_utf8; taken = λ after. more_taken after (says_something (words_in line)) refl }

  all_taken : (lines : List (List (List ℕ))) → AreTaken heading below true lines true → All below lines
  all_taken [] t = All-nil below
  all_taken (line ∷ lines) t = All-cons below line lines t.0 (all_taken lines t.1)

  formed_lines : (lines : List (List (List ℕ))) → AreTaken heading below false lines true → HaveForms heading below lines
  formed_lines [] t = absurd (false≢true t)
  formed_lines (line ∷ lines) t = (t.0, all_taken lines t.1)

  -- the lines of a text that is taken from the heading on have a meaning
  pub meant_text : (text : List ℕ) → All IsUtf8 (parts_of text) × AreTaken heading below false (lines_in text) true → HasMeaning heading below text
  meant_text text read = record { utf8 = read.0; lines = formed_lines (lines_in text) read.1 }
