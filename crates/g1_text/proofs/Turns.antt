-- The lines of a text that are read one after the other.
use Rattle.std.proofs.Common.{◌≡◌, ℕ, suc, ◌+◌, ◌<◌, Bool, true, false, cond, List, [], ◌∷◌, length, map, filter, All, IsUtf8, refl, sym, ap, subst, arith}
use Rattle.std.specs.Borrow.{Bor}
use Rattle.std.specs.Prelude.{Option, Some, None, Result, Ok, Err, MatchOption, MatchResult, unwrap_or}
use Rattle.g1_text.specs.Reading.{words_in, says_something, parts_of}
use Rattle.g1_text.specs.Content.{Content}
use Rattle.g1_text.specs.Short.{Tells, TellsAll}

-- what these parts of a text say
abbrev pub lines_of : List (List ℕ) → List (List (List ℕ))
lines_of parts = filter says_something (map words_in parts)

-- the parts of what is left of a text, if anything is
abbrev pub parts_left : Option (Bor (List ℕ)) → List (List ℕ)
parts_left None = []
parts_left (Some left) = parts_of left.now

-- what falls with each part that is read
abbrev pub size_left : Option (Bor (List ℕ)) → ℕ
size_left None = 0
size_left (Some left) = length left.now + 1

-- these parts are still to be read
abbrev pub ToRead : List (List ℕ) → Option Content → Option Content → Type 0
ToRead parts before after = All IsUtf8 parts × TellsAll before (lines_of parts) after

-- a part was split off
pub split_off : (parts : List (List ℕ)) (line : List ℕ) (n : ℕ) (r : Option (Bor (List ℕ)))
    → MatchOption r (parts ≡ line ∷ []) (λ left. (length left.now < n) × (parts ≡ line ∷ parts_of left.now)) → parts ≡ line ∷ parts_left r
split_off parts line n None e = e
split_off parts line n (Some left) e = e.1

pub less_left : (parts : List (List ℕ)) (line : List ℕ) (n : ℕ) (r : Option (Bor (List ℕ)))
    → MatchOption r (parts ≡ line ∷ []) (λ left. (length left.now < n) × (parts ≡ line ∷ parts_of left.now)) → size_left r < n + 1
less_left parts line n None e = omega arith
less_left parts line n (Some left) e = let lt = e.0 in omega (arith, lt)

module _ (parts rest : List (List ℕ)) (line : List ℕ) (is : parts ≡ line ∷ rest) (old : Option Content) (c : Content) (reads : ToRead parts old (Some c)) where
  utf8 : All IsUtf8 (line ∷ rest)
  utf8 = subst (All IsUtf8) is reads.0

  rest_utf8 : All IsUtf8 rest
  rest_utf8 k d lt = utf8 (suc k) d (omega (arith, lt))

  by_words : (b : Bool) → says_something (words_in line) ≡ b → TellsAll old (cond b (words_in line ∷ lines_of rest) (lines_of rest)) (Some c)
  by_words b e =
      subst (λ t. TellsAll old (cond t (words_in line ∷ lines_of rest) (lines_of rest)) (Some c)) e
      (subst (λ ps. TellsAll old (lines_of ps) (Some c)) is reads.1)

  module _ {E : Type 0} (M : E → Type 0) (new : Option Content) where
    added : (r : Result (Unit {0}) E) (d : Content) → MatchResult r (λ _. new ≡ Some d) M → TellsAll (Some d) (lines_of rest) (Some c) → MatchResult r (λ _. ToRead rest new (Some c)) M
    added (Ok x) d e all = (rest_utf8, subst (λ s. TellsAll s (lines_of rest) (Some c)) (sym e) all)
    added (Err x) d e all = e

    passed : (r : Result (Unit {0}) E) → MatchResult r (λ _. new ≡ old) M → TellsAll old (lines_of rest) (Some c) → MatchResult r (λ _. ToRead rest new (Some c)) M
    passed (Ok x) e all = (rest_utf8, subst (λ s. TellsAll s (lines_of rest) (Some c)) (sym e) all)
    passed (Err x) e all = e

    -- ONE LINE MORE
    pub turned : (r : Result (Unit {0}) E)
        → ((d : Content) → IsUtf8 line → says_something (words_in line) ≡ true → Tells old (words_in line) d → MatchResult r (λ _. new ≡ Some d) M)
        → (IsUtf8 line → says_something (words_in line) ≡ false → MatchResult r (λ _. new ≡ old) M)
        → MatchResult r (λ _. ToRead rest new (Some c)) M
    turned r says nothing = by (says_something (words_in line)) refl
      where
        by : (b : Bool) → says_something (words_in line) ≡ b → MatchResult r (λ _. ToRead rest new (Some c)) M
        by true e = let now = by_words true e in added r now.0 (says now.0 (utf8 0 line (omega arith)) e now.1) now.2
        by false e = passed r (nothing (utf8 0 line (omega arith)) e) (by_words false e)

pub at_ok : {A E : Type 0} (P : A → Type 0) (M : E → Type 0) {r : Result A E} {a : A} → r ≡ Ok a → MatchResult r P M → P a
at_ok P M e m = subst (λ q. MatchResult q P M) e m

pub at_err : {A E : Type 0} (P : A → Type 0) (M : E → Type 0) {r : Result A E} {x : E} → r ≡ Err x → MatchResult r P M → M x
at_err P M e m = subst (λ q. MatchResult q P M) e m

pub some_one : {A : Type 0} {a b : A} → Some a ≡ Some b → a ≡ b
some_one {A} {a} {b} e = ap (λ o. unwrap_or o a) e
