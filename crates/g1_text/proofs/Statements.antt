-- The lines that say something: their words are printable, and none begins a comment.
use Rattle.std.proofs.Common.{◌≡◌, ℕ, zero, suc, ◌+◌, ◌<◌, ◌^◌, Bool, true, false, ◌&&◌, ltb, List, [], ◌∷◌, ◌++◌, length, map, All, refl, sym, ap, subst, arith}
use Rattle.std.specs.Prelude.{Option, Some, None, IfSome, decimal, codes}
use Rattle.std.specs.List.{list_all}
use Rattle.std.proofs.lemmas.Fmt.{digits_decimal, decimal_nonempty}
use Rattle.std.proofs.lemmas.Bool.Decides.{nat_tests}
use Rattle.std.proofs.lemmas.Bool.{and_parts as both}
use Rattle.g1_words.specs.Kind.{kind_word}
use Rattle.g1_words.specs.declared.region.Kind.{Kind}
use Rattle.g1_words.specs.declared.region.Kind.TheVariants.{Free, Ordinary, HumongousFirst, Continuation}
use Rattle.g1_text.specs.Lines.{reference_word, current_word, pinned_words}
use Rattle.g1_text.specs.Content.{Content, Line, Root, Dirty, Numbers, Remembered, Holds, words_of, Takes, Adds, Begins, Says, SaysAll, heading_words}
use Rattle.g1_text.proofs.Splitting.{AreDigits, own}
use Rattle.g1_text.proofs.Parts.{AllPrintable, IsPrintable, ArePrintable, IsStatement, AreStatements}

-- letters are printable if a test says so
abbrev is_letter : ℕ → Bool
is_letter b = ltb 32 b && ltb b 127

all_letters : (bs : List ℕ) → list_all is_letter bs ≡ true → AllPrintable bs
all_letters [] t = tt
all_letters (b ∷ bs) t =
    let p = both (is_letter b) (list_all is_letter bs) t in
    let q = both (ltb 32 b) (ltb b 127) p.0 in
    (by_test 32 b q.0, by_test b 127 q.1, all_letters bs p.1)
  where
    by_test : (a b : ℕ) → ltb a b ≡ true → a < b
    by_test a b e = grind (arith, nat_tests)

letters : (b : ℕ) (bs : List ℕ) → list_all is_letter (b ∷ bs) ≡ true → IsPrintable (b ∷ bs)
letters b bs t = (omega arith, all_letters (b ∷ bs) t)

all_append : (vs bs : List ℕ) → AllPrintable vs → AllPrintable bs → AllPrintable (vs ++ bs)
all_append [] bs p q = q
all_append (x ∷ vs) bs p q = (p.0, p.1, all_append vs bs p.2 q)

words_append : (ws vs : List (List ℕ)) → ArePrintable ws → ArePrintable vs → ArePrintable (ws ++ vs)
words_append [] vs a b = b
words_append (w ∷ ws) vs a b = (a.0, words_append ws vs a.1 b)

digits : (ds : List ℕ) → AreDigits ds → AllPrintable ds
digits [] d = tt
digits (x ∷ xs) d =
    let r = d 0 (omega arith) in
    (omega (arith, r.0), omega (arith, r.1), digits xs (λ i lt. d (suc i) (omega (arith, lt))))

-- A NUMBER IS PRINTABLE
number : (x : ℕ) → x < 2 ^ 64 → IsPrintable (decimal x)
number x small = (decimal_nonempty x small, digits (decimal x) (digits_decimal own x small))

numbers : (xs : List ℕ) → All (λ x. x < 2 ^ 64) xs → ArePrintable (map decimal xs)
numbers [] all = tt
numbers (x ∷ xs) all = (number x (all 0 0 (omega arith)), numbers xs (λ k d lt. all (suc k) d (omega (arith, lt))))

short_numbers : (xs : List ℕ) → All (λ x. x < 2 ^ 32) xs → ArePrintable (map decimal xs)
short_numbers [] all = tt
short_numbers (x ∷ xs) all = (number x (let small = all 0 0 (omega arith) in omega (arith, small)), short_numbers xs (λ k d lt. all (suc k) d (omega (arith, lt))))

reference : (x : ℕ) → x < 2 ^ 64 → IsPrintable (reference_word x)
reference zero small = letters 45 [] refl
reference (suc a) small = number a (omega (arith, small))

references : (xs : List ℕ) → All (λ x. x < 2 ^ 64) xs → ArePrintable (map reference_word xs)
references [] all = tt
references (x ∷ xs) all = (reference x (all 0 0 (omega arith)), references xs (λ k d lt. all (suc k) d (omega (arith, lt))))

slashed : (size slots : ℕ) → size < 2 ^ 64 → slots < 2 ^ 64 → IsPrintable (decimal size ++ 47 ∷ decimal slots)
slashed size slots fs ft = (
  some (decimal size) (47 ∷ decimal slots) (number size fs).0,
  all_append (decimal size) (47 ∷ decimal slots) (number size fs).1 (omega arith, omega arith, (number slots ft).1),
)
  where
    some : (xs ys : List ℕ) → 0 < length xs → 0 < length (xs ++ ys)
    some [] ys lt = absurd (omega (arith, lt))
    some (x ∷ xs) ys lt = omega arith

kind_printable : (k : Kind) → IsPrintable (kind_word k)
kind_printable Free = letters 102 (codes "ree") refl
kind_printable Ordinary = letters 111 (codes "rdinary") refl
kind_printable HumongousFirst = letters 104 (codes "umongous") refl
kind_printable Continuation = letters 99 (codes "ontinuation") refl

pinned_printable : (p : Bool) → ArePrintable (pinned_words p)
pinned_printable true = (letters 112 (codes "inned") refl, tt)
pinned_printable false = tt

current_printable : (c : Option ℕ) → IfSome c (λ r. r < 2 ^ 32) → IsPrintable (current_word c)
current_printable None fit = letters 110 (codes "one") refl
current_printable (Some r) fit = number r (omega (arith, fit))

-- a line that adds something is such a line
line_statement : (c : Content) (l : Line) (d : Content) → Takes c l d → IsStatement (words_of l)
line_statement c (Root m x) d t = (refl, (letters 114 (codes "oot") refl, (number m (let most = t.1 in omega (arith, most)), (reference x t.2, tt))))
line_statement c (Dirty cards) d t = (refl, (letters 100 (codes "irty") refl, (letters 99 (codes "ards") refl, short_numbers cards t.0)))
line_statement c (Numbers r k top o m p) d t =
    let counts : ArePrintable (codes "cards" ∷ decimal m ∷ pinned_words p) = (letters 99 (codes "ards") refl, (number m t.6, pinned_printable p)) in
    let objects : ArePrintable (codes "objects" ∷ decimal o ∷ codes "cards" ∷ decimal m ∷ pinned_words p) = (letters 111 (codes "bjects") refl, (number o t.5, counts)) in
    (refl, (letters 114 (codes "egion") refl, (number r t.2, (kind_printable k, (letters 116 (codes "op") refl, (number top t.4, objects))))))
line_statement c (Remembered r cards) d t = (refl, (letters 114 (codes "emembered") refl, (number r t.1, (letters 99 (codes "ards") refl, short_numbers cards t.2))))
line_statement c (Holds at slots values) d t =
    let size = t.10 in
    let words = words_append (map reference_word slots) (map decimal values) (references slots t.11) (numbers values t.12) in
    (refl, (letters 111 (codes "bject") refl, (number at t.8, (slashed (length slots + length values + 1) (length slots) (omega (arith, size)) (omega (arith, size)), words))))

heading_statement : (words : List (List ℕ)) (c : Content) → Begins words c → IsStatement words
heading_statement words c b =
    let w_most = b.limits.w_most in
    let k_most = b.limits.k_most in
    let n_most = b.limits.n_most in
    let counts : ArePrintable (codes "roots" ∷ decimal b.roots ∷ codes "dirty" ∷ decimal b.dirty ∷ codes "current" ∷ current_word b.current ∷ []) = (
      letters 114 (codes "oots") refl,
      (number b.roots b.root_count, (letters 100 (codes "irty") refl, (number b.dirty b.dirty_count, (letters 99 (codes "urrent") refl, (current_printable b.current b.region, tt))))),
    ) in
    let line : IsStatement (heading_words b.geometry b.roots b.dirty b.current) = (
      refl,
      (letters 104 (codes "eap") refl, (number b.geometry.w (omega (arith, w_most)), (number b.geometry.k (omega (arith, k_most)), (number b.geometry.n (omega (arith, n_most)), counts)))),
    ) in
    subst IsStatement (sym b.line) line

next_statement : (before : Option Content) (words : List (List ℕ)) (c : Content) → Says before words c → IsStatement words
next_statement None words c b = heading_statement words c b
next_statement (Some s) words c t = subst IsStatement (sym t.1) (line_statement s t.0 c t.2)

-- THE LINES OF WHAT IS SAID are such lines
pub all_statements : (before after : Option Content) (lines : List (List (List ℕ))) → SaysAll before lines after → AreStatements lines
all_statements before after [] s = tt
all_statements before after (line ∷ lines) s = (next_statement before line s.0 s.1, all_statements (Some s.0) after lines s.2)

all_added : (b c : Content) (lines : List Line) → Adds b lines c → SaysAll (Some b) (map words_of lines) (Some c)
all_added b c [] e = ap Some e
all_added b c (line ∷ lines) a = (a.0, (line, refl, a.1), all_added a.0 c lines a.2)

-- what a heading and the lines below it say
pub all_said : (words : List (List ℕ)) (lines : List Line) (b c : Content) → Begins words b → Adds b lines c → SaysAll None (words ∷ map words_of lines) (Some c)
all_said words lines b c begins adds = (b, begins, all_added b c lines adds)
