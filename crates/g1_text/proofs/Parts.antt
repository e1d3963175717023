-- The full text of lines is a text of these lines.
use Rattle.std.proofs.Common.{◌≡◌, ℕ, ◌<◌, true, false, List, [], ◌∷◌, ◌++◌, length, get_or, map, filter, All, refl, sym, ◌∙◌, ap, subst, arith, append_assoc, append-nil, eqb, IsUtf8, not, cond}
use Rattle.std.specs.Char.{is_ascii_whitespace}
use Rattle.std.proofs.lemmas.Str.{IsUtf8-from_ascii, IsAscii-append}
use Rattle.std.proofs.lemmas.Str.Ascii.{IsAscii-nil, IsAscii-cons}
use Rattle.std.proofs.lemmas.List.Elements.{All-nil, All-cons, All-append}
use Rattle.std.proofs.lemmas.Bool.Decides.{nat_tests}
use Rattle.std.proofs.lemmas.List.Splits.{slice_split_at}
use Rattle.std.specs.Str.{IsAscii}
use Rattle.g1_text.specs.Lines.{line_text, further, text_of}
use Rattle.g1_text.specs.Reading.{words_in, says_something, parts_of, lines_in, HasLines}
use Rattle.g1_text.proofs.White.{NoWhite, word_first, word_alone}

-- each byte is printable ASCII, and no space
abbrev pub AllPrintable : List ℕ → Type 0
AllPrintable [] = Unit {0}
AllPrintable (b ∷ bs) = (32 < b) × (b < 127) × AllPrintable bs

-- a word with a byte, and with no other ones
abbrev pub IsPrintable : List ℕ → Type 0
IsPrintable w = (0 < length w) × AllPrintable w

abbrev pub ArePrintable : List (List ℕ) → Type 0
ArePrintable [] = Unit {0}
ArePrintable (w ∷ ws) = IsPrintable w × ArePrintable ws

-- a line of such words, which is no comment
abbrev pub IsStatement : List (List ℕ) → Type 0
IsStatement [] = ⊥
IsStatement (w ∷ ws) = (eqb (get_or w 0 0) 35 ≡ false) × ArePrintable (w ∷ ws)

abbrev pub AreStatements : List (List (List ℕ)) → Type 0
AreStatements [] = Unit {0}
AreStatements (l ∷ ls) = IsStatement l × AreStatements ls

-- the words behind the first one of a line, each after one space
abbrev spaced : List (List ℕ) → List ℕ
spaced [] = []
spaced (w ∷ ws) = 32 ∷ (w ++ spaced ws)

-- a line without its end
abbrev bare : List (List ℕ) → List ℕ
bare [] = []
bare (w ∷ ws) = w ++ spaced ws

further_is : (ws : List (List ℕ)) → further ws ≡ spaced ws ++ 10 ∷ []
further_is [] = refl
further_is (w ∷ ws) = ap (λ bs. 32 ∷ (w ++ bs)) (further_is ws) ∙ ap (λ bs. 32 ∷ bs) (sym (append_assoc w (spaced ws) (10 ∷ [])))

text_is : (l : List (List ℕ)) (rest : List ℕ) → line_text l ++ rest ≡ bare l ++ 10 ∷ rest
text_is [] rest = refl
text_is (w ∷ ws) rest =
    ap (λ bs. (w ++ bs) ++ rest) (further_is ws) ∙ ap (λ bs. bs ++ rest) (sym (append_assoc w (spaced ws) (10 ∷ []))) ∙ append_assoc (w ++ spaced ws) (10 ∷ []) rest

printable_dark : (b : ℕ) → 32 < b → is_ascii_whitespace b ≡ false
printable_dark b p = grind (arith, nat_tests)

printable_white : (w : List ℕ) → AllPrintable w → NoWhite w
printable_white [] s = All-nil (λ b. is_ascii_whitespace b ≡ false)
printable_white (b ∷ bs) s = All-cons (λ b. is_ascii_whitespace b ≡ false) b bs (printable_dark b s.0) (printable_white bs s.2)

-- the words of a line of such words are these
bare_words : (l : List (List ℕ)) → ArePrintable l → words_in (bare l) ≡ l
bare_words [] s = refl
bare_words (w ∷ []) s = ap words_in (append-nil w) ∙ word_alone w s.0.0 (printable_white w s.0.1)
bare_words (w ∷ v ∷ ws) s = word_first w 32 (v ++ spaced ws) s.0.0 (printable_white w s.0.1) refl ∙ ap (λ vs. w ∷ vs) (bare_words (v ∷ ws) s.1)

-- no byte is the end of a line
abbrev NoEnd : List ℕ → Type 0
NoEnd bs = All (λ b. eqb b 10 ≡ false) bs

printable_other : (b : ℕ) → 31 < b → eqb b 10 ≡ false
printable_other b p = grind (arith, nat_tests)

printable_end : (w : List ℕ) → AllPrintable w → NoEnd w
printable_end [] s = All-nil (λ b. eqb b 10 ≡ false)
printable_end (b ∷ bs) s = All-cons (λ b. eqb b 10 ≡ false) b bs (printable_other b (omega (arith, s.0))) (printable_end bs s.2)

spaced_end : (ws : List (List ℕ)) → ArePrintable ws → NoEnd (spaced ws)
spaced_end [] s = All-nil (λ b. eqb b 10 ≡ false)
spaced_end (w ∷ ws) s = All-cons (λ b. eqb b 10 ≡ false) 32 (w ++ spaced ws) refl (All-append (λ b. eqb b 10 ≡ false) w (spaced ws) (printable_end w s.0.1) (spaced_end ws s.1))

bare_end : (l : List (List ℕ)) → ArePrintable l → NoEnd (bare l)
bare_end [] s = All-nil (λ b. eqb b 10 ≡ false)
bare_end (w ∷ ws) s = All-append (λ b. eqb b 10 ≡ false) w (spaced ws) (printable_end w s.0.1) (spaced_end ws s.1)

printable_ascii : (w : List ℕ) → AllPrintable w → IsAscii w
printable_ascii [] s = IsAscii-nil
printable_ascii (b ∷ bs) s = IsAscii-cons b bs (omega (arith, s.1)) (printable_ascii bs s.2)

spaced_ascii : (ws : List (List ℕ)) → ArePrintable ws → IsAscii (spaced ws)
spaced_ascii [] s = IsAscii-nil
spaced_ascii (w ∷ ws) s = IsAscii-cons 32 (w ++ spaced ws) (omega arith) (IsAscii-append w (spaced ws) (printable_ascii w s.0.1) (spaced_ascii ws s.1))

bare_ascii : (l : List (List ℕ)) → ArePrintable l → IsAscii (bare l)
bare_ascii [] s = IsAscii-nil
bare_ascii (w ∷ ws) s = IsAscii-append w (spaced ws) (printable_ascii w s.0.1) (spaced_ascii ws s.1)

statement_printable : (l : List (List ℕ)) → IsStatement l → ArePrintable l
statement_printable [] p = absurd p
statement_printable (w ∷ ws) p = p.1

statement_says : (l : List (List ℕ)) → IsStatement l → says_something l ≡ true
statement_says [] p = absurd p
statement_says (w ∷ ws) p = ap not p.0

-- THE PARTS of a full text: its lines without their ends, and nothing behind the last end
parts_are : (ls : List (List (List ℕ))) → AreStatements ls → parts_of (text_of ls) ≡ map bare ls ++ [] ∷ []
parts_are [] p = refl
parts_are (l ∷ ls) p =
    ap parts_of (text_is l (text_of ls)) ∙ slice_split_at (λ b. eqb b 10) (bare l) 10 (text_of ls) (bare_end l (statement_printable l p.0)) refl ∙ ap (λ bs. bare l ∷ bs) (parts_are ls p.1)

parts_utf8 : (ls : List (List (List ℕ))) → AreStatements ls → All IsUtf8 (map bare ls ++ [] ∷ [])
parts_utf8 [] p = All-cons IsUtf8 [] [] (IsUtf8-from_ascii [] IsAscii-nil) (All-nil IsUtf8)
parts_utf8 (l ∷ ls) p = All-cons IsUtf8 (bare l) (map bare ls ++ [] ∷ []) (IsUtf8-from_ascii (bare l) (bare_ascii l (statement_printable l p.0))) (parts_utf8 ls p.1)

parts_lines : (ls : List (List (List ℕ))) → AreStatements ls → filter says_something (map words_in (map bare ls ++ [] ∷ [])) ≡ ls
parts_lines [] p = refl
parts_lines (l ∷ ls) p =
    ap (λ ws. filter says_something (ws ∷ map words_in (map bare ls ++ [] ∷ []))) (bare_words l (statement_printable l p.0))
    ∙ ap (λ b. cond b (l ∷ filter says_something (map words_in (map bare ls ++ [] ∷ []))) (filter says_something (map words_in (map bare ls ++ [] ∷ [])))) (statement_says l p.0)
    ∙ ap (λ ms. l ∷ ms) (parts_lines ls p.1)

-- THE FULL TEXT of lines has these lines
pub full_lines : (ls : List (List (List ℕ))) (text : List ℕ) → AreStatements ls → text ≡ text_of ls → HasLines text ls
full_lines ls text p e = record {
  utf8 = subst (All IsUtf8) (sym (ap parts_of e ∙ parts_are ls p)) (parts_utf8 ls p);
  same = ap lines_in e ∙ ap (λ ps. filter says_something (map words_in ps)) (parts_are ls p) ∙ parts_lines ls p;
}
