-- The words of a line.
use Rattle.std.proofs.Common.{◌≡◌, ℕ, suc, ◌<◌, ◌≤◌, true, false, List, [], ◌∷◌, ◌++◌, length, get_or, All, refl, sym, ◌∙◌, ap, subst, arith, append-nil, ◌⊎◌, inl, inr}
use Rattle.std.specs.Prelude.{Some, None, filter}
use Rattle.std.specs.List.{slice_split, AllPass}
use Rattle.std.proofs.lemmas.Bool.Decides.{nat_tests}
use Rattle.std.proofs.lemmas.List.{get_or_default}
use Rattle.std.proofs.lemmas.Bool.{cases_lt}
use Rattle.std.specs.Char.{is_ascii_whitespace}
use Rattle.std.specs.Str.{NoCharPasses}
use Rattle.std.specs.Str.Iter.{split_ascii_whitespace_steps, split_ascii_whitespace_text, IsAsciiSeparator}
use Rattle.std.proofs.lemmas.Str.{NoCharPasses-byte}
use Rattle.std.proofs.lemmas.List.Splits.{slice_split-cons_yes, slice_split_none, slice_split_at}
use Rattle.std.proofs.lemmas.Iterator.{YieldsList}
use Rattle.std.proofs.lemmas.Iterator.Consumers.{YieldsList-from_shown}
use Rattle.g1_text.specs.Reading.{has_byte, words_in}

-- no byte is white space
abbrev pub NoWhite : List ℕ → Type 0
NoWhite bs = All (λ b. is_ascii_whitespace b ≡ false) bs

-- white space in front of a line is no word
white_first : (b : ℕ) (bs : List ℕ) → is_ascii_whitespace b ≡ true → words_in (b ∷ bs) ≡ words_in bs
white_first b bs w = ap (filter has_byte) (slice_split-cons_yes is_ascii_whitespace b bs w)

pub white_gap : (gap bs : List ℕ) → AllPass is_ascii_whitespace gap → words_in (gap ++ bs) ≡ words_in bs
white_gap [] bs all = refl
white_gap (b ∷ gap) bs all = white_first b (gap ++ bs) (all 0 0 (omega arith)) ∙ white_gap gap bs (λ k d lt. all (suc k) d (omega (arith, lt)))

kept : (word : List ℕ) (words : List (List ℕ)) → 0 < length word → filter has_byte (word ∷ words) ≡ word ∷ filter has_byte words
kept [] words some = absurd (omega (arith, some))
kept (b ∷ bs) words some = refl

-- a word and white space behind it
pub word_first : (word : List ℕ) (b : ℕ) (rest : List ℕ) → 0 < length word → NoWhite word → is_ascii_whitespace b ≡ true → words_in (word ++ b ∷ rest) ≡ word ∷ words_in rest
word_first word b rest some none white =
    ap (filter has_byte) (slice_split_at is_ascii_whitespace word b rest none white) ∙ kept word (slice_split is_ascii_whitespace rest) some

-- a word at the end of a line
pub word_alone : (word : List ℕ) → 0 < length word → NoWhite word → words_in word ≡ word ∷ []
word_alone word some none = ap (filter has_byte) (slice_split_none is_ascii_whitespace word none) ∙ kept word [] some

-- white space is ASCII
white_low : (b : ℕ) → 128 ≤ b → is_ascii_whitespace b ≡ false
white_low b high = grind (arith, nat_tests)

-- a text none of whose characters is white space has no byte that is
no_white : (bs : List ℕ) → NoCharPasses is_ascii_whitespace bs → NoWhite bs
no_white bs none k d lt = byte (get_or bs k 0) (get_or bs k d) (NoCharPasses-byte is_ascii_whitespace bs k none lt) (get_or_default bs k 0 d lt) (cases_lt (get_or bs k 0) 128)
  where
    byte : (b c : ℕ) → (b < 128 → is_ascii_whitespace b ≡ false) → b ≡ c → (b < 128) ⊎ (128 ≤ b) → is_ascii_whitespace c ≡ false
    byte b c is e (inl low) = ap is_ascii_whitespace (sym e) ∙ is low
    byte b c is e (inr high) = ap is_ascii_whitespace (sym e) ∙ white_low b high

-- the words behind a word, and what stands between
behind : (word sep rest : List ℕ) → 0 < length word → NoWhite word → IsAsciiSeparator sep rest → words_in (word ++ (sep ++ rest)) ≡ word ∷ words_in rest
behind word [] [] some none sep = ap words_in (append-nil word) ∙ word_alone word some none
behind word [] (b ∷ rest) some none sep = absurd (let l = sep.2 refl in omega (arith, l))
behind word (b ∷ []) rest some none sep = word_first word b rest some none (sep.0 0 0 (omega arith))
behind word (b ∷ c ∷ more) rest some none sep = absurd (let l = sep.1 in omega (arith, l))

no_words : (bs : List ℕ) → AllPass is_ascii_whitespace bs → length (words_in bs) ≡ 0
no_words bs all = ap (λ ws. length (words_in ws)) (sym (append-nil bs)) ∙ ap length (white_gap bs [] all)

-- one word is cut off
cut_first : (bs word gap sep rest : List ℕ) → bs ≡ gap ++ (word ++ (sep ++ rest)) → 0 < length word → NoWhite word → AllPass is_ascii_whitespace gap → IsAsciiSeparator sep rest
    → words_in bs ≡ word ∷ words_in rest
cut_first bs word gap sep rest e some none white part = ap words_in e ∙ white_gap gap (word ++ (sep ++ rest)) white ∙ behind word sep rest some none part

-- a line's first word, if it has one
pub next_word : (s : _) (x : _) (t : _) → split_ascii_whitespace_steps s (Some x) t → words_in (split_ascii_whitespace_text s) ≡ x.now ∷ words_in (split_ascii_whitespace_text t)
next_word s x t h =
    let cut = h.3 in
    cut_first (split_ascii_whitespace_text s) x.now cut.0 cut.1 (split_ascii_whitespace_text t) cut.2 h.0 (no_white x.now h.1) cut.3 cut.4

pub no_word : (s : _) (t : _) → split_ascii_whitespace_steps s None t → length (words_in (split_ascii_whitespace_text s)) ≡ 0
no_word s t h = no_words (split_ascii_whitespace_text s) h.0

-- THE WORDS THAT `split_ascii_whitespace` GIVES
pub YieldsList-from_words : {s : _} (line : List ℕ) → split_ascii_whitespace_text s ≡ line → YieldsList split_ascii_whitespace_steps (λ x. x.now) s (words_in line)
YieldsList-from_words {s} line e =
    subst (λ l. YieldsList split_ascii_whitespace_steps (λ x. x.now) s (words_in l)) e
    (YieldsList-from_shown split_ascii_whitespace_steps (λ x. x.now) (λ t. words_in (split_ascii_whitespace_text t)) (λ t u h. no_word t u h) (λ t x u h. next_word t x u h) s)
