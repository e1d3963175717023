-- Decimal digits are read one after the other.
use Rattle.std.proofs.Common.{◌≡◌, ℕ, ◌+◌, ◌*◌, ◌%◌, ◌<◌, ◌≤◌, ◌^◌, List, [], ◌∷◌, length, get_or, drop, drop_of_length-le, sym, ◌∙◌, ap, subst, arith}
use Rattle.std.specs.Prelude.{Option, Some, None, MatchOption, decimal}
use Rattle.std.specs.Char.{digit_value}
use Rattle.std.specs.Int.{IsInRange}
use Rattle.std.specs.Str.Parse.{AllDigits, digits_value, digits_value_after}
use Rattle.std.proofs.lemmas.List.{drop_more}
use Rattle.std.proofs.lemmas.Str.{digit_value_digit}
use Rattle.std.proofs.lemmas.Str.Parse.{digit_from_value}
use Rattle.std.proofs.lemmas.Fmt.{digits_decimal, digits_value-decimal, decimal_nonempty}
use Rattle.g1_text.specs.Forms.{Spells, IsBelow}
use Rattle.g1_words.proofs.Numerals.{by_value}

-- of the digits `all`, those before `rest` write n
pub record SoFar (all rest : List ℕ) (n : ℕ) : Type 0 where
  pub same : digits_value_after 10 n rest ≡ digits_value 10 all
  pub back : AllDigits 10 rest → AllDigits 10 all
  pub on : AllDigits 10 all → AllDigits 10 rest

pub begun : (text bytes : List ℕ) → bytes ≡ text → SoFar text bytes 0
begun text bytes e = subst (λ t. SoFar t bytes 0) e (record { same = λ _. digits_value 10 bytes; back = λ h. h; on = λ h. h })

grows : (n : ℕ) (ds : List ℕ) → n ≤ digits_value_after 10 n ds
grows n [] = omega arith
grows n (c ∷ cs) = omega (arith, grows (n * 10 + digit_value c) cs)

-- a byte less 48, modulo 256, is a digit's value where it is below 10
pub value_of : (byte : ℕ) → byte < 256 → (byte + 208) % 256 ≤ 9 → IsInRange 48 57 byte × (digit_value byte ≡ (byte + 208) % 256)
value_of byte fits small =
    let is : IsInRange 48 57 byte = (omega (arith, fits, small), omega (arith, fits, small)) in
    (is, omega (arith, digit_value_digit byte is, is.0, is.1))

module _ (all bytes : List ℕ) (at n : ℕ) (s : SoFar all (drop at bytes) n) (lt : at < length bytes) where
  abbrev byte : ℕ
  byte = get_or bytes at 0

  opened : SoFar all (byte ∷ drop (at + 1) bytes) n
  opened = subst (λ l. SoFar all l n) (drop_more bytes at 0 lt) s

  pub one_more : (m : ℕ) → byte < 256 → (byte + 208) % 256 ≤ 9 → m ≡ n * 10 + (byte + 208) % 256 → SoFar all (drop (at + 1) bytes) m
  one_more m fits small e =
      let is = value_of byte fits small in
      let d : digit_value byte < 10 = omega (arith, is.1, small) in
      let value : m ≡ n * 10 + digit_value byte = omega (arith, is.1, e) in
      record { same = ap (λ k. digits_value_after 10 k (drop (at + 1) bytes)) value ∙ opened.same; back = λ r. opened.back (d, r); on = λ r. (opened.on r).1 }

  pub no_digit : 9 < (byte + 208) % 256 → IsBelow (2 ^ 64) all → ⊥
  no_digit big h = let is = digit_from_value byte (opened.on h.1.0.1).0 in omega (arith, big, is.0, is.1)

  -- what these digits write goes beyond 64 bits, with the next one or without
  pub too_large : byte < 256 → (byte + 208) % 256 ≤ 9 → 2 ^ 64 ≤ n * 10 + (byte + 208) % 256 → IsBelow (2 ^ 64) all → ⊥
  too_large fits small big h =
      let is = value_of byte fits small in
      omega (arith, is.1, big, opened.same, grows (n * 10 + digit_value byte) (drop (at + 1) bytes), h.1.1, h.1.2)

pub all_read : (text bytes : List ℕ) (at n : ℕ) → bytes ≡ text → SoFar text (drop at bytes) n → length bytes ≤ at → 0 < length bytes → n < 2 ^ 64 → Spells (2 ^ 64) n text
all_read text bytes at n e s end some fits =
    let t : SoFar text [] n = subst (λ l. SoFar text l n) (drop_of_length-le bytes end) s in
    ((omega (arith, ap length e, some), t.back tt), sym t.same, fits)

written : (bs : List ℕ) (n : ℕ) → n < 2 ^ 64 → bs ≡ decimal n → Spells (2 ^ 64) n bs
written bs n small e = subst (Spells (2 ^ 64) n) (sym e) ((decimal_nonempty n small, digits_decimal by_value n small), digits_value-decimal by_value n small, small)

-- a word that a number is written as is read as this number
pub decimal_read : (bs : List ℕ) (o : Option ℕ) → MatchOption o (IsBelow (2 ^ 64) bs → ⊥) (λ m. Spells (2 ^ 64) m bs) → (n : ℕ) → n < 2 ^ 64 → bs ≡ decimal n → o ≡ Some n
decimal_read bs None none n small e = absurd (none (n, written bs n small e))
decimal_read bs (Some m) is n small e = ap Some (sym is.1 ∙ (written bs n small e).1)
