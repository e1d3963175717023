-- Decimal numbers that are read back.
use Rattle.std.proofs.Common.{◌≡◌, ◌≢◌, ℕ, ◌<◌, ◌^◌, true, List, ◌∷◌, ◌++◌, length, get_or, sym, ◌∙◌, ap, subst, arith}
use Rattle.std.specs.Prelude.{Option, Some, None, MatchOption, Result, Ok, Err, decimal}
use Rattle.std.specs.Option.{option_zip}
use Rattle.std.specs.Result.{OkIff, result_ok}
use Rattle.std.specs.Borrow.{Bor}
use Rattle.std.specs.Str.{all_ascii_digits}
use Rattle.std.specs.Str.Parse.{AllDigits, ParsesUnsigned, digits_value}
use Rattle.std.proofs.lemmas.Str.Parse.{IsNumeralModel, numerals_by_value, tells_all_ascii_digits, parse_plain, parse_gives, not_in_digits}
use Rattle.std.proofs.lemmas.Str.Pattern.{IsSplitOnceResult, split_after}
use Rattle.g1_text.specs.Forms.{Spells, IsBelow, HasSize}
use Rattle.std.proofs.lemmas.Fmt.{digits_decimal, digits_value-decimal, decimal_nonempty}
use Rattle.g1_words.proofs.Numerals.{by_value}

pub own : IsNumeralModel (λ ds. all_ascii_digits ds ≡ true) (digits_value 10)
own = numerals_by_value (λ ds. all_ascii_digits ds ≡ true) tells_all_ascii_digits

-- a decimal number does not begin with a plus
pub no_plus : (n : ℕ) (bs : List ℕ) → n < 2 ^ 64 → bs ≡ decimal n → get_or bs 0 0 ≢ 43
no_plus n bs small e f =
    not_in_digits own (decimal n) 43 (digits_decimal own n small) (λ q. let low = q.0 in absurd (omega (arith, low))) 0 (decimal_nonempty n small) (sym (ap (λ xs. get_or xs 0 0) e) ∙ f)

-- a decimal number is read as what it was written from
pub parsed : {E : Type 0} (n : ℕ) (bs : List ℕ) (r : Result ℕ E) → ParsesUnsigned 64 10 bs r → n < 2 ^ 64 → bs ≡ decimal n → r ≡ Ok n
parsed n bs r h small e =
    let there : 0 < length bs = subst (λ x. 0 < length x) (sym e) (decimal_nonempty n small) in
    let value : digits_value 10 bs ≡ n = ap (digits_value 10) e ∙ digits_value-decimal own n small in
    parse_gives own 64 bs r h (ap all_ascii_digits e ∙ digits_decimal own n small) there (omega (arith, value, small)) ∙ ap Ok value

-- two numbers with a slash between them are taken apart at the slash
pub at_slash : (size slots : ℕ) (bs : List ℕ) (r : Option (Bor (List ℕ) × Bor (List ℕ))) → IsSplitOnceResult 47 bs r → size < 2 ^ 64 → bs ≡ decimal size ++ 47 ∷ decimal slots
    → MatchOption r ⊥ (λ x. (x.0.now ≡ decimal size) × (x.1.now ≡ decimal slots))
at_slash size slots bs r h small e =
    split_after 47 bs (decimal size) (decimal slots) r h (omega arith) e (not_in_digits own (decimal size) 47 (digits_decimal own size small) (λ q. let low = q.0 in absurd (omega (arith, low))))

-- what is read is the number that the digits say, and nothing is read of other words
pub read_digits : {E : Type 0} (bs : List ℕ) (r : Result ℕ E) (o : Option ℕ) → ParsesUnsigned 64 10 bs r → get_or bs 0 0 ≢ 43 → o ≡ result_ok r
    → MatchOption o (IsBelow (2 ^ 64) bs → ⊥) (λ n. Spells (2 ^ 64) n bs)
read_digits bs r o h plain e = subst (λ p. MatchOption p (IsBelow (2 ^ 64) bs → ⊥) (λ n. Spells (2 ^ 64) n bs)) (sym e) (by r (parse_plain by_value 64 bs r h plain))
  where
    by : {E : Type 0} (r : Result ℕ E) → OkIff r (AllDigits 10 bs × (0 < length bs) × (digits_value 10 bs < 2 ^ 64)) (digits_value 10 bs)
        → MatchOption (result_ok r) (IsBelow (2 ^ 64) bs → ⊥) (λ n. Spells (2 ^ 64) n bs)
    by (Ok n) k = ((k.0.1, k.0.0), sym k.1, subst (λ m. m < 2 ^ 64) (sym k.1) k.0.2)
    by (Err x) k = λ b. k (b.1.0.1, b.1.0.0, subst (λ m. m < 2 ^ 64) (sym b.1.1) b.1.2)

-- where the slash is, a size is taken apart
pub cut_size : (size slots : ℕ) (bs : List ℕ) (r : Option (Bor (List ℕ) × Bor (List ℕ))) → IsSplitOnceResult 47 bs r → (h : HasSize size slots bs)
    → MatchOption r ⊥ (λ x. (x.0.now ≡ h.0) × (x.1.now ≡ h.1))
cut_size size slots bs r s h = split_after 47 bs h.0 h.1 r s (omega arith) h.2 (not_in_digits by_value h.0 47 h.3.0.1 (λ q. let low = q.0 in absurd (omega (arith, low))))

pub read_size : (bs front back : List ℕ) (o p : Option ℕ) → bs ≡ front ++ 47 ∷ back → ((size slots : ℕ) (h : HasSize size slots bs) → (front ≡ h.0) × (back ≡ h.1))
    → MatchOption o (IsBelow (2 ^ 64) front → ⊥) (λ n. Spells (2 ^ 64) n front) → MatchOption p (IsBelow (2 ^ 64) back → ⊥) (λ n. Spells (2 ^ 64) n back)
    → MatchOption (option_zip o p) ((size slots : ℕ) → HasSize size slots bs → ⊥) (λ x. HasSize x.0 x.1 bs)
read_size bs front back None p e one m n = λ size slots h. m (subst (IsBelow (2 ^ 64)) (sym (one size slots h).0) (size, h.3))
read_size bs front back (Some a) None e one m n = λ size slots h. n (subst (IsBelow (2 ^ 64)) (sym (one size slots h).1) (slots, h.4))
read_size bs front back (Some a) (Some b) e one m n = (front, back, e, m, n)
