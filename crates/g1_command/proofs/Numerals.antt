-- Whole numbers that are read from their digits.
use Rattle.std.proofs.Common.{◌≡◌, ◌≢◌, ℕ, ◌<◌, ◌^◌, List, length, get_or, sym, subst}
use Rattle.std.specs.Prelude.{Option, MatchOption, Result, Ok, Err}
use Rattle.std.specs.Result.{OkIff, result_ok}
use Rattle.std.specs.Str.Parse.{AllDigits, ParsesUnsigned, digits_value}
use Rattle.std.proofs.lemmas.Str.Parse.{parse_plain}
use Rattle.g1_command.specs.Values.{IsBelow, IsNumber}
use Rattle.g1_words.proofs.Numerals.{by_value}

-- what is read of a text without a plus is the number that its digits say, and nothing is read of another
pub read_digits : {E : Type 0} (bs : List ℕ) (r : Result ℕ E) (o : Option ℕ) → ParsesUnsigned 64 10 bs r → get_or bs 0 0 ≢ 43 → o ≡ result_ok r
    → MatchOption o (IsBelow (2 ^ 64) bs → ⊥) (λ n. IsNumber n bs)
read_digits bs r o h plain e = subst (λ p. MatchOption p (IsBelow (2 ^ 64) bs → ⊥) (λ n. IsNumber n bs)) (sym e) (by r (parse_plain by_value 64 bs r h plain))
  where
    by : {E : Type 0} (r : Result ℕ E) → OkIff r (AllDigits 10 bs × (0 < length bs) × (digits_value 10 bs < 2 ^ 64)) (digits_value 10 bs)
        → MatchOption (result_ok r) (IsBelow (2 ^ 64) bs → ⊥) (λ n. IsNumber n bs)
    by (Ok n) k = ((k.0.1, k.0.0), sym k.1, subst (λ m. m < 2 ^ 64) (sym k.1) k.0.2)
    by (Err x) k = λ b. k (b.1.0.1, b.1.0.0, subst (λ m. m < 2 ^ 64) (sym b.1.1) b.1.2)
