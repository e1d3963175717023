-- Numbers in decimal digits.
use Rattle.std.proofs.Common.{◌≢◌, ℕ, List, get_or, arith}
use Rattle.std.specs.Str.Parse.{AllDigits, IsNumeral, digits_value}
use Rattle.std.proofs.lemmas.Str.Parse.{IsNumeralModel, numerals_by_value, tells_digits, not_in_digits}

pub by_value : IsNumeralModel (AllDigits 10) (digits_value 10)
by_value = numerals_by_value (AllDigits 10) tells_digits

-- digits have no plus among them
pub unsigned : (bs : List ℕ) → IsNumeral 10 bs → get_or bs 0 0 ≢ 43
unsigned bs h f = not_in_digits by_value bs 43 h.1 (λ q. let low = q.0 in absurd (omega (arith, low))) 0 h.0 f
