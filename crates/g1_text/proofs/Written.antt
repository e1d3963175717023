-- Data words that are read.
use Rattle.std.proofs.Common.{◌≡◌, ℕ, List, sym, ◌∙◌, ap}
use Rattle.std.specs.Prelude.{Option, Some, Result, Ok, Err}
use Rattle.std.specs.Result.{result_ok}
use Rattle.std.specs.Option.{is_some}
use Rattle.std.specs.Float.Parse.{IsParseFloatResult, parse_float}
use Rattle.std.proofs.lemmas.Bool.{false≢true}
use lib.Ieee.{Float, binary64}

-- what is read is the number that the text writes
pub floated : {E : Type 0} (bs : List ℕ) (r : Result Float E) (o : Option Float) (x : Float) → IsParseFloatResult binary64 bs r → o ≡ result_ok r → o ≡ Some x → parse_float binary64 bs ≡ Some x
floated bs (Ok y) o x m e f = m ∙ (sym e ∙ f)
floated bs (Err y) o x m e f = absurd (false≢true (ap is_some (sym e ∙ f)))
