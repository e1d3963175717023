-- Words that are no data words.
use Rattle.std.proofs.Common.{◌≡◌, ◌≢◌, inl, inr, ℕ, ◌+◌, ◌<◌, ◌^◌, List, [], ◌∷◌, ◌++◌, true, length, length-append, get_or, drop, refl, sym, ◌∙◌, ap, subst, arith}
use Rattle.std.specs.Prelude.{Option, Some, None, MatchOption, Result, Ok, Err, is_nan}
use Rattle.std.specs.Result.{OkIff, result_ok}
use Rattle.std.specs.Str.Parse.{IsNumeral, ParsesUnsigned, digits_value}
use Rattle.std.proofs.lemmas.Str.Parse.{without_leading_plus_none}
use Rattle.std.specs.Float.Parse.{IsParseFloatResult, parse_float}
use Rattle.std.proofs.lemmas.Bool.{false≢true}
use lib.Ieee.{Float, binary64}
use Rattle.std.specs.Option.{is_some}
use Rattle.std.specs.Char.{digit_value}
use Rattle.g1_text.proofs.Turns.{some_one}
use Rattle.g1_text.specs.Forms.{Spells, IsBelow, Negates, HasHexDigits, HasPoint, Quotes, IsDataWord}

-- what is behind a minus is a number from 2^63 down
pub behind_minus : (n : ℕ) (word rest : List ℕ) → Negates n word → word ≡ 45 ∷ rest → (m : ℕ) × Spells (2 ^ 63 + 1) m rest
behind_minus n word rest h e = (h.1, subst (Spells (2 ^ 63 + 1) h.1) (ap (drop 1) (sym h.2 ∙ e)) h.3)

pub minus_below : (n : ℕ) (word rest : List ℕ) → Negates n word → word ≡ 45 ∷ rest → IsBelow (2 ^ 64) rest
minus_below n word rest h e = let s = behind_minus n word rest h e in let small = s.1.2 in (s.0, (s.1.0, s.1.1, omega (arith, small)))

pub minus_small : (n m : ℕ) (word rest : List ℕ) → Negates n word → word ≡ 45 ∷ rest → Spells (2 ^ 64) m rest → m < 2 ^ 63 + 1
minus_small n m word rest h e s = let t = behind_minus n word rest h e in let small = t.1.2 in let same : m ≡ t.0 = sym s.1 ∙ t.1.1 in omega (arith, small, same)

-- hexadecimal digits that are read, and other words
pub hex_read : {E : Type 0} (bs word : List ℕ) (r : Result ℕ E) → ParsesUnsigned 64 16 bs r → get_or bs 0 0 ≢ 43 → word ≡ 48 ∷ 120 ∷ bs
    → MatchOption (result_ok r) ((n : ℕ) → HasHexDigits n word → ⊥) (λ n. HasHexDigits n word)
hex_read bs word r h plain e =
    by r (subst (λ l. OkIff r (IsNumeral 16 l × (digits_value 16 l < 2 ^ 64)) (digits_value 16 l)) (without_leading_plus_none bs plain) h)
  where
    by : {E : Type 0} (r : Result ℕ E) → OkIff r (IsNumeral 16 bs × (digits_value 16 bs < 2 ^ 64)) (digits_value 16 bs)
        → MatchOption (result_ok r) ((n : ℕ) → HasHexDigits n word → ⊥) (λ n. HasHexDigits n word)
    by (Ok n) k = (bs, e, k.0.0, sym k.1, subst (λ m. m < 2 ^ 64) (sym k.1) k.0.1)
    by (Err x) k = λ n d.
        let same : d.0 ≡ bs = ap (drop 2) (sym d.1 ∙ e) in
        k (subst (IsNumeral 16) same d.2, subst (λ m. m < 2 ^ 64) (sym d.3 ∙ ap (digits_value 16) same) d.4)

-- hexadecimal digits do not begin with a plus
pub no_plus : (n : ℕ) (word bs : List ℕ) → word ≡ 48 ∷ 120 ∷ bs → get_or bs 0 0 ≡ 43 → HasHexDigits n word → ⊥
no_plus n word bs e plus d = at bs (subst (IsNumeral 16) (ap (drop 2) (sym d.1 ∙ e)) d.2) plus
  where
    no_digit : (b : ℕ) → 43 ≡ b → digit_value b < 16 → ⊥
    no_digit b e = subst (λ x. digit_value x < 16 → ⊥) e (λ q. absurd (omega (arith, q)))

    at : (bs : List ℕ) → IsNumeral 16 bs → get_or bs 0 0 ≡ 43 → ⊥
    at [] p e = let some = p.0 in absurd (omega (arith, some))
    at (b ∷ bs) p e = no_digit b (sym e) p.1.0

-- a number with a point has one, and is the number that is read
at_point : (front back : List ℕ) → get_or (front ++ 46 ∷ back) (length front) 0 ≡ 46
at_point [] back = refl
at_point (b ∷ front) back = at_point front back

pub no_point : (bs : List ℕ) → ((i : ℕ) → i < length bs → get_or bs i 0 ≡ 46 → ⊥) → (n : ℕ) → HasPoint n bs → ⊥
no_point bs none n h =
    let count = ap length h.3 in
    let parts = length-append h.0 (46 ∷ h.1) in
    none (length h.0) (omega (arith, count, parts)) (ap (λ l. get_or l (length h.0) 0) h.3 ∙ at_point h.0 h.1)

pub not_floated : {E : Type 0} (bs : List ℕ) (r : Result Float E) (o : Option Float) → IsParseFloatResult binary64 bs r → o ≡ result_ok r → o ≡ None → (n : ℕ) → HasPoint n bs → ⊥
not_floated bs (Ok y) o m e f n h = false≢true (ap is_some (sym f ∙ e))
not_floated bs (Err y) o m e f n h = false≢true (ap is_some (sym m ∙ h.4))

pub not_nan : (bs : List ℕ) (y : Float) → parse_float binary64 bs ≡ Some y → is_nan y ≡ true → (n : ℕ) → HasPoint n bs → ⊥
not_nan bs y read nan n h = false≢true (sym h.5 ∙ ap is_nan (some_one (sym h.4 ∙ read)) ∙ nan)

-- no word of any form
pub no_form : (word : List ℕ) → (IsBelow (2 ^ 64) word → ⊥) → ((n : ℕ) → Negates n word → ⊥) → ((n : ℕ) → HasHexDigits n word → ⊥) → ((n : ℕ) → Quotes n word → ⊥) → ((n : ℕ) → HasPoint n word → ⊥)
    → IsDataWord word → ⊥
no_form word a b c d e (n, inl s) = a (n, s)
no_form word a b c d e (n, inr (inl s)) = b n s
no_form word a b c d e (n, inr (inr (inl s))) = c n s
no_form word a b c d e (n, inr (inr (inr (inl s)))) = d n s
no_form word a b c d e (n, inr (inr (inr (inr s)))) = e n s
