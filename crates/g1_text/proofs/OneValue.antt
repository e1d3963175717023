-- A word stands for at most one number.
use Rattle.std.proofs.Common.{◌≡◌, ◌≤◌, ◌<◌, ◌-◌, ◌%◌, ◌^◌, inl, inr, ℕ, List, [], ◌∷◌, ◌++◌, length, get_or, drop, refl, sym, ◌∙◌, ap, subst, arith}
use Rattle.std.specs.Prelude.{Option, Some, None, to_bits}
use Rattle.std.specs.Char.{digit_value}
use Rattle.std.specs.Str.Parse.{AllDigits, digits_value}
use Rattle.std.specs.Float.Parse.{parse_float, read_float}
use Rattle.std.specs.Float.Numeral.{scan_numeral}
use Rattle.std.proofs.lemmas.List.{length_push}
use lib.Ieee.{Float, binary64}
use Rattle.g1_text.specs.Forms.{Spells, Negates, HasHexDigits, HasPoint, Quotes, hash_of}
use Rattle.g1_text.specs.Laws.{OneValue}
use Rattle.g1_text.proofs.Fields.{fronts_one}

-- the first byte of a word, and what is behind it
first : {a b : ℕ} {xs ys : List ℕ} → a ∷ xs ≡ b ∷ ys → a ≡ b
first e = ap (λ w. get_or w 0 0) e

behind : {a b : ℕ} {xs ys : List ℕ} → a ∷ xs ≡ b ∷ ys → xs ≡ ys
behind e = ap (drop 1) e

-- TWO WORDS OF ONE FORM
pub spells_one : (bound m n : ℕ) (word : List ℕ) → Spells bound m word → Spells bound n word → m ≡ n
spells_one bound m n word p q = sym p.1 ∙ q.1

negates_one : (m n : ℕ) (word : List ℕ) → Negates m word → Negates n word → m ≡ n
negates_one m n word p q =
    let same : p.0 ≡ q.0 = behind (sym p.2 ∙ q.2) in
    let size : p.1 ≡ q.1 = sym p.3.1 ∙ ap (digits_value 10) same ∙ q.3.1 in
    p.4 ∙ ap (λ k. (2 ^ 64 - k) % 2 ^ 64) size ∙ sym q.4

hex_one : (m n : ℕ) (word : List ℕ) → HasHexDigits m word → HasHexDigits n word → m ≡ n
hex_one m n word p q = sym p.3 ∙ ap (digits_value 16) (behind (behind (sym p.1 ∙ q.1))) ∙ q.3

quotes_one : (m n : ℕ) (word : List ℕ) → Quotes m word → Quotes n word → m ≡ n
quotes_one m n word p q =
    let same : p.0 ++ 34 ∷ [] ≡ q.0 ++ 34 ∷ [] = behind (sym p.1 ∙ q.1) in
    let whole = ap length same in
    let count : length p.0 ≡ length q.0 = omega (arith, whole, length_push p.0 34, length_push q.0 34) in
    p.2 ∙ ap hash_of (fronts_one p.0 q.0 (34 ∷ []) (34 ∷ []) count same).0 ∙ sym q.2

float_or : Float → Option Float → Float
float_or x None = x
float_or x (Some y) = y

point_one : (m n : ℕ) (word : List ℕ) → HasPoint m word → HasPoint n word → m ≡ n
unfolding float_or
point_one m n word p q = p.6 ∙ ap (λ o. to_bits binary64 (float_or p.2 o)) (sym p.4 ∙ q.4) ∙ sym q.6

-- A WORD HAS ONE FORM: digits alone begin neither with a minus nor with a quote, and no `x` and no point is among them
no_digits : (n c : ℕ) (word rest : List ℕ) → 10 ≤ digit_value c → Spells (2 ^ 64) n word → word ≡ c ∷ rest → ⊥
no_digits n c word rest le p e = let d = (subst (AllDigits 10) e p.0.1).0 in absurd (omega (arith, d, le))

no_x : (n : ℕ) (word rest : List ℕ) → Spells (2 ^ 64) n word → word ≡ 48 ∷ 120 ∷ rest → ⊥
no_x n word rest p e = let d = (subst (AllDigits 10) e p.0.1).1.0 in absurd (omega (arith, d))

no_point : (radix : ℕ) (front back : List ℕ) → radix ≤ 36 → AllDigits radix (front ++ 46 ∷ back) → ⊥
no_point radix [] back le all = let d = all.0 in absurd (omega (arith, d, le))
no_point radix (c ∷ front) back le all = no_point radix front back le all.1

spelled_or_point : (m n : ℕ) (word : List ℕ) → Spells (2 ^ 64) m word → HasPoint n word → ⊥
spelled_or_point m n word p q = no_point 10 q.0 q.1 (omega arith) (subst (AllDigits 10) q.3 p.0.1)

negative_or_point : (m n : ℕ) (word : List ℕ) → Negates m word → HasPoint n word → ⊥
negative_or_point m n word p q = at q.0 (sym p.2 ∙ q.3)
  where
    at : (front : List ℕ) → 45 ∷ p.0 ≡ front ++ 46 ∷ q.1 → ⊥
    at [] e = let d = first e in absurd (omega (arith, d))
    at (c ∷ front) e = no_point 10 front q.1 (omega arith) (subst (AllDigits 10) (behind e) p.3.0.1)

hex_or_point : (m n : ℕ) (word : List ℕ) → HasHexDigits m word → HasPoint n word → ⊥
hex_or_point m n word p q = at q.0 (sym p.1 ∙ q.3)
  where
    at : (front : List ℕ) → 48 ∷ 120 ∷ p.0 ≡ front ++ 46 ∷ q.1 → ⊥
    at [] e = let d = first e in absurd (omega (arith, d))
    at (c ∷ []) e = let d = first (behind e) in absurd (omega (arith, d))
    at (c ∷ d ∷ front) e = no_point 16 front q.1 (omega arith) (subst (AllDigits 16) (behind (behind e)) p.2.1)

-- a quote begins no number
quote_unread : (rest : List ℕ) → parse_float binary64 (34 ∷ rest) ≡ None
unfolding read_float scan_numeral
quote_unread rest = refl

quoted_or_point : (m n : ℕ) (word : List ℕ) → Quotes m word → HasPoint n word → ⊥
quoted_or_point m n word p q = let e = sym (quote_unread (p.0 ++ 34 ∷ [])) ∙ ap (parse_float binary64) (sym p.1) ∙ q.4 in cc

-- words that begin with two bytes
begin_apart : (b c : ℕ) (word xs ys : List ℕ) → b < c → word ≡ b ∷ xs → word ≡ c ∷ ys → ⊥
begin_apart b c word xs ys lt p q = let e = first (sym p ∙ q) in absurd (omega (arith, e, lt))

-- A WORD STANDS for at most one number
pub one_value : OneValue
one_value m n word (inl p) (inl q) = spells_one (2 ^ 64) m n word p q
one_value m n word (inl p) (inr (inl q)) = absurd (no_digits m 45 word q.0 (omega arith) p q.2)
one_value m n word (inl p) (inr (inr (inl q))) = absurd (no_x m word q.0 p q.1)
one_value m n word (inl p) (inr (inr (inr (inl q)))) = absurd (no_digits m 34 word (q.0 ++ 34 ∷ []) (omega arith) p q.1)
one_value m n word (inl p) (inr (inr (inr (inr q)))) = absurd (spelled_or_point m n word p q)
one_value m n word (inr (inl p)) (inl q) = absurd (no_digits n 45 word p.0 (omega arith) q p.2)
one_value m n word (inr (inl p)) (inr (inl q)) = negates_one m n word p q
one_value m n word (inr (inl p)) (inr (inr (inl q))) = absurd (begin_apart 45 48 word p.0 (120 ∷ q.0) (omega arith) p.2 q.1)
one_value m n word (inr (inl p)) (inr (inr (inr (inl q)))) = absurd (begin_apart 34 45 word (q.0 ++ 34 ∷ []) p.0 (omega arith) q.1 p.2)
one_value m n word (inr (inl p)) (inr (inr (inr (inr q)))) = absurd (negative_or_point m n word p q)
one_value m n word (inr (inr (inl p))) (inl q) = absurd (no_x n word p.0 q p.1)
one_value m n word (inr (inr (inl p))) (inr (inl q)) = absurd (begin_apart 45 48 word q.0 (120 ∷ p.0) (omega arith) q.2 p.1)
one_value m n word (inr (inr (inl p))) (inr (inr (inl q))) = hex_one m n word p q
one_value m n word (inr (inr (inl p))) (inr (inr (inr (inl q)))) = absurd (begin_apart 34 48 word (q.0 ++ 34 ∷ []) (120 ∷ p.0) (omega arith) q.1 p.1)
one_value m n word (inr (inr (inl p))) (inr (inr (inr (inr q)))) = absurd (hex_or_point m n word p q)
one_value m n word (inr (inr (inr (inl p)))) (inl q) = absurd (no_digits n 34 word (p.0 ++ 34 ∷ []) (omega arith) q p.1)
one_value m n word (inr (inr (inr (inl p)))) (inr (inl q)) = absurd (begin_apart 34 45 word (p.0 ++ 34 ∷ []) q.0 (omega arith) p.1 q.2)
one_value m n word (inr (inr (inr (inl p)))) (inr (inr (inl q))) = absurd (begin_apart 34 48 word (p.0 ++ 34 ∷ []) (120 ∷ q.0) (omega arith) p.1 q.1)
one_value m n word (inr (inr (inr (inl p)))) (inr (inr (inr (inl q)))) = quotes_one m n word p q
one_value m n word (inr (inr (inr (inl p)))) (inr (inr (inr (inr q)))) = absurd (quoted_or_point m n word p q)
one_value m n word (inr (inr (inr (inr p)))) (inl q) = absurd (spelled_or_point n m word q p)
one_value m n word (inr (inr (inr (inr p)))) (inr (inl q)) = absurd (negative_or_point n m word q p)
one_value m n word (inr (inr (inr (inr p)))) (inr (inr (inl q))) = absurd (hex_or_point n m word q p)
one_value m n word (inr (inr (inr (inr p)))) (inr (inr (inr (inl q)))) = absurd (quoted_or_point n m word q p)
one_value m n word (inr (inr (inr (inr p)))) (inr (inr (inr (inr q)))) = point_one m n word p q
