-- Which bytes write a number in decimal digits, without a leading zero.
use Rattle.std.proofs.Common.{◌≡◌, ℕ, zero, suc, ◌+◌, ◌-◌, ◌*◌, ◌^◌, ◌<◌, ◌≤◌, List, [], ◌∷◌, ◌++◌, length, get_or, take, drop, refl, sym, ◌∙◌, ap, subst, arith, rules, inl, inr, append_assoc, take-append-drop}
use Rattle.std.specs.Fmt.{decimal}
use Rattle.std.specs.Int.{IsInRange}
use Rattle.std.proofs.lemmas.Bool.{cases_lt}
use Rattle.std.proofs.lemmas.Fmt.{decimal_nonempty, first_decimal, decimal_digit, digits_decimal, digits_value-decimal, decimal-digits_value}
use Rattle.std.proofs.lemmas.Str.Parse.{IsNumeralModel, tells_by_index, numerals_by_fold}
use Rattle.g1_trace.specs.Lines.{AreDigits, IsLineEnd, IsNumberEnd, read_on}
use Rattle.g1_trace.specs.TraceText.{spaced, AllFit}
use Rattle.g1_trace.proofs.Words.{IsWordEnd, get_take}

own : IsNumeralModel AreDigits (read_on 0)
own = numerals_by_fold AreDigits tells_by_index read_on (search rules)

pub read_append : (n : ℕ) (xs ys : List ℕ) → read_on n (xs ++ ys) ≡ read_on (read_on n xs) ys
read_append n [] ys = refl
read_append n (x ∷ xs) ys = read_append (10 * n + (x - 48)) xs ys

pub read_grows : (n : ℕ) (xs : List ℕ) → n ≤ read_on n xs
read_grows n [] = omega arith
read_grows n (x ∷ xs) = let k = read_grows (10 * n + (x - 48)) xs in omega (arith, k)

take_more : (xs : List ℕ) (i : ℕ) → i < length xs → take (i + 1) xs ≡ take i xs ++ get_or xs i 0 ∷ []
take_more [] i lt = absurd (omega (arith, lt))
take_more (x ∷ xs) zero lt = refl
take_more (x ∷ xs) (suc i) lt = let e : suc i + 1 ≡ suc (i + 1) = omega arith in ap (λ n. take n (x ∷ xs)) e ∙ ap (λ ys. x ∷ ys) (take_more xs i (omega (arith, lt)))

take_length : (i : ℕ) (xs : List ℕ) → i ≤ length xs → length (take i xs) ≡ i
take_length zero xs le = refl
take_length (suc i) [] le = absurd (omega (arith, le))
take_length (suc i) (x ∷ xs) le = ap suc (take_length i xs (omega (arith, le)))

-- one digit more
pub read_more : (xs : List ℕ) (i : ℕ) → i < length xs → read_on 0 (take (i + 1) xs) ≡ 10 * read_on 0 (take i xs) + (get_or xs i 0 - 48)
read_more xs i lt = ap (read_on 0) (take_more xs i lt) ∙ read_append 0 (take i xs) (get_or xs i 0 ∷ [])

-- a beginning is no greater number
read_part : (xs : List ℕ) (i : ℕ) → read_on 0 (take i xs) ≤ read_on 0 xs
read_part xs i = let e = ap (read_on 0) (take-append-drop i xs) in let f = read_append 0 (take i xs) (drop i xs) in let k = read_grows (read_on 0 (take i xs)) (drop i xs) in omega (arith, e, f, k)

-- the first bytes are digits
abbrev pub BeginDigits : List ℕ → ℕ → Type 0
BeginDigits xs n = (k : ℕ) → k < n → IsInRange 48 57 (get_or xs k 0)

digits_tail : (d : ℕ) (ds : List ℕ) → AreDigits (d ∷ ds) → AreDigits ds
digits_tail d ds a k lt = a (suc k) (omega (arith, lt))

-- bytes begin with one row of digits
digits_split : (a b xs ys : List ℕ) → AreDigits a → AreDigits b → IsNumberEnd xs → IsNumberEnd ys → a ++ xs ≡ b ++ ys → (a ≡ b) × (xs ≡ ys)
digits_split [] [] xs ys n m p q e = (refl, e)
digits_split [] (b ∷ bs) [] ys n m p q e = let l = ap length e in absurd (omega (arith, l))
digits_split [] (b ∷ bs) (x ∷ xs) ys n m p q e = let f : b ≡ x = sym (ap (λ zs. get_or zs 0 0) e) in absurd (p (subst (IsInRange 48 57) f (m 0 (omega arith))))
digits_split (a ∷ at) [] xs [] n m p q e = let l = ap length e in absurd (omega (arith, l))
digits_split (a ∷ at) [] xs (y ∷ ys) n m p q e = let f : a ≡ y = ap (λ zs. get_or zs 0 0) e in absurd (q (subst (IsInRange 48 57) f (n 0 (omega arith))))
digits_split (a ∷ at) (b ∷ bs) xs ys n m p q e =
    let first : a ≡ b = ap (λ zs. get_or zs 0 0) e in
    let rest = digits_split at bs xs ys (digits_tail a at n) (digits_tail b bs m) p q (ap (drop 1) e) in
    ((λ t. first t ∷ rest.0 t), rest.1)

-- digits that bytes begin with are digits of the number that they begin with
digits_part : (n : ℕ) (xs ds more : List ℕ) → n ≤ length xs → BeginDigits xs n → IsNumberEnd more → xs ≡ ds ++ more → take n xs ≡ take n ds
digits_part zero xs ds more le f end e = refl
digits_part (suc n) [] ds more le f end e = absurd (omega (arith, le))
digits_part (suc n) (x ∷ xs) [] [] le f end e = let l = ap length e in absurd (omega (arith, l))
digits_part (suc n) (x ∷ xs) [] (m ∷ more) le f end e =
    let s : x ≡ m = ap (λ zs. get_or zs 0 0) e in
    absurd (end (subst (IsInRange 48 57) s (f 0 (omega arith))))
digits_part (suc n) (x ∷ xs) (d ∷ ds) more le f end e =
    let first : x ≡ d = ap (λ zs. get_or zs 0 0) e in
    let rest = digits_part n xs ds more (omega (arith, le)) (λ k lt. f (suc k) (omega (arith, lt))) end (ap (drop 1) e) in
    (λ t. first t ∷ rest t)

-- the bytes begin with no number of 64 bits
abbrev pub BeginsNone : List ℕ → Type 0
BeginsNone bytes = (x : ℕ) (more : List ℕ) → x < 2 ^ 64 → IsNumberEnd more → bytes ≡ decimal x ++ more → ⊥

pub none_large : (bytes : List ℕ) (n : ℕ) → n ≤ length bytes → BeginDigits bytes n → 2 ^ 64 ≤ read_on 0 (take n bytes) → BeginsNone bytes
none_large bytes n le f large x more small end q =
    let t = ap (read_on 0) (digits_part n bytes (decimal x) more le f end q) in
    let v : read_on 0 (decimal x) ≡ x = digits_value-decimal own x small in
    let p = read_part (decimal x) n in
    absurd (omega (arith, t, v, p, large, small))

-- the digits that bytes begin with are those of the number that they begin with
digits_are : (n : ℕ) (bytes more : List ℕ) (x : ℕ) → AreDigits (take n bytes) → IsNumberEnd (drop n bytes) → x < 2 ^ 64 → IsNumberEnd more → bytes ≡ decimal x ++ more → take n bytes ≡ decimal x
digits_are n bytes more x d e small end q = (digits_split (take n bytes) (decimal x) (drop n bytes) more d (digits_decimal own x small) e end (take-append-drop n bytes ∙ q)).0

pub none_empty : (n : ℕ) (bytes : List ℕ) → n ≡ 0 → AreDigits (take n bytes) → IsNumberEnd (drop n bytes) → BeginsNone bytes
none_empty n bytes z d e x more small end q =
    let s : take n bytes ≡ decimal x = digits_are n bytes more x d e small end q in
    let l : length (take 0 bytes) ≡ length (decimal x) = ap (λ i. length (take i bytes)) (sym z) ∙ ap length s in
    let some = decimal_nonempty x small in absurd (omega (arith, some, l))

pub none_zero : (n : ℕ) (bytes : List ℕ) → get_or bytes 0 0 ≡ 48 → 1 < n → n ≤ length bytes → AreDigits (take n bytes) → IsNumberEnd (drop n bytes) → BeginsNone bytes
none_zero n bytes z more le d e x rest small end q =
    let s : take n bytes ≡ decimal x = digits_are n bytes rest x d e small end q in
    let l = take_length n bytes le in
    let f : get_or (take n bytes) 0 0 ≡ 48 = (get_take n 0 bytes (omega (arith, l, more))).0 ∙ z in
    elim (cases_lt 0 x) [
      | inl some ↦ (let g = first_decimal x some small in let h = ap (λ ds. get_or ds 0 0) s in absurd (omega (arith, f, g, h)))
      | inr ge ↦ (
          let zero_is : x ≡ 0 = omega (arith, ge) in let h = ap length (s ∙ ap decimal zero_is ∙ decimal_digit 0 (omega arith)) in absurd (omega (arith, h, l, more)))
    ]

pub some_number : (n : ℕ) (bytes rest : List ℕ) (value : ℕ) → rest ≡ drop n bytes → 0 < n → n ≤ length bytes → (get_or bytes 0 0 ≡ 48 → n ≤ 1) → AreDigits (take n bytes) →
    value ≡ read_on 0 (take n bytes) → value < 2 ^ 64 → bytes ≡ decimal value ++ rest
some_number n bytes rest value back some le lead digits e small =
    let l = take_length n bytes le in
    let first : get_or (take n bytes) 0 0 ≡ get_or bytes 0 0 = (get_take n 0 bytes (omega (arith, l, some))).0 in
    let one : get_or (take n bytes) 0 0 ≡ 48 → length (take n bytes) ≡ 1 = λ z. (let k = lead (sym first ∙ z) in omega (arith, k, l, some)) in
    let word : take n bytes ≡ decimal value =
    sym (ap decimal e ∙ decimal-digits_value own (take n bytes) digits (omega (arith, l, some)) one (omega (arith, e, small))) in
    sym (take-append-drop n bytes) ∙ ap (λ ds. ds ++ drop n bytes) word ∙ ap (λ xs. decimal value ++ xs) (sym back)

-- a number and what follows it are told by the bytes
pub one_number : (bytes rest more : List ℕ) (x y : ℕ) → x < 2 ^ 64 → y < 2 ^ 64 → IsNumberEnd rest → IsNumberEnd more
    → bytes ≡ 32 ∷ (decimal x ++ rest) → bytes ≡ 32 ∷ (decimal y ++ more) → rest ≡ more
one_number bytes rest more x y fx fy p q e f =
    (digits_split (decimal x) (decimal y) rest more (digits_decimal own x fx) (digits_decimal own y fy) p q (ap (drop 1) (sym e ∙ f))).1

-- the list fits, head and rest
pub fit_head : (x : ℕ) (xs : List ℕ) → AllFit (x ∷ xs) → x < 2 ^ 64
fit_head x xs f = f 0 0 (omega arith)

pub fit_rest : (x : ℕ) (xs : List ℕ) → AllFit (x ∷ xs) → AllFit xs
fit_rest x xs f k d lt = f (suc k) d (omega (arith, lt))

pub fit_cons : (x : ℕ) (xs : List ℕ) → x < 2 ^ 64 → AllFit xs → AllFit (x ∷ xs)
fit_cons x xs h f zero d lt = h
fit_cons x xs h f (suc k) d lt = f k d (omega (arith, lt))

pub fit_none : AllFit []
fit_none k d lt = absurd (omega (arith, lt))

pub spaced_end : (xs : List ℕ) → IsWordEnd (spaced xs)
spaced_end [] = tt
spaced_end (x ∷ xs) = refl

pub spaced_more : (xs more : List ℕ) → IsLineEnd more → IsNumberEnd (spaced xs ++ more)
spaced_more [] [] end = tt
spaced_more [] (b ∷ bs) end = λ d. absurd (omega (arith, d.0, end))
spaced_more (x ∷ xs) more end = λ d. absurd (omega (arith, d.0))

pub spaced_number : (xs : List ℕ) → IsNumberEnd (spaced xs)
spaced_number [] = tt
spaced_number (x ∷ xs) = λ d. absurd (omega (arith, d.0))

-- a number and what follows it, both told by the bytes
pub decimal_one : (x y : ℕ) (rest more : List ℕ) → x < 2 ^ 64 → y < 2 ^ 64 → IsNumberEnd rest → IsNumberEnd more → decimal x ++ rest ≡ decimal y ++ more → (x ≡ y) × (rest ≡ more)
decimal_one x y rest more fx fy p q e =
    let s = digits_split (decimal x) (decimal y) rest more (digits_decimal own x fx) (digits_decimal own y fy) p q e in
    (sym (digits_value-decimal own x fx) ∙ ap (read_on 0) s.0 ∙ digits_value-decimal own y fy, s.1)

-- what numbers write tells them
pub spaced_one : (xs ys : List ℕ) → AllFit xs → AllFit ys → spaced xs ≡ spaced ys → xs ≡ ys
spaced_one [] [] f g e = refl
spaced_one [] (y ∷ ys) f g e = let l = ap length e in absurd (omega (arith, l))
spaced_one (x ∷ xs) [] f g e = let l = ap length e in absurd (omega (arith, l))
spaced_one (x ∷ xs) (y ∷ ys) f g e =
    let fx = fit_head x xs f in
    let fy = fit_head y ys g in
    let d = decimal_one x y (spaced xs) (spaced ys) fx fy (spaced_number xs) (spaced_number ys) (ap (drop 1) e) in
    let rest = spaced_one xs ys (fit_rest x xs f) (fit_rest y ys g) d.1 in
    (λ t. d.0 t ∷ rest t)

-- and where a line ends after them, what follows is told too
pub spaced_one_more : (xs ys more left : List ℕ) → AllFit xs → AllFit ys → IsLineEnd more → IsLineEnd left → spaced xs ++ more ≡ spaced ys ++ left → (xs ≡ ys) × (more ≡ left)
spaced_one_more [] [] more left f g p q e = (refl, e)
spaced_one_more [] (y ∷ ys) [] left f g p q e = let l = ap length e in absurd (omega (arith, l))
spaced_one_more [] (y ∷ ys) (m ∷ more) left f g p q e = let s : m ≡ 32 = ap (λ zs. get_or zs 0 0) e in absurd (omega (arith, s, p))
spaced_one_more (x ∷ xs) [] more [] f g p q e = let l = ap length e in absurd (omega (arith, l))
spaced_one_more (x ∷ xs) [] more (m ∷ left) f g p q e = let s : 32 ≡ m = ap (λ zs. get_or zs 0 0) e in absurd (omega (arith, s, q))
spaced_one_more (x ∷ xs) (y ∷ ys) more left f g p q e =
    let fx = fit_head x xs f in
    let fy = fit_head y ys g in
    let tail = sym (append_assoc (decimal x) (spaced xs) more) ∙ ap (drop 1) e ∙ append_assoc (decimal y) (spaced ys) left in
    let d = decimal_one x y (spaced xs ++ more) (spaced ys ++ left) fx fy (spaced_more xs more p) (spaced_more ys left q) tail in
    let rest = spaced_one_more xs ys more left (fit_rest x xs f) (fit_rest y ys g) p q d.1 in
    ((λ t. d.0 t ∷ rest.0 t), rest.1)

-- no byte of the list ends a line
abbrev pub Clean : List ℕ → Type 0
Clean [] = Unit {0}
Clean (x ∷ xs) = (x ≡ 10 → ⊥) × Clean xs

pub clean_append : (xs ys : List ℕ) → Clean xs → Clean ys → Clean (xs ++ ys)
clean_append [] ys p q = q
clean_append (x ∷ xs) ys p q = (p.0, clean_append xs ys p.1 q)

clean_by : (xs : List ℕ) → AreDigits xs → Clean xs
clean_by [] d = tt
clean_by (x ∷ xs) d = ((λ e. let r = (d 0 (omega arith)).0 in absurd (omega (arith, r, e))), clean_by xs (λ k lt. d (suc k) (omega (arith, lt))))

pub decimal_clean : (x : ℕ) → x < 2 ^ 64 → Clean (decimal x)
decimal_clean x small = clean_by (decimal x) (digits_decimal own x small)
