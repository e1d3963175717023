-- What the words of a line say: numbers, references, kinds.
use Rattle.std.proofs.Common.{◌≡◌, ℕ, zero, suc, ◌+◌, ◌<◌, ◌≤◌, ◌^◌, Bool, true, false, List, [], ◌∷◌, ◌++◌, length, get_or, drop, map, refl, sym, ◌∙◌, ap, arith, eqb, cond}
use Rattle.std.specs.Prelude.{Option, Some, None, IfSome, decimal}
use Rattle.std.specs.List.{range_with_len}
use Rattle.std.proofs.lemmas.Fmt.{decimal_injective, decimal_nonempty, digits_decimal}
use Rattle.g1_words.specs.Kind.{kind_word}
use Rattle.g1_words.specs.declared.region.Kind.{Kind}
use Rattle.g1_words.specs.declared.region.Kind.TheVariants.{Free, Ordinary, HumongousFirst, Continuation}
use Rattle.g1_text.specs.Lines.{reference_word, current_word, pinned_words, log_lines, remembered_lines}
use Rattle.g1_text.proofs.Splitting.{Small, AreDigits, own}

-- the word of a line at a place
abbrev pub word_at : ℕ → List (List ℕ) → List ℕ
word_at k l = get_or l k []

pub first_digit : (x : ℕ) → x < 2 ^ 64 → (48 ≤ get_or (decimal x) 0 0) × (get_or (decimal x) 0 0 ≤ 57)
first_digit x small = let d = digits_decimal own x small 0 (decimal_nonempty x small) in (d.0, omega (arith, d.1))

pub reference_one : (x y : ℕ) → x < 2 ^ 64 → y < 2 ^ 64 → reference_word x ≡ reference_word y → x ≡ y
reference_one zero zero fx fy e = refl
reference_one zero (suc b) fx fy e = let d = first_digit b (omega (arith, fy)) in let f : 45 ≡ get_or (decimal b) 0 0 = ap (λ bs. get_or bs 0 0) e in absurd (omega (arith, d.0, f))
reference_one (suc a) zero fx fy e = let d = first_digit a (omega (arith, fx)) in let f : get_or (decimal a) 0 0 ≡ 45 = ap (λ bs. get_or bs 0 0) e in absurd (omega (arith, d.0, f))
reference_one (suc a) (suc b) fx fy e = ap suc (decimal_injective a b (omega (arith, fx)) (omega (arith, fy)) e)

pub current_one : (c d : Option ℕ) → IfSome c (λ r. r < 2 ^ 64) → IfSome d (λ r. r < 2 ^ 64) → current_word c ≡ current_word d → c ≡ d
current_one None None fc fd e = refl
current_one None (Some r) fc fd e = let d = first_digit r fd in let f : 110 ≡ get_or (decimal r) 0 0 = ap (λ bs. get_or bs 0 0) e in absurd (omega (arith, d.1, f))
current_one (Some q) None fc fd e = let d = first_digit q fc in let f : get_or (decimal q) 0 0 ≡ 110 = ap (λ bs. get_or bs 0 0) e in absurd (omega (arith, d.1, f))
current_one (Some q) (Some r) fc fd e = ap Some (decimal_injective q r fc fd e)

-- the kind that a word's length tells
abbrev kind_by : ℕ → Kind
kind_by n = cond (eqb n 4) Free (cond (eqb n 8) Ordinary (cond (eqb n 9) HumongousFirst Continuation))

kind_back : (k : Kind) → kind_by (length (kind_word k)) ≡ k
kind_back Free = refl
kind_back Ordinary = refl
kind_back HumongousFirst = refl
kind_back Continuation = refl

pub kind_one : (k l : Kind) → kind_word k ≡ kind_word l → k ≡ l
kind_one k l e = sym (kind_back k) ∙ ap (λ ws. kind_by (length ws)) e ∙ kind_back l

pin_back : (p : Bool) → eqb (length (pinned_words p)) 1 ≡ p
pin_back true = refl
pin_back false = refl

pub pin_one : (p q : Bool) → pinned_words p ≡ pinned_words q → p ≡ q
pin_one p q e = sym (pin_back p) ∙ ap (λ ws. eqb (length ws) 1) e ∙ pin_back q

pub numbers_one : (xs ys : List ℕ) → Small xs → Small ys → map decimal xs ≡ map decimal ys → xs ≡ ys
numbers_one [] [] a b e = refl
numbers_one [] (y ∷ ys) a b e = let l = ap length e in absurd (omega (arith, l))
numbers_one (x ∷ xs) [] a b e = let l = ap length e in absurd (omega (arith, l))
numbers_one (x ∷ xs) (y ∷ ys) a b e =
    let first = decimal_injective x y a.0 b.0 (ap (word_at 0) e) in
    let rest = numbers_one xs ys a.1 b.1 (ap (drop 1) e) in
    λ t. first t ∷ rest t

pub references_one : (xs ys : List ℕ) → Small xs → Small ys → map reference_word xs ≡ map reference_word ys → xs ≡ ys
references_one [] [] a b e = refl
references_one [] (y ∷ ys) a b e = let l = ap length e in absurd (omega (arith, l))
references_one (x ∷ xs) [] a b e = let l = ap length e in absurd (omega (arith, l))
references_one (x ∷ xs) (y ∷ ys) a b e =
    let first = reference_one x y a.0 b.0 (ap (word_at 0) e) in
    let rest = references_one xs ys a.1 b.1 (ap (drop 1) e) in
    λ t. first t ∷ rest t

-- lists of one length, with others behind them
pub fronts_one : {X : Type 0} (xs ys us vs : List X) → length xs ≡ length ys → xs ++ us ≡ ys ++ vs → (xs ≡ ys) × (us ≡ vs)
fronts_one [] [] us vs l e = (refl, e)
fronts_one [] (y ∷ ys) us vs l e = absurd (omega (arith, l))
fronts_one (x ∷ xs) [] us vs l e = absurd (omega (arith, l))
fronts_one (x ∷ xs) (y ∷ ys) us vs l e =
    let first : x ≡ y = ap (λ zs. get_or zs 0 x) e in
    let rest = fronts_one xs ys us vs (omega (arith, l)) (ap (drop 1) e) in
    ((λ t. first t ∷ rest.0 t), rest.1)

pub log_one : (a b : List ℕ) (us vs : List (List (List ℕ))) → length a ≡ length b → Small a → Small b → log_lines a ++ us ≡ log_lines b ++ vs → (a ≡ b) × (us ≡ vs)
log_one [] [] us vs l fa fb e = (refl, e)
log_one [] (d ∷ ds) us vs l fa fb e = absurd (omega (arith, l))
log_one (c ∷ cs) [] us vs l fa fb e = absurd (omega (arith, l))
log_one (c ∷ cs) (d ∷ ds) us vs l fa fb e = (numbers_one (c ∷ cs) (d ∷ ds) fa fb (ap (λ (ls : List (List (List ℕ))). drop 2 (get_or ls 0 [])) e), ap (drop 1) e)

pub remembered_one : (r : ℕ) (a b : List ℕ) (us vs : List (List (List ℕ))) → length a ≡ length b → Small a → Small b → remembered_lines r a ++ us ≡ remembered_lines r b ++ vs → (a ≡ b) × (us ≡ vs)
remembered_one r [] [] us vs l fa fb e = (refl, e)
remembered_one r [] (d ∷ ds) us vs l fa fb e = absurd (omega (arith, l))
remembered_one r (c ∷ cs) [] us vs l fa fb e = absurd (omega (arith, l))
remembered_one r (c ∷ cs) (d ∷ ds) us vs l fa fb e = (numbers_one (c ∷ cs) (d ∷ ds) fa fb (ap (λ (ls : List (List (List ℕ))). drop 3 (get_or ls 0 [])) e), ap (drop 1) e)

-- digits before a slash
split_slash : (a b xs ys : List ℕ) → AreDigits a → AreDigits b → a ++ 47 ∷ xs ≡ b ++ 47 ∷ ys → (a ≡ b) × (xs ≡ ys)
split_slash [] [] xs ys p q e = (refl, ap (drop 1) e)
split_slash [] (b ∷ bs) xs ys p q e = let f : 47 ≡ b = ap (λ zs. get_or zs 0 0) e in let d = (q 0 (omega arith)).0 in absurd (omega (arith, f, d))
split_slash (a ∷ at) [] xs ys p q e = let f : a ≡ 47 = ap (λ zs. get_or zs 0 0) e in let d = (p 0 (omega arith)).0 in absurd (omega (arith, f, d))
split_slash (a ∷ at) (b ∷ bs) xs ys p q e =
    let first : a ≡ b = ap (λ zs. get_or zs 0 0) e in
    let rest = split_slash at bs xs ys (λ i lt. p (suc i) (omega (arith, lt))) (λ i lt. q (suc i) (omega (arith, lt))) (ap (drop 1) e) in
    ((λ t. first t ∷ rest.0 t), rest.1)

pub sizes_one : (s r u v : ℕ) → s < 2 ^ 64 → r < 2 ^ 64 → u < 2 ^ 64 → v < 2 ^ 64 → decimal s ++ 47 ∷ decimal r ≡ decimal u ++ 47 ∷ decimal v → (s ≡ u) × (r ≡ v)
sizes_one s r u v fs fr fu fv e =
    let p = split_slash (decimal s) (decimal u) (decimal r) (decimal v) (digits_decimal own s fs) (digits_decimal own u fu) e in
    (decimal_injective s u fs fu p.0, decimal_injective r v fr fv p.1)

-- lines by number that are the same lists
pub ranges_one : {X : Type 0} (f g : ℕ → X) (a n : ℕ) → map f (range_with_len a n) ≡ map g (range_with_len a n) → (k : ℕ) → k < n → f (a + k) ≡ g (a + k)
ranges_one f g a zero e k lt = absurd (omega (arith, lt))
ranges_one f g a (suc n) e zero lt = let z : a + 0 ≡ a = omega arith in ap f z ∙ ap (λ zs. get_or zs 0 (f a)) e ∙ ap g (sym z)
ranges_one f g a (suc n) e (suc k) lt = let z : a + suc k ≡ a + 1 + k = omega arith in ap f z ∙ ranges_one f g (a + 1) n (ap (drop 1) e) k (omega (arith, lt)) ∙ ap g (sym z)
