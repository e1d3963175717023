-- What a text of lines says: its lines, and their words.
use Rattle.std.proofs.Common.{◌≡◌, ◌≢◌, ℕ, zero, suc, ◌+◌, ◌-◌, ◌*◌, ◌<◌, ◌^◌, ◌⊎◌, inl, inr, Bool, true, ◌&&◌, List, [], ◌∷◌, ◌++◌, length, get_or, take, drop, map, All, flat_map, Contains}
use Rattle.std.proofs.Common.{refl, sym, ◌∙◌, ap, subst, arith, rules, append_assoc, eqb}
use Rattle.std.specs.Prelude.{not, decimal, codes, slice_index}
use Rattle.std.specs.List.{range_with_len}
use Rattle.std.specs.Int.{IsInRange}
use Rattle.std.proofs.lemmas.Fmt.{digits_decimal}
use Rattle.std.proofs.lemmas.Str.Parse.{IsNumeralModel, tells_by_index, numerals_by_fold}
use Rattle.std.proofs.lemmas.Bool.{and_parts as both}
use Rattle.g1_words.proofs.Logic.{differs}
use Rattle.g1_text.specs.Lines.{line_text, further, text_of, reference_word}

-- no byte of the word is a space or the end of a line
abbrev pub IsWord : List ℕ → Type 0
IsWord [] = Unit {0}
IsWord (b ∷ bs) = (b ≢ 32) × (b ≢ 10) × IsWord bs

-- the bytes go on with a space or the end of a line
abbrev pub IsEnd : List ℕ → Type 0
IsEnd [] = ⊥
IsEnd (b ∷ bs) = (b ≡ 32) ⊎ (b ≡ 10)

abbrev pub AreWords : List (List ℕ) → Type 0
AreWords [] = Unit {0}
AreWords (w ∷ ws) = IsWord w × AreWords ws

-- a line of one word or more
abbrev pub IsLine : List (List ℕ) → Type 0
IsLine [] = ⊥
IsLine (w ∷ ws) = IsWord w × AreWords ws

abbrev pub AreLines : List (List (List ℕ)) → Type 0
AreLines [] = Unit {0}
AreLines (l ∷ ls) = IsLine l × AreLines ls

never_end : (b : ℕ) → b ≢ 32 → b ≢ 10 → (b ≡ 32) ⊎ (b ≡ 10) → ⊥
never_end b s e (inl p) = s p
never_end b s e (inr p) = e p

-- bytes have one first word
one_word : (a b xs ys : List ℕ) → IsWord a → IsWord b → IsEnd xs → IsEnd ys → a ++ xs ≡ b ++ ys → (a ≡ b) × (xs ≡ ys)
one_word [] [] xs ys n m p q e = (refl, e)
one_word [] (b ∷ bs) [] ys n m p q e = absurd p
one_word [] (b ∷ bs) (x ∷ xs) ys n m p q e = let f : x ≡ b = ap (λ zs. get_or zs 0 0) e in absurd (never_end b m.0 m.1 (subst (λ z. (z ≡ 32) ⊎ (z ≡ 10)) f p))
one_word (a ∷ at) [] xs [] n m p q e = absurd q
one_word (a ∷ at) [] xs (y ∷ ys) n m p q e = let f : a ≡ y = ap (λ zs. get_or zs 0 0) e in absurd (never_end a n.0 n.1 (subst (λ z. (z ≡ 32) ⊎ (z ≡ 10)) (sym f) q))
one_word (a ∷ at) (b ∷ bs) xs ys n m p q e =
    let first : a ≡ b = ap (λ zs. get_or zs 0 0) e in
    let rest = one_word at bs xs ys n.2 m.2 p q (ap (drop 1) e) in
    ((λ t. first t ∷ rest.0 t), rest.1)

further_end : (ws : List (List ℕ)) (xs : List ℕ) → IsEnd (further ws ++ xs)
further_end [] xs = inr refl
further_end (w ∷ ws) xs = inl refl

-- bytes have one list of further words
one_further : (ws vs : List (List ℕ)) (xs ys : List ℕ) → AreWords ws → AreWords vs → further ws ++ xs ≡ further vs ++ ys → (ws ≡ vs) × (xs ≡ ys)
one_further [] [] xs ys a b e = (refl, ap (drop 1) e)
one_further [] (v ∷ vs) xs ys a b e = let f : 10 ≡ 32 = ap (λ zs. get_or zs 0 0) e in absurd (omega (arith, f))
one_further (w ∷ ws) [] xs ys a b e = let f : 32 ≡ 10 = ap (λ zs. get_or zs 0 0) e in absurd (omega (arith, f))
one_further (w ∷ ws) (v ∷ vs) xs ys a b e =
    let s : w ++ (further ws ++ xs) ≡ v ++ (further vs ++ ys) = sym (append_assoc w (further ws) xs) ∙ ap (drop 1) e ∙ append_assoc v (further vs) ys in
    let first = one_word w v (further ws ++ xs) (further vs ++ ys) a.0 b.0 (further_end ws xs) (further_end vs ys) s in
    let rest = one_further ws vs xs ys a.1 b.1 first.1 in
    ((λ t. first.0 t ∷ rest.0 t), rest.1)

one_line : (l m : List (List ℕ)) (xs ys : List ℕ) → IsLine l → IsLine m → line_text l ++ xs ≡ line_text m ++ ys → (l ≡ m) × (xs ≡ ys)
one_line [] m xs ys a b e = absurd a
one_line (w ∷ ws) [] xs ys a b e = absurd b
one_line (w ∷ ws) (v ∷ vs) xs ys a b e =
    let s : w ++ (further ws ++ xs) ≡ v ++ (further vs ++ ys) = sym (append_assoc w (further ws) xs) ∙ e ∙ append_assoc v (further vs) ys in
    let first = one_word w v (further ws ++ xs) (further vs ++ ys) a.0 b.0 (further_end ws xs) (further_end vs ys) s in
    let rest = one_further ws vs xs ys a.1 b.1 first.1 in
    ((λ t. first.0 t ∷ rest.0 t), rest.1)

further_some : (ws : List (List ℕ)) → 0 < length (further ws)
further_some [] = omega arith
further_some (w ∷ ws) = omega arith

append_some : (xs ys : List ℕ) → 0 < length ys → 0 < length (xs ++ ys)
append_some [] ys some = some
append_some (x ∷ xs) ys some = omega arith

front_some : (xs ys : List ℕ) → 0 < length xs → 0 < length (xs ++ ys)
front_some [] ys some = absurd (omega (arith, some))
front_some (x ∷ xs) ys some = omega arith

line_some : (l : List (List ℕ)) (xs : List ℕ) → 0 < length (line_text l ++ xs)
line_some [] xs = omega arith
line_some (w ∷ ws) xs = front_some (w ++ further ws) xs (append_some w (further ws) (further_some ws))

-- A TEXT IS THAT OF ONE LIST OF LINES
pub one_list : (ls ms : List (List (List ℕ))) → AreLines ls → AreLines ms → text_of ls ≡ text_of ms → ls ≡ ms
one_list [] [] a b e = refl
one_list [] (m ∷ ms) a b e = let some = line_some m (text_of ms) in let none = ap length e in absurd (omega (arith, some, none))
one_list (l ∷ ls) [] a b e = let some = line_some l (text_of ls) in let none = ap length e in absurd (omega (arith, some, none))
one_list (l ∷ ls) (m ∷ ms) a b e =
    let first = one_line l m (text_of ls) (text_of ms) a.0 b.0 e in
    let rest = one_list ls ms a.1 b.1 first.1 in
    λ t. first.0 t ∷ rest t

-- lists of lines, one behind the other
pub lines_append : (ls ms : List (List (List ℕ))) → AreLines ls → AreLines ms → AreLines (ls ++ ms)
lines_append [] ms a b = b
lines_append (l ∷ ls) ms a b = (a.0, lines_append ls ms a.1 b)

pub words_append : (ws vs : List (List ℕ)) → AreWords ws → AreWords vs → AreWords (ws ++ vs)
words_append [] vs a b = b
words_append (w ∷ ws) vs a b = (a.0, words_append ws vs a.1 b)

pub word_append : (vs bs : List ℕ) → IsWord vs → IsWord bs → IsWord (vs ++ bs)
word_append [] bs p q = q
word_append (x ∷ vs) bs p q = (p.0, p.1, word_append vs bs p.2 q)

-- letters are a word if a test says so
abbrev pub is_word : List ℕ → Bool
is_word [] = true
is_word (b ∷ bs) = not (eqb b 32) && (not (eqb b 10) && is_word bs)

pub by_letters : (bs : List ℕ) → is_word bs ≡ true → IsWord bs
by_letters [] t = tt
by_letters (b ∷ bs) t =
    let p = both (not (eqb b 32)) (not (eqb b 10) && is_word bs) t in
    let q = both (not (eqb b 10)) (is_word bs) p.1 in
    (differs b 32 p.0, differs b 10 q.0, by_letters bs q.1)

-- the number that digits write, read from the left
abbrev pub read_on : ℕ → List ℕ → ℕ
read_on n [] = n
read_on n (c ∷ cs) = read_on (10 * n + (c - 48)) cs

abbrev pub AreDigits : List ℕ → Type 0
AreDigits ds = (i : ℕ) → i < length ds → IsInRange 48 57 (get_or ds i 0)

pub own : IsNumeralModel AreDigits (read_on 0)
own = numerals_by_fold AreDigits tells_by_index read_on (search rules)

digits_word : (ds : List ℕ) → AreDigits ds → IsWord ds
digits_word [] d = tt
digits_word (x ∷ xs) d =
    let r = (d 0 (omega arith)).0 in
    ((λ e. absurd (omega (arith, r, e))), (λ e. absurd (omega (arith, r, e))), digits_word xs (λ i lt. d (suc i) (omega (arith, lt))))

-- A NUMBER IS A WORD
pub number_word : (x : ℕ) → x < 2 ^ 64 → IsWord (decimal x)
number_word x small = digits_word (decimal x) (digits_decimal own x small)

-- each number has 64 bits
abbrev pub Small : List ℕ → Type 0
Small [] = Unit {0}
Small (x ∷ xs) = (x < 2 ^ 64) × Small xs

pub numbers_words : (xs : List ℕ) → Small xs → AreWords (map decimal xs)
numbers_words [] s = tt
numbers_words (x ∷ xs) s = (number_word x s.0, numbers_words xs s.1)

pub reference_is_word : (x : ℕ) → x < 2 ^ 64 → IsWord (reference_word x)
reference_is_word zero small = by_letters (codes "-") refl
reference_is_word (suc a) small = number_word a (omega (arith, small))

pub references_words : (xs : List ℕ) → Small xs → AreWords (map reference_word xs)
references_words [] s = tt
references_words (x ∷ xs) s = (reference_is_word x s.0, references_words xs s.1)

pub small_all : (xs : List ℕ) → All (λ x. x < 2 ^ 64) xs → Small xs
small_all [] all = tt
small_all (x ∷ xs) all = (all 0 0 (omega arith), small_all xs (λ k d lt. all (suc k) d (omega (arith, lt))))

pub small_drop : (n : ℕ) (xs : List ℕ) → Small xs → Small (drop n xs)
small_drop zero xs s = s
small_drop (suc n) [] s = tt
small_drop (suc n) (x ∷ xs) s = small_drop n xs s.1

pub small_take : (n : ℕ) (xs : List ℕ) → Small xs → Small (take n xs)
small_take zero xs s = tt
small_take (suc n) [] s = tt
small_take (suc n) (x ∷ xs) s = (s.0, small_take n xs s.1)

pub small_at : (xs : List ℕ) (k : ℕ) → Small xs → slice_index xs k < 2 ^ 64
small_at [] k s = omega arith
small_at (x ∷ xs) zero s = s.0
small_at (x ∷ xs) (suc k) s = small_at xs k s.1

-- a line for each number
pub range_lines : (f : ℕ → List (List ℕ)) (a n : ℕ) → ((m : ℕ) → m < a + n → IsLine (f m)) → AreLines (map f (range_with_len a n))
range_lines f a zero each = tt
range_lines f a (suc n) each = (each a (omega arith), range_lines f (a + 1) n (λ m lt. each m (omega (arith, lt))))

-- some lines for each number
pub range_of_lines : (f : ℕ → List (List (List ℕ))) (a n : ℕ) → ((m : ℕ) → m < a + n → AreLines (f m)) → AreLines (flat_map f (range_with_len a n))
range_of_lines f a zero each = tt
range_of_lines f a (suc n) each = lines_append (f a) (flat_map f (range_with_len (a + 1) n)) (each a (omega arith)) (range_of_lines f (a + 1) n (λ m lt. each m (omega (arith, lt))))

-- a line for each member
pub member_lines : {X : Type 0} (f : X → List (List ℕ)) (xs : List X) → ((x : X) → Contains xs x → IsLine (f x)) → AreLines (map f xs)
member_lines f [] each = tt
member_lines f (x ∷ xs) each = (each x (zero, omega arith, refl), member_lines f xs (λ y m. each y (suc m.0, omega (arith, m.1), m.2)))
