-- Lists, their members and ranges.
use Rattle.std.proofs.Common.{◌≡◌, ◌≢◌, ℕ, zero, suc, ◌+◌, ◌-◌, ◌≤◌, Bool, true, false, cond, not, ◌||◌, List, [], ◌∷◌, ◌++◌, map, filter, flat_map, replicate, get_or, All, refl, sym, ◌∙◌, ap, subst, arith, eqb, Contains}
use Rattle.std.proofs.Common.{append_assoc, append-nil, eqb-true}
use Rattle.std.specs.List.{list_any, range_with_len}
use Rattle.std.proofs.lemmas.List.{map-append}
use Rattle.std.proofs.lemmas.List.Concat.{flat_map-append}
use Rattle.std.proofs.lemmas.List.Elements.{filter-append, Contains-append_left, Contains-get_or}
use Rattle.std.proofs.lemmas.List.Folds.{list_any-append}
use Rattle.g1_words.proofs.Firsts.{Distinct}
use Rattle.g1_words.proofs.Members.{Contains-map}
use Rattle.g1_words.proofs.Ordered.{Ordered}
use Rattle.g1_words.specs.Lists.{has}
use Rattle.g1_words.specs.Survivors.{firsts}

-- a range with the next number
pub range_suc : (a n : ℕ) → range_with_len a (suc n) ≡ range_with_len a n ++ (a + n) ∷ []
range_suc a zero = ap (λ x. x ∷ []) (omega arith)
range_suc a (suc n) = ap (λ l. a ∷ l) (range_suc (a + 1) n ∙ ap (λ x. range_with_len (a + 1) n ++ x ∷ []) (omega arith))

pub range_push : (a n : ℕ) → range_with_len a n ++ (a + n) ∷ [] ≡ range_with_len a (suc n)
range_push a n = sym (range_suc a n)

pub range_more : (a n : ℕ) → range_with_len a (n + 1) ≡ range_with_len a n ++ (a + n) ∷ []
range_more a n = let e : n + 1 ≡ suc n = omega arith in ap (range_with_len a) e ∙ range_suc a n

pub first_numbers_more : (n : ℕ) → range_with_len 0 (n + 1) ≡ range_with_len 0 n ++ n ∷ []
first_numbers_more n = let e : 0 + n ≡ n = omega arith in range_more 0 n ∙ ap (λ x. range_with_len 0 n ++ x ∷ []) e

-- the same, told by its ends
pub range_until : (a p : ℕ) → a ≤ p → range_with_len a (p - a) ++ p ∷ [] ≡ range_with_len a (p + 1 - a)
range_until a p le =
    let e : p ≡ a + (p - a) = omega (arith, le) in
    let f : suc (p - a) ≡ p + 1 - a = omega (arith, le) in
    ap (λ x. range_with_len a (p - a) ++ x ∷ []) e ∙ range_push a (p - a) ∙ ap (range_with_len a) f

pub range_split : (a m n : ℕ) → range_with_len a (m + n) ≡ range_with_len a m ++ range_with_len (a + m) n
range_split a zero n = let e : 0 + n ≡ n = omega arith in let f : a ≡ a + 0 = omega arith in λ i. range_with_len (f i) (e i)
range_split a (suc m) n =
    let e : suc m + n ≡ suc (m + n) = omega arith in
    let f : a + 1 + m ≡ a + suc m = omega arith in
    ap (range_with_len a) e ∙ ap (λ l. a ∷ l) (range_split (a + 1) m n ∙ ap (λ b. range_with_len (a + 1) m ++ range_with_len b n) f)

-- a filter of a range, by its last number
pub filter_range_yes : (p : ℕ → Bool) (n : ℕ) → p n ≡ true → filter p (range_with_len 0 (n + 1)) ≡ filter p (range_with_len 0 n) ++ n ∷ []
filter_range_yes p n e = ap (filter p) (first_numbers_more n) ∙ filter-append p (range_with_len 0 n) (n ∷ []) ∙ ap (λ b. filter p (range_with_len 0 n) ++ cond b (n ∷ []) []) e

pub filter_range_no : (p : ℕ → Bool) (n : ℕ) → p n ≡ false → filter p (range_with_len 0 (n + 1)) ≡ filter p (range_with_len 0 n)
filter_range_no p n e =
    ap (filter p) (first_numbers_more n) ∙ filter-append p (range_with_len 0 n) (n ∷ [])
    ∙ ap (λ b. filter p (range_with_len 0 n) ++ cond b (n ∷ []) []) e ∙ append-nil (filter p (range_with_len 0 n))

pub all_in : {A : Type 0} (P : A → Type 0) (xs : List A) (x : A) → All P xs → Contains xs x → P x
all_in P xs x all i = subst P i.2 (all i.0 x i.1)

pub all_from_in : {A : Type 0} (P : A → Type 0) (xs : List A) → ((x : A) → Contains xs x → P x) → All P xs
all_from_in P xs f = λ k d lt. f (get_or xs k d) (Contains-get_or xs k d lt)

pub any_from_in : {A : Type 0} (p : A → Bool) (xs : List A) (x : A) → Contains xs x → p x ≡ true → list_any p xs ≡ true
any_from_in p [] x i t = absurd (omega (arith, i.1))
any_from_in p (y ∷ ys) x (zero, b, e) t = rw (ap p e ∙ t) refl
any_from_in p (y ∷ ys) x (suc k, lt, e) t = elim (p y) as (λ b. (b || list_any p ys) ≡ true) [ true ↦ refl | false ↦ any_from_in p ys x (k, omega (arith, lt), e) t ]

pub none_passes : {A : Type 0} (p : A → Bool) (xs : List A) → ((x : A) → Contains xs x → p x ≡ false) → filter p xs ≡ []
none_passes p [] f = refl
none_passes p (x ∷ xs) f = rw (f x (zero, omega arith, refl)) (none_passes p xs (λ y i. f y (suc i.0, omega (arith, i.1), i.2)))

-- tests that the members don't tell apart
pub filter_same_in : {A : Type 0} (p q : A → Bool) (xs : List A) → ((x : A) → Contains xs x → p x ≡ q x) → filter p xs ≡ filter q xs
filter_same_in p q [] f = refl
filter_same_in p q (x ∷ xs) f = rw (f x (zero, omega arith, refl), filter_same_in p q xs (λ y i. f y (suc i.0, omega (arith, i.1), i.2))) refl

-- what passes two tests, number by number
pub by_number : {A : Type 0} (g : A → ℕ) (p q : A → Bool) (f : ℕ → List A) (t : ℕ → Bool) (xs : List ℕ)
    → ((x : ℕ) → Contains xs x → map g (filter p (filter q (f x))) ≡ cond (t x) (x ∷ []) []) → map g (filter p (filter q (flat_map f xs))) ≡ filter t xs
by_number g p q f t [] each = refl
by_number g p q f t (x ∷ xs) each =
    ap (λ ys. map g (filter p ys)) (filter-append q (f x) (flat_map f xs))
    ∙ ap (map g) (filter-append p (filter q (f x)) (filter q (flat_map f xs)))
    ∙ map-append g (filter p (filter q (f x))) (filter p (filter q (flat_map f xs)))
    ∙ (λ i. each x (zero, omega arith, refl) i ++ by_number g p q f t xs (λ y k. each y (suc k.0, omega (arith, k.1), k.2)) i)
    ∙ one (t x)
  where
    one : (b : Bool) → cond b (x ∷ []) [] ++ filter t xs ≡ cond b (x ∷ filter t xs) (filter t xs)
    one true = refl
    one false = refl

pub flat_of_flat : {A B C : Type 0} (f : B → List C) (g : A → List B) (xs : List A) → flat_map (λ x. flat_map f (g x)) xs ≡ flat_map f (flat_map g xs)
flat_of_flat f g [] = refl
flat_of_flat f g (x ∷ xs) = ap (λ l. flat_map f (g x) ++ l) (flat_of_flat f g xs) ∙ sym (flat_map-append f (g x) (flat_map g xs))

pub flat_of_filter : {A B : Type 0} (f : A → List B) (p : A → Bool) (xs : List A) → flat_map f (filter p xs) ≡ flat_map (λ x. cond (p x) (f x) []) xs
flat_of_filter f p [] = refl
flat_of_filter {A} f p (x ∷ xs) =
    let more : flat_map f (filter p xs) ≡ flat_map (λ x. cond (p x) (f x) []) xs = flat_of_filter f p xs in
    elim (p x) as (λ b. flat_map f (cond b (x ∷ filter p xs) (filter p xs)) ≡ cond b (f x) [] ++ flat_map (λ x. cond (p x) (f x) []) xs) [ true ↦ ap (λ l. f x ++ l) more | false ↦ more ]

pub in_front : (a b c rest : List ℕ) → (a ++ (b ++ c)) ++ rest ≡ a ++ (b ++ (c ++ rest))
in_front a b c rest = append_assoc a (b ++ c) rest ∙ ap (λ l. a ++ l) (append_assoc b c rest)

-- a list of one value has it everywhere, and past its end
pub same_there : {A : Type 0} (d : A) (n r : ℕ) → get_or (replicate n d) r d ≡ d
same_there d zero r = refl
same_there d (suc n) zero = refl
same_there d (suc n) (suc r) = same_there d n r

pub Ordered-append_left : {A : Type 0} (R : A → A → Type 0) (xs ys : List A) → Ordered R (xs ++ ys) → Ordered R xs
Ordered-append_left R [] ys o = tt
Ordered-append_left R (x ∷ xs) ys o = ((λ y i. o.0 y (Contains-append_left xs ys y i)), Ordered-append_left R xs ys o.1)

pub Ordered-append_right : {A : Type 0} (R : A → A → Type 0) (xs ys : List A) → Ordered R (xs ++ ys) → Ordered R ys
Ordered-append_right R [] ys o = o
Ordered-append_right R (x ∷ xs) ys o = Ordered-append_right R xs ys o.1

pub Ordered-unmap : {A B : Type 0} (R : B → B → Type 0) (f : A → B) (xs : List A) → Ordered R (map f xs) → Ordered (λ x y. R (f x) (f y)) xs
Ordered-unmap R f [] o = tt
Ordered-unmap R f (x ∷ xs) o = ((λ y i. o.0 (f y) (Contains-map f xs y i)), Ordered-unmap R f xs o.1)

pub Distinct-differ : (xs : List ℕ) → Distinct xs → Ordered (λ x y. x ≢ y) xs
Distinct-differ [] d = tt
Distinct-differ (x ∷ xs) d = ((λ y i e. d.0 (subst (Contains xs) (sym e) i)), Distinct-differ xs d.1)

pub keep_apart : (x : ℕ) (xs : List ℕ) → (Contains xs x → ⊥) → filter (λ y. not (eqb x y)) xs ≡ xs
keep_apart x [] d = refl
keep_apart x (y ∷ ys) d = at (eqb x y) refl (keep_apart x ys (λ i. d (suc i.0, omega (arith, i.1), i.2)))
  where
    at : (b : Bool) → eqb x y ≡ b → filter (λ z. not (eqb x z)) ys ≡ ys → cond (not b) (y ∷ filter (λ z. not (eqb x z)) ys) (filter (λ z. not (eqb x z)) ys) ≡ y ∷ ys
    at true e rest = absurd (d (zero, omega arith, sym (eqb-true x y e)))
    at false e rest = ap (λ l. y ∷ l) rest

pub firsts_distinct : (xs : List ℕ) → Distinct xs → firsts xs ≡ xs
firsts_distinct [] d = refl
firsts_distinct (x ∷ xs) d = ap (λ l. x ∷ filter (λ y. not (eqb x y)) l) (firsts_distinct xs d.1) ∙ ap (λ l. x ∷ l) (keep_apart x xs d.0)

pub has_both : (xs ys : List ℕ) (x : ℕ) → has (xs ++ ys) x ≡ (has xs x || has ys x)
has_both xs ys x = list_any-append (λ y. eqb x y) xs ys

pub has_more : (xs : List ℕ) (y x : ℕ) → has (xs ++ y ∷ []) x ≡ (has xs x || eqb x y)
has_more xs y x = has_both xs (y ∷ []) x ∙ ap (λ b. has xs x || b) (alone (eqb x y))
  where
    alone : (b : Bool) → (b || false) ≡ b
    alone true = refl
    alone false = refl
