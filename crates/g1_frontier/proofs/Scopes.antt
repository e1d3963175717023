-- What belongs together in a search, and what is read from it.
use Rattle.std.proofs.Common.{◌≡◌, ◌≤◌, ◌<◌, ℕ, zero, suc, ◌+◌, ◌*◌, Bool, true, false, cond, List, [], ◌∷◌, length, get_or, take, drop, map, flat_map, arith, refl, sym, ap, subst, ◌∙◌, Contains}
use Rattle.std.specs.List.{All}
use Rattle.std.proofs.lemmas.List.Kept.{AllPairs-from_increasing}
use Rattle.std.proofs.lemmas.List.{take_all, get_or_default}
use Rattle.std.proofs.lemmas.List.Sums.{count_by-le-length}
use Rattle.std.proofs.Math.Nat.{mul-le-mul_right}
use Rattle.g1_words.specs.Geometry.{most_words}
use Rattle.g1_words.specs.References.{named}
use Rattle.g1_words.specs.Valid.{IsReference}
use Rattle.g1_words.proofs.Sound.{reference_named}
use Rattle.g1_words.proofs.Members.{Contains-flat_map, flat_map_cases, map_cases}
use Rattle.g1_words.proofs.Ordered.{Ordered, Ordered-from_pairs}
use Rattle.g1_words.proofs.Lists.{all_in, all_from_in}
use Rattle.g1_frontier.specs.declared.scope.Scope.{Scope}
use Rattle.g1_frontier.specs.declared.scope.Numbering.{Numbering}
use Rattle.g1_frontier.specs.declared.scope.Numbering.TheVariants.{Words, Objects}
use Rattle.g1_frontier.specs.Numbers.{BeginsIn}
use Rattle.g1_frontier.specs.Scope.{IsScope, Covers, count_by_numbering, inside, names_in, place_in, place_count}
use Rattle.g1_frontier.specs.Window.{AreRising}

-- ---- what a word names in the window

pub names_null : (s : Scope) (x : ℕ) → x ≡ 0 → names_in s x ≡ []
names_null s x e = ap (names_in s) e

pub names_outside : (s : Scope) (x a : ℕ) → x ≡ a + 1 → inside s a ≡ false → names_in s x ≡ []
names_outside s x a e t = let f : x ≡ suc a = omega (arith, e) in ap (names_in s) f ∙ ap (λ b. cond b (a ∷ []) []) t

pub names_inside : (s : Scope) (x a : ℕ) → x ≡ a + 1 → inside s a ≡ true → names_in s x ≡ a ∷ []
names_inside s x a e t = let f : x ≡ suc a = omega (arith, e) in ap (names_in s) f ∙ ap (λ b. cond b (a ∷ []) []) t

-- ---- reading lists

-- what was read at an index is what stands there
pub read : {A : Type 0} (xs : List A) (i j : ℕ) (o v d : A) → i ≡ j → j < length xs → o ≡ get_or xs i o → o ≡ v → get_or xs j d ≡ v
read xs i j o v d same lt e f = get_or_default xs j d o lt ∙ ap (λ k. get_or xs k o) (sym same) ∙ sym e ∙ f

pub all_map : {A B : Type 0} (P : B → Type 0) (f : A → B) (xs : List A) → ((x : A) → Contains xs x → P (f x)) → All P (map f xs)
all_map P f xs h = all_from_in P (map f xs) (λ y i. let m = map_cases f xs y i in subst P m.2 (h m.0 m.1))

pub all_of_map : {A B : Type 0} (P : B → Type 0) (f : A → B) (xs : List A) → All (λ x. P (f x)) xs → All P (map f xs)
all_of_map P f xs h = all_map P f xs (λ x i. all_in (λ x. P (f x)) xs x h i)

-- what holds of lists that were put together holds of each
pub all_part : {A B : Type 0} (P : B → Type 0) (f : A → List B) (xs : List A) (x : A) → All P (flat_map f xs) → Contains xs x → All P (f x)
all_part P f xs x h i = all_from_in P (f x) (λ y j. all_in P (flat_map f xs) y h (Contains-flat_map f xs x y i j))

pub all_some : {A B : Type 0} (P : B → Type 0) (f : A → List B) (xs ys : List A) → ((x : A) → Contains ys x → Contains xs x) → All P (flat_map f xs) → All P (flat_map f ys)
all_some P f xs ys s h = all_from_in P (flat_map f ys) (λ y j. let m = flat_map_cases f ys y j in all_in P (flat_map f xs) y h (Contains-flat_map f xs m.0 y (s m.0 m.1) m.2))

pub Contains-drop : {A : Type 0} (n : ℕ) (xs : List A) (x : A) → Contains (drop n xs) x → Contains xs x
Contains-drop zero xs x i = i
Contains-drop (suc n) [] x i = i
Contains-drop (suc n) (y ∷ ys) x i = let m = Contains-drop n ys x i in (suc m.0, omega (arith, m.1), m.2)

-- ---- counts

rising_from : (lo bound : ℕ) (xs : List ℕ) → Ordered (λ x y. x < y) xs → ((x : ℕ) → Contains xs x → lo ≤ x) → ((x : ℕ) → Contains xs x → x < bound) → lo ≤ bound → lo + length xs ≤ bound
rising_from lo bound [] o low high le = omega (arith, le)
rising_from lo bound (x ∷ xs) o low high le =
    let a = low x (zero, omega arith, refl) in
    let b = high x (zero, omega arith, refl) in
    let r = rising_from (x + 1) bound xs o.1 (λ y i. let k = o.0 y i in omega (arith, k)) (λ y i. high y (suc i.0, omega (arith, i.1), i.2)) (omega (arith, b)) in
    omega (arith, a, r)

-- there are no more than the bound
pub rising_few : (bound : ℕ) (xs : List ℕ) → AreRising bound xs → length xs ≤ bound
rising_few bound xs r =
    let k = rising_from 0 bound xs (Ordered-from_pairs (λ x y. x < y) xs (AllPairs-from_increasing xs r.rise)) (λ x i. omega arith) (λ x i. all_in (λ y. y < bound) xs x r.below i) (omega arith) in
    omega (arith, k)

count_fits : (n : Numbering) (words : ℕ) → words ≤ most_words → Covers n words → count_by_numbering n words ≤ most_words
count_fits Words words le c = le
count_fits (Objects starts) words le c =
    let few = count_by-le-length (λ (b : Bool). b) (take (length starts) starts) in
    let same : take (length starts) starts ≡ starts = take_all (length starts) starts (omega arith) in
    let long = ap length same in omega (arith, few, long, c.1)

module _ (s : Scope) (ok : IsScope s) where
  -- the window's words are no more than the heap's
  pub words_fit : length s.window.now * s.heap.now.geometry.w ≤ most_words
  words_fit =
      let few = rising_few s.heap.now.geometry.n s.window.now ok.regions in
      let m : length s.window.now * s.heap.now.geometry.w ≤ s.heap.now.geometry.n * s.heap.now.geometry.w = mul-le-mul_right s.heap.now.geometry.w few in
      omega (arith, m, ok.valid.limits.words_most)

  -- nor are the places
  pub places_fit : place_count s ≤ most_words
  places_fit = count_fits s.numbering.now (length s.window.now * s.heap.now.geometry.w) words_fit ok.covers

  pub some_words : 0 < s.heap.now.geometry.w
  some_words = omega (arith, ok.valid.limits.w_least)

  pub below : (a : ℕ) → BeginsIn s.heap.now s.window.now a → place_in s a < place_count s
  below a b = ok.numbers.below a b

  pub apart : (a : ℕ) → BeginsIn s.heap.now s.window.now a → (b : ℕ) → BeginsIn s.heap.now s.window.now b → place_in s b ≡ place_in s a → b ≡ a
  apart a c b d e = ok.numbers.apart a b c d e

  -- a reference that leads into the window is to an object there
  pub begins : (x a : ℕ) → IsReference s.heap.now x → x ≡ a + 1 → inside s a ≡ true → BeginsIn s.heap.now s.window.now a
  begins x a r e i =
      let f : suc a ≡ x = omega (arith, e) in
      (i, reference_named s.heap.now x a ok.valid r (subst (λ y. Contains (named y) a) f (zero, omega arith, refl)))
