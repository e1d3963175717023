-- The words of a line say at most one thing.
use Rattle.std.proofs.Common.{◌≡◌, ℕ, ◌+◌, ◌-◌, ◌*◌, ◌^◌, ◌<◌, Bool, List, [], ◌∷◌, ◌++◌, length, get_or, drop, map, set, sym, ◌∙◌, ap, subst, arith}
use Rattle.std.specs.Prelude.{Option, Some, None, IfSome, All, decimal, slice_index_or}
use Rattle.std.proofs.lemmas.Fmt.{decimal_injective}
use Rattle.std.proofs.lemmas.List.{length-map}
use Rattle.g1_words.specs.declared.region.Region.{Region}
use Rattle.g1_words.specs.declared.region.Kind.{Kind}
use Rattle.g1_text.specs.Lines.{reference_word}
use Rattle.g1_text.specs.Laws.{LinesSayOne}
use Rattle.g1_text.specs.Content.{Content, Counts, Line, Root, Dirty, Numbers, Remembered, Holds, Takes, Adds, Begins}
use Rattle.g1_text.specs.Content.{begun, words_of, words_beyond, size_with, top_behind, beyond_behind, one_found}
use Rattle.g1_text.proofs.Splitting.{Small, small_all}
use Rattle.g1_text.proofs.Ends.{one_end}
use Rattle.g1_text.proofs.Fields.{word_at, current_one, reference_one, kind_one, pin_one, numbers_one, references_one, fronts_one, sizes_one}

-- a number for the first word of a line
abbrev tag : List (List ℕ) → ℕ
tag words = length (word_at 0 words) + 100 * get_or (word_at 0 words) 0 0

cards_small : (xs : List ℕ) → All (λ x. x < 2 ^ 32) xs → Small xs
cards_small xs all = small_all xs (λ k d lt. let small = all k d lt in omega (arith, small))

current_small : (c : Option ℕ) → IfSome c (λ r. r < 2 ^ 32) → IfSome c (λ r. r < 2 ^ 64)
current_small None small = tt
current_small (Some r) small = omega (arith, small)

pub heading_one : (words : List (List ℕ)) (c d : Content) → Begins words c → Begins words d → c ≡ d
heading_one words c d a b =
    let e = sym a.line ∙ b.line in
    let w = decimal_injective a.geometry.w b.geometry.w (let most = a.limits.w_most in omega (arith, most)) (let most = b.limits.w_most in omega (arith, most)) (ap (word_at 1) e) in
    let k = decimal_injective a.geometry.k b.geometry.k (let most = a.limits.k_most in omega (arith, most)) (let most = b.limits.k_most in omega (arith, most)) (ap (word_at 2) e) in
    let n = decimal_injective a.geometry.n b.geometry.n (let most = a.limits.n_most in omega (arith, most)) (let most = b.limits.n_most in omega (arith, most)) (ap (word_at 3) e) in
    let roots = decimal_injective a.roots b.roots a.root_count b.root_count (ap (word_at 5) e) in
    let dirty = decimal_injective a.dirty b.dirty a.dirty_count b.dirty_count (ap (word_at 7) e) in
    let current = current_one a.current b.current (current_small a.current a.region) (current_small b.current b.region) (ap (word_at 9) e) in
    a.says ∙ (λ t. begun (record { w = w t; k = k t; n = n t }) (current t) (Some (roots t)) (Some (dirty t))) ∙ sym b.says

root_one : (s : Content) (m x n y : ℕ) (c d : Content) → words_of (Root m x) ≡ words_of (Root n y) → Takes s (Root m x) c → Takes s (Root n y) d → c ≡ d
root_one s m x n y c d e a b =
    let value = reference_one x y a.2 b.2 (ap (word_at 2) e) in
    a.3 ∙ (λ t. record s { roots = s.roots ++ value t ∷ [] }) ∙ sym b.3

dirty_one : (s : Content) (xs ys : List ℕ) (c d : Content) → words_of (Dirty xs) ≡ words_of (Dirty ys) → Takes s (Dirty xs) c → Takes s (Dirty ys) d → c ≡ d
dirty_one s xs ys c d e a b =
    let cards = numbers_one xs ys (cards_small xs a.0) (cards_small ys b.0) (ap (drop 2) e) in
    a.1 ∙ (λ t. record s { log = s.log ++ cards t }) ∙ sym b.1

-- what the numbers of a region add
abbrev numbered : Content → ℕ → Kind → ℕ → ℕ → ℕ → Bool → Content
numbered s r k t o m p = record s {
  regions = s.regions ++ record { kind = k; top = words_beyond s k; pinned = p } ∷ [];
  beyond = s.beyond - words_beyond s k;
  counts = s.counts ++ record { region = r; top = Some t; objects = Some o; cards = Some m; found = 0 } ∷ [];
}

region_one : (s : Content) (r : ℕ) (k : Kind) (t o m : ℕ) (p : Bool) (r' : ℕ) (k' : Kind) (t' o' m' : ℕ) (p' : Bool) (c d : Content)
    → words_of (Numbers r k t o m p) ≡ words_of (Numbers r' k' t' o' m' p') → Takes s (Numbers r k t o m p) c → Takes s (Numbers r' k' t' o' m' p') d → c ≡ d
region_one s r k t o m p r' k' t' o' m' p' c d e a b =
    let number = decimal_injective r r' a.2 b.2 (ap (word_at 1) e) in
    let kinds = kind_one k k' (ap (word_at 2) e) in
    let tops = decimal_injective t t' a.4 b.4 (ap (word_at 4) e) in
    let objects = decimal_injective o o' a.5 b.5 (ap (word_at 6) e) in
    let cards = decimal_injective m m' a.6 b.6 (ap (word_at 8) e) in
    let pins = pin_one p p' (ap (drop 9) e) in
    a.8 ∙ (λ t. numbered s (number t) (kinds t) (tops t) (objects t) (cards t) (pins t)) ∙ sym b.8

remembered_one : (s : Content) (r : ℕ) (xs : List ℕ) (r' : ℕ) (ys : List ℕ) (c d : Content)
    → words_of (Remembered r xs) ≡ words_of (Remembered r' ys) → Takes s (Remembered r xs) c → Takes s (Remembered r' ys) d → c ≡ d
remembered_one s r xs r' ys c d e a b =
    let number = decimal_injective r r' a.1 b.1 (ap (word_at 1) e) in
    let cards = numbers_one xs ys (cards_small xs a.2) (cards_small ys b.2) (ap (drop 3) e) in
    a.3 ∙ (λ t. record s { remembered = set s.remembered (number t) (slice_index_or s.remembered (number t) [] ++ cards t) }) ∙ sym b.3

-- what an object adds
abbrev with_object : Content → List Region → Region → List Counts → Counts → ℕ → List ℕ → List ℕ → Content
with_object s below q earlier last at slots values = record s {
  regions = below ++ record q { top = top_behind q.kind s.geometry q.top (size_with slots values) } ∷ [];
  beyond = beyond_behind q.kind s.geometry s.beyond (size_with slots values);
  words = s.words ++ (size_with slots values * 2 ^ 32 + length slots) ∷ (slots ++ values);
  counts = earlier ++ one_found last ∷ [];
  addresses = s.addresses ++ at ∷ [];
}

object_one : (s : Content) (at : ℕ) (slots values : List ℕ) (at' : ℕ) (slots' values' : List ℕ) (c d : Content)
    → words_of (Holds at slots values) ≡ words_of (Holds at' slots' values') → Takes s (Holds at slots values) c → Takes s (Holds at' slots' values') d → c ≡ d
object_one s at slots values at' slots' values' c d e a b =
    let regions = one_end a.0 b.0 a.1 b.1 (sym a.4 ∙ b.4) in
    let counts = one_end a.2 b.2 a.3 b.3 (sym a.5 ∙ b.5) in
    let fits = a.10 in
    let fits' = b.10 in
    let sizes = sizes_one (size_with slots values) (length slots) (size_with slots' values') (length slots')
    (omega (arith, fits)) (omega (arith, fits)) (omega (arith, fits')) (omega (arith, fits')) (ap (word_at 2) e) in
    let lengths : length (map reference_word slots) ≡ length (map reference_word slots') = length-map slots reference_word ∙ sizes.1 ∙ sym (length-map slots' reference_word) in
    let parts = fronts_one (map reference_word slots) (map reference_word slots') (map decimal values) (map decimal values') lengths (ap (drop 3) e) in
    let references = references_one slots slots' (small_all slots a.11) (small_all slots' b.11) parts.0 in
    let numbers = numbers_one values values' (small_all values a.12) (small_all values' b.12) parts.1 in
    let place = decimal_injective at at' a.8 b.8 (ap (word_at 1) e) in
    a.14 ∙ (λ t. with_object s (regions.0 t) (regions.1 t) (counts.0 t) (counts.1 t) (place t) (references t) (numbers t)) ∙ sym b.14

-- lines of the same words add the same
line_one : (s : Content) (l m : Line) (c d : Content) → words_of l ≡ words_of m → Takes s l c → Takes s m d → c ≡ d
line_one s (Root m x) (Root n y) c d e a b = root_one s m x n y c d e a b
line_one s (Root m x) (Dirty ys) c d e a b = let t : 11404 ≡ 10005 = ap tag e in absurd (omega (arith, t))
line_one s (Root m x) (Numbers r' k' t' o' m' p') c d e a b = let t : 11404 ≡ 11406 = ap tag e in absurd (omega (arith, t))
line_one s (Root m x) (Remembered r' ys) c d e a b = let t : 11404 ≡ 11410 = ap tag e in absurd (omega (arith, t))
line_one s (Root m x) (Holds at' slots' values') c d e a b = let t : 11404 ≡ 11106 = ap tag e in absurd (omega (arith, t))
line_one s (Dirty xs) (Root n y) c d e a b = let t : 10005 ≡ 11404 = ap tag e in absurd (omega (arith, t))
line_one s (Dirty xs) (Dirty ys) c d e a b = dirty_one s xs ys c d e a b
line_one s (Dirty xs) (Numbers r' k' t' o' m' p') c d e a b = let t : 10005 ≡ 11406 = ap tag e in absurd (omega (arith, t))
line_one s (Dirty xs) (Remembered r' ys) c d e a b = let t : 10005 ≡ 11410 = ap tag e in absurd (omega (arith, t))
line_one s (Dirty xs) (Holds at' slots' values') c d e a b = let t : 10005 ≡ 11106 = ap tag e in absurd (omega (arith, t))
line_one s (Numbers r k t o m p) (Root n y) c d e a b = let t : 11406 ≡ 11404 = ap tag e in absurd (omega (arith, t))
line_one s (Numbers r k t o m p) (Dirty ys) c d e a b = let t : 11406 ≡ 10005 = ap tag e in absurd (omega (arith, t))
line_one s (Numbers r k t o m p) (Numbers r' k' t' o' m' p') c d e a b = region_one s r k t o m p r' k' t' o' m' p' c d e a b
line_one s (Numbers r k t o m p) (Remembered r' ys) c d e a b = let t : 11406 ≡ 11410 = ap tag e in absurd (omega (arith, t))
line_one s (Numbers r k t o m p) (Holds at' slots' values') c d e a b = let t : 11406 ≡ 11106 = ap tag e in absurd (omega (arith, t))
line_one s (Remembered r xs) (Root n y) c d e a b = let t : 11410 ≡ 11404 = ap tag e in absurd (omega (arith, t))
line_one s (Remembered r xs) (Dirty ys) c d e a b = let t : 11410 ≡ 10005 = ap tag e in absurd (omega (arith, t))
line_one s (Remembered r xs) (Numbers r' k' t' o' m' p') c d e a b = let t : 11410 ≡ 11406 = ap tag e in absurd (omega (arith, t))
line_one s (Remembered r xs) (Remembered r' ys) c d e a b = remembered_one s r xs r' ys c d e a b
line_one s (Remembered r xs) (Holds at' slots' values') c d e a b = let t : 11410 ≡ 11106 = ap tag e in absurd (omega (arith, t))
line_one s (Holds at slots values) (Root n y) c d e a b = let t : 11106 ≡ 11404 = ap tag e in absurd (omega (arith, t))
line_one s (Holds at slots values) (Dirty ys) c d e a b = let t : 11106 ≡ 10005 = ap tag e in absurd (omega (arith, t))
line_one s (Holds at slots values) (Numbers r' k' t' o' m' p') c d e a b = let t : 11106 ≡ 11406 = ap tag e in absurd (omega (arith, t))
line_one s (Holds at slots values) (Remembered r' ys) c d e a b = let t : 11106 ≡ 11410 = ap tag e in absurd (omega (arith, t))
line_one s (Holds at slots values) (Holds at' slots' values') c d e a b = object_one s at slots values at' slots' values' c d e a b

-- so do lists of lines
pub adds_one : (ls ms : List Line) (s c d : Content) → map words_of ls ≡ map words_of ms → Adds s ls c → Adds s ms d → c ≡ d
adds_one [] [] s c d e a b = sym a ∙ b
adds_one [] (m ∷ ms) s c d e a b = let l = ap length e in absurd (omega (arith, l))
adds_one (l ∷ ls) [] s c d e a b = let n = ap length e in absurd (omega (arith, n))
adds_one (l ∷ ls) (m ∷ ms) s c d e a b =
    let first = line_one s l m a.0 b.0 (ap (λ (ws : List (List (List ℕ))). get_or ws 0 []) e) a.1 b.1 in
    adds_one ls ms a.0 c d (ap (drop 1) e) a.2 (subst (λ x. Adds x ms d) (sym first) b.2)

-- THE WORDS OF A LINE SAY AT MOST ONE THING
pub says_one : LinesSayOne
says_one None words c d a b = heading_one words c d a b
says_one (Some s) words c d a b = line_one s a.0 b.0 c d (sym a.1 ∙ b.1) a.2 b.2
