-- Each word once: what a set that keeps an order has of words.
use Rattle.std.proofs.Common.{◌≡◌, Bool, true, false, cond, not, ◌&&◌, ◌||◌, List, [], ◌∷◌, ◌++◌, Bor, map, filter, if◌then◌else◌, append-nil, append_assoc, refl, sym, ◌∙◌, ap, subst}
use Rattle.std.specs.Prelude.{Option, Some, None, ℕ, IsUtf8, flat_map, bytes_eq, codes}
use Rattle.std.specs.List.{list_any, list_all}
use Rattle.std.specs.Str.{is_utf8}
use Rattle.std.proofs.lemmas.Bool.{false_from_ne_true}
use Rattle.std.proofs.lemmas.Str.{IsUtf8-from_is_utf8, is_utf8-from_IsUtf8}
use Rattle.std.proofs.lemmas.List.Folds.{list_any-append}
use Rattle.std.proofs.lemmas.Slice.Eq.{bytes_eq-Decides}
use Rattle.indexmap.specs.IndexSet.{insert_key}
use Rattle.g1_text.specs.Reading.{words_in}
use Rattle.g1_text.specs.Boxes.{is_among, firsts, names_in, slot_words_of, is_value, value_line, place_line, place_line_in, place_of_word, box_line}
use Rattle.g1_text.specs.Marked.{is_marked, with_all, with_marked}
use Rattle.g1_text.proofs.Gathering.{map_push}

-- KEYS, seen by their bytes

pub keys_any : (word : List ℕ) (ks : List (Bor (List ℕ))) → list_any (λ k. bytes_eq word k.now) ks ≡ list_any (bytes_eq word) (map (λ k. k.now) ks)
keys_any word [] = refl
keys_any word (k ∷ ks) = ap (λ b. bytes_eq word k.now || b) (keys_any word ks)

put : (b : Bool) (ks : List (Bor (List ℕ))) (word : Bor (List ℕ))
    → map (λ k. k.now) (if b then ks else ks ++ word ∷ []) ≡ (if b then map (λ k. k.now) ks else map (λ k. k.now) ks ++ word.now ∷ [])
put true ks word = refl
put false ks word = map_push (λ k. k.now) ks word

pub keys_put : (ks : List (Bor (List ℕ))) (word : Bor (List ℕ))
    → map (λ k. k.now) (insert_key (λ x y. bytes_eq x.now y.now) ks word) ≡ insert_key bytes_eq (map (λ k. k.now) ks) word.now
keys_put ks word =
    put (list_any (λ k. bytes_eq word.now k.now) ks) ks word
    ∙ ap (λ b. if b then map (λ k. k.now) ks else map (λ k. k.now) ks ++ word.now ∷ []) (keys_any word.now ks)

-- a word with a mark more
pub word_put : (ks new : List (Bor (List ℕ))) (word : Bor (List ℕ)) → is_marked word.now ≡ true → new ≡ insert_key (λ x y. bytes_eq x.now y.now) ks word
    → map (λ k. k.now) new ≡ with_marked (map (λ k. k.now) ks) (word.now ∷ [])
word_put ks new word marked is =
    ap (map (λ k. k.now)) is ∙ keys_put ks word ∙ ap (λ b. with_all (map (λ k. k.now) ks) (cond b (word.now ∷ []) [])) (sym marked)

pub no_word_put : (words : List (List ℕ)) (word : List ℕ) → is_marked word ≡ false → words ≡ with_marked words (word ∷ [])
no_word_put words word not_marked = ap (λ b. with_all words (cond b (word ∷ []) [])) (sym not_marked)

-- words one after the other
pub all_append : (ks xs ys : List (List ℕ)) → with_all ks (xs ++ ys) ≡ with_all (with_all ks xs) ys
all_append ks [] ys = refl
all_append ks (x ∷ xs) ys = all_append (insert_key bytes_eq ks x) xs ys

pub marked_append : (ks xs ys : List (List ℕ)) → with_marked ks (xs ++ ys) ≡ with_marked (with_marked ks xs) ys
marked_append ks [] ys = refl
marked_append ks (x ∷ xs) ys = by (is_marked x) (marked_append (insert_key bytes_eq ks x) xs ys) (marked_append ks xs ys)
  where
    by : (b : Bool) → with_marked (insert_key bytes_eq ks x) (xs ++ ys) ≡ with_marked (with_marked (insert_key bytes_eq ks x) xs) ys
        → with_marked ks (xs ++ ys) ≡ with_marked (with_marked ks xs) ys → with_all ks (cond b (x ∷ filter is_marked (xs ++ ys)) (filter is_marked (xs ++ ys)))
        ≡ with_all (with_all ks (cond b (x ∷ filter is_marked xs) (filter is_marked xs))) (filter is_marked ys)
    by true more same = more
    by false more same = same

-- WHAT IS AMONG THEM

among_no_more : (w : List ℕ) (ks : List (List ℕ)) → is_among ks w ≡ (is_among ks w || false)
among_no_more w ks = sym (ap (λ l. is_among l w) (append-nil ks)) ∙ list_any-append (bytes_eq w) ks []

one_of_three : (a b c : Bool) → ((a || (b || false)) || c) ≡ (a || (b || c))
one_of_three true b c = refl
one_of_three false true c = refl
one_of_three false false c = refl

among_put : (w : List ℕ) (ks : List (List ℕ)) (k : List ℕ) → is_among (insert_key bytes_eq ks k) w ≡ (is_among ks w || is_among (k ∷ []) w)
among_put w ks k = by (is_among ks k) refl
  where
    same : is_among ks k ≡ true → (b : Bool) → bytes_eq w k ≡ b → is_among ks w ≡ (is_among ks w || (b || false))
    same e true t =
        let here : is_among ks w ≡ true = subst (λ v. is_among ks v ≡ true) (sym ((bytes_eq-Decides w k).0 t)) e in
        here ∙ ap (λ c. c || true) (sym here)
    same e false f = among_no_more w ks

    by : (b : Bool) → is_among ks k ≡ b → is_among (if b then ks else ks ++ k ∷ []) w ≡ (is_among ks w || is_among (k ∷ []) w)
    by true e = same e (bytes_eq w k) refl
    by false e = list_any-append (bytes_eq w) ks (k ∷ [])

pub among_all : (w : List ℕ) (ks xs : List (List ℕ)) → is_among (with_all ks xs) w ≡ (is_among ks w || is_among xs w)
among_all w ks [] = among_no_more w ks
among_all w ks (x ∷ xs) = among_all w (insert_key bytes_eq ks x) xs ∙ ap (λ c. c || is_among xs w) (among_put w ks x)
    ∙ one_of_three (is_among ks w) (bytes_eq w x) (is_among xs w)

-- the lines of words are the same, whether names come once or more often
place_line_same : (names : List (List ℕ)) (w : List ℕ) (o : Option (List ℕ × List ℕ)) → place_line_in (with_all [] names) w o ≡ place_line_in names w o
place_line_same names w None = refl
place_line_same names w (Some p) = ap (λ b. if b then place_line w p.0 p.1 else []) (among_all p.0 [] names)

pub box_line_same : (names : List (List ℕ)) (w : List ℕ) → box_line (with_all [] names) w ≡ box_line names w
box_line_same names w =
    let among = among_all w [] names in
    let place = place_line_same names w (place_of_word w) in
    λ i. if among i then [] else if is_value w then value_line w else place i

-- FIRSTS

-- what two tests keep
filter_twice : (p q r : List ℕ → Bool) → ((y : List ℕ) → r y ≡ (q y && p y)) → (ys : List (List ℕ)) → filter p (filter q ys) ≡ filter r ys
filter_twice p q r same [] = refl
filter_twice p q r same (y ∷ ys) = by (q y) (filter_twice p q r same ys) ∙ ap (λ c. cond c (y ∷ filter r ys) (filter r ys)) (sym (same y))
  where
    by : (b : Bool) → filter p (filter q ys) ≡ filter r ys → filter p (cond b (y ∷ filter q ys) (filter q ys)) ≡ cond (b && p y) (y ∷ filter r ys) (filter r ys)
    by true rest = ap (λ zs. cond (p y) (y ∷ zs) zs) rest
    by false rest = rest

neither : (a b : Bool) → not (a || (b || false)) ≡ (not b && not a)
neither true true = refl
neither true false = refl
neither false true = refl
neither false false = refl

-- a set that keeps an order has the words that it had, and then the first ones of the others
put_firsts : (ks xs : List (List ℕ)) → with_all ks xs ≡ ks ++ filter (λ x. not (is_among ks x)) (firsts xs)
put_firsts ks [] = sym (append-nil ks)
put_firsts ks (x ∷ xs) =
    put_firsts (insert_key bytes_eq ks x) xs
    ∙ ap (λ zs. insert_key bytes_eq ks x ++ zs)
    (sym (filter_twice (λ y. not (is_among ks y)) (λ y. not (bytes_eq y x)) (λ y. not (is_among (insert_key bytes_eq ks x) y))
    (λ y. ap not (among_put y ks x) ∙ neither (is_among ks y) (bytes_eq y x)) (firsts xs)))
    ∙ shape (is_among ks x) (filter (λ y. not (is_among ks y)) (filter (λ y. not (bytes_eq y x)) (firsts xs)))
  where
    shape : (b : Bool) (zs : List (List ℕ)) → (if b then ks else ks ++ x ∷ []) ++ zs ≡ ks ++ cond (not b) (x ∷ zs) zs
    shape true zs = refl
    shape false zs = append_assoc ks (x ∷ []) zs

filter_whole : (xs : List (List ℕ)) → filter (λ x. not (is_among [] x)) xs ≡ xs
filter_whole [] = refl
filter_whole (x ∷ xs) = ap (λ ys. x ∷ ys) (filter_whole xs)

all_firsts : (xs : List (List ℕ)) → with_all [] xs ≡ firsts xs
all_firsts xs = put_firsts [] xs ∙ filter_whole (firsts xs)

unless : (a b : Bool) → (a && not b) ≡ (not b && a)
unless true true = refl
unless true false = refl
unless false true = refl
unless false false = refl

-- the first ones of those that pass a test are those of the first ones that pass it
firsts_filter : (p : List ℕ → Bool) (xs : List (List ℕ)) → firsts (filter p xs) ≡ filter p (firsts xs)
firsts_filter p [] = refl
firsts_filter p (x ∷ xs) = by (p x) refl (firsts_filter p xs)
  where
    differs : List ℕ → Bool
    differs y = not (bytes_eq y x)

    rest : List (List ℕ)
    rest = filter differs (firsts xs)

    passes : p x ≡ false → (y : List ℕ) → p y ≡ (differs y && p y)
    passes e y = at (bytes_eq y x) refl
      where
        at : (b : Bool) → bytes_eq y x ≡ b → p y ≡ (not b && p y)
        at true t = ap p ((bytes_eq-Decides y x).0 t) ∙ e
        at false f = refl

    by : (b : Bool) → p x ≡ b → firsts (filter p xs) ≡ filter p (firsts xs)
        → firsts (cond b (x ∷ filter p xs) (filter p xs)) ≡ cond b (x ∷ filter p rest) (filter p rest)
    by true e same =
        ap (λ ys. x ∷ ys)
        (ap (filter differs) same
        ∙ filter_twice differs p (λ y. p y && differs y) (λ y. refl) (firsts xs)
        ∙ sym (filter_twice p differs (λ y. p y && differs y) (λ y. unless (p y) (bytes_eq y x)) (firsts xs)))
    by false e same = same ∙ sym (filter_twice p differs p (passes e) (firsts xs))

-- what no test passes has no lines
map_filter : (f : List ℕ → List ℕ) (p : List ℕ → Bool) → ((x : List ℕ) → p x ≡ false → f x ≡ []) → (xs : List (List ℕ))
    → flat_map f (filter p xs) ≡ flat_map f xs
map_filter f p none [] = refl
map_filter f p none (x ∷ xs) = by (p x) refl (map_filter f p none xs)
  where
    by : (b : Bool) → p x ≡ b → flat_map f (filter p xs) ≡ flat_map f xs → flat_map f (cond b (x ∷ filter p xs) (filter p xs)) ≡ f x ++ flat_map f xs
    by true e rest = ap (λ l. f x ++ l) rest
    by false e rest = rest ∙ ap (λ l. l ++ flat_map f xs) (sym (none x e))

-- THE LINES OF ALL BOXES
pub same_lines : (names words ns ws : List (List ℕ)) → ((x : List ℕ) → is_marked x ≡ false → box_line ns x ≡ []) → names ≡ with_all [] ns
    → words ≡ with_marked [] ws
    → flat_map (box_line names) words ≡ flat_map (box_line ns) (firsts ws)
same_lines names words ns ws none n w =
    (λ i. flat_map (box_line (n i)) (w i))
    ∙ (λ i. flat_map (λ x. box_line_same ns x i) (with_marked [] ws))
    ∙ ap (flat_map (box_line ns)) (all_firsts (filter is_marked ws) ∙ firsts_filter is_marked ws)
    ∙ map_filter (box_line ns) is_marked none (firsts ws)

-- ONE WORD
pub box_of_name : (names : List (List ℕ)) (w : List ℕ) → is_among names w ≡ true → box_line names w ≡ []
box_of_name names w a = ap (λ b. if b then [] else if is_value w then value_line w else place_line_in names w (place_of_word w)) a

pub box_of_value : (names : List (List ℕ)) (w : List ℕ) → is_among names w ≡ false → is_value w ≡ true → box_line names w ≡ value_line w
box_of_value names w a v = λ i. if a i then [] else if v i then value_line w else place_line_in names w (place_of_word w)

pub box_of_place : (names : List (List ℕ)) (w name distance : List ℕ) → is_among names w ≡ false → is_value w ≡ false
    → place_of_word w ≡ Some (name, distance) → is_among names name ≡ true
    → box_line names w ≡ place_line w name distance
box_of_place names w name distance a v p there =
    (λ i. if a i then [] else if v i then value_line w else place_line_in names w (p i)) ∙ ap (λ b. if b then place_line w name distance else []) there

pub box_of_other : (names : List (List ℕ)) (w name distance : List ℕ) → is_among names w ≡ false → is_value w ≡ false
    → place_of_word w ≡ Some (name, distance) → is_among names name ≡ false
    → box_line names w ≡ []
box_of_other names w name distance a v p none =
    (λ i. if a i then [] else if v i then value_line w else place_line_in names w (p i)) ∙ ap (λ b. if b then place_line w name distance else []) none

-- ONE LINE MORE
pub name_put : (ks new : List (Bor (List ℕ))) (name : Bor (List ℕ)) (first : List ℕ) (rest words : List (List ℕ)) → words ≡ first ∷ name.now ∷ rest
    → first ≡ codes "object"
    → new ≡ insert_key (λ x y. bytes_eq x.now y.now) ks name → map (λ k. k.now) new ≡ with_all (map (λ k. k.now) ks) (names_in words)
name_put ks new name first rest words is object put =
    ap (map (λ k. k.now)) put ∙ keys_put ks name
    ∙ ap (λ b. with_all (map (λ k. k.now) ks) (if b then name.now ∷ [] else [])) (sym ((bytes_eq-Decides first (codes "object")).1 object))
    ∙ ap (λ ws. with_all (map (λ k. k.now) ks) (names_in ws)) (sym is)

module _ (all parts rest : List (List ℕ)) (line : List ℕ) (is : parts ≡ line ∷ rest) where
  pub no_text : (IsUtf8 line → ⊥) → list_all is_utf8 parts ≡ list_all is_utf8 all → list_all is_utf8 all ≡ false
  no_text none so_far =
      sym so_far ∙ ap (list_all is_utf8) is ∙ ap (λ b. b && list_all is_utf8 rest) (false_from_ne_true (is_utf8 line) (λ e. none (IsUtf8-from_is_utf8 line e)))

  pub text_more : IsUtf8 line → list_all is_utf8 parts ≡ list_all is_utf8 all → list_all is_utf8 rest ≡ list_all is_utf8 all
  text_more text so_far = ap (λ b. b && list_all is_utf8 rest) (sym (is_utf8-from_IsUtf8 line text)) ∙ ap (list_all is_utf8) (sym is) ∙ so_far

module _ (old new all parts rest : List (List ℕ)) (line : List ℕ) (is : parts ≡ line ∷ rest) where
  pub names_more : new ≡ with_all old (names_in (words_in line)) → with_all old (flat_map names_in (map words_in parts)) ≡ all
      → with_all new (flat_map names_in (map words_in rest)) ≡ all
  names_more put so_far =
      ap (λ ks. with_all ks (flat_map names_in (map words_in rest))) put
      ∙ sym (all_append old (names_in (words_in line)) (flat_map names_in (map words_in rest)))
      ∙ ap (λ ps. with_all old (flat_map names_in (map words_in ps))) (sym is)
      ∙ so_far

  pub words_more : new ≡ with_marked old (slot_words_of (words_in line)) → with_marked old (flat_map slot_words_of (map words_in parts)) ≡ all
      → with_marked new (flat_map slot_words_of (map words_in rest)) ≡ all
  words_more put so_far =
      ap (λ ks. with_marked ks (flat_map slot_words_of (map words_in rest))) put
      ∙ sym (marked_append old (slot_words_of (words_in line)) (flat_map slot_words_of (map words_in rest)))
      ∙ ap (λ ps. with_marked old (flat_map slot_words_of (map words_in ps))) (sym is)
      ∙ so_far
