-- The text of lines that are pushed one after the other.
use Rattle.std.proofs.Common.{◌≡◌, ℕ, zero, suc, ◌+◌, ◌<◌, ◌≤◌, ◌==◌, false, List, [], ◌∷◌, ◌++◌, length, get_or, take, map, flat_map, Contains, refl, sym, ◌∙◌, ap, subst, arith, append_assoc, append-nil}
use Rattle.std.specs.Prelude.{decimal, codes, slice_index}
use Rattle.std.specs.List.{range_with_len}
use Rattle.std.proofs.lemmas.List.{flat_map_more}
use Rattle.std.proofs.lemmas.List.Concat.{flat_map-append}
use Rattle.std.proofs.lemmas.List.Folds.{flat_map-map}
use Rattle.std.proofs.lemmas.List.Elements.{Contains-get_or}
use Rattle.g1_words.specs.Heap.{Heap, objects_in, objects, object_at, regions}
use Rattle.g1_words.specs.declared.object.Object.{Object}
use Rattle.g1_words.specs.Valid.{IsValid}
use Rattle.g1_words.proofs.Members.{map_cases, Contains-flat_map}
use Rattle.g1_words.proofs.Computed.{Contains-range, in_region_has, contains_has}
use Rattle.g1_words.proofs.Sound.{has_is, object_in}
use Rattle.g1_words.proofs.Lists.{range_more}
use Rattle.g1_image.specs.Image.{Image}
use Rattle.g1_text.specs.Lines.{line_text, further, text_of, reference_word, heading, root_line, root_lines, cards_words, log_lines, slot_values, data_values, object_line, region_lines, image_text}

-- one item more
pub one_more : {X : Type 0} (f : X → List ℕ) (old now after : List ℕ) (xs : List X) (i : ℕ) (d : X) → i < length xs →
    now ≡ old ++ flat_map f (take i xs) → after ≡ now ++ f (get_or xs i d) → after ≡ old ++ flat_map f (take (i + 1) xs)
one_more {X} f old now after xs i d lt e p =
    p ∙ ap (λ ys. ys ++ f (get_or xs i d)) e ∙ flat_map_more f old (take i xs) (get_or xs i d) ∙ ap (λ ys. old ++ flat_map f ys) (sym (more xs i lt))
  where
    more : (xs : List X) (i : ℕ) → i < length xs → take (i + 1) xs ≡ take i xs ++ get_or xs i d ∷ []
    more [] i lt = absurd (omega (arith, lt))
    more (x ∷ xs) zero lt = refl
    more (x ∷ xs) (suc i) lt = let e : suc i + 1 ≡ suc (i + 1) = omega arith in ap (λ n. take n (x ∷ xs)) e ∙ ap (λ ys. x ∷ ys) (more xs i (omega (arith, lt)))

-- one number more
pub one_number_more : (f : ℕ → List ℕ) (old now after : List ℕ) (n : ℕ) → now ≡ old ++ flat_map f (range_with_len 0 n) → after ≡ now ++ f n → after ≡ old ++ flat_map f (range_with_len 0 (n + 1))
one_number_more f old now after n e p =
    let z : 0 + n ≡ n = omega arith in
    p ∙ ap (λ ys. ys ++ f n) e ∙ flat_map_more f old (range_with_len 0 n) n ∙ ap (λ ys. old ++ flat_map f ys) (ap (λ x. range_with_len 0 n ++ x ∷ []) (sym z) ∙ sym (range_more 0 n))

pub take_all : {X : Type 0} (i : ℕ) (xs : List X) → length xs ≤ i → take i xs ≡ xs
take_all zero [] le = refl
take_all zero (x ∷ xs) le = absurd (omega (arith, le))
take_all (suc i) [] le = refl
take_all (suc i) (x ∷ xs) le = ap (λ ys. x ∷ ys) (take_all i xs (omega (arith, le)))

-- words that values write, and the words behind them
pub further_map : {X : Type 0} (f : X → List ℕ) (xs : List X) (words : List (List ℕ)) → further (map f xs ++ words) ≡ flat_map (λ x. 32 ∷ f x) xs ++ further words
further_map f [] words = refl
further_map f (x ∷ xs) words = ap (λ ys. 32 ∷ (f x ++ ys)) (further_map f xs words) ∙ ap (λ ys. 32 ∷ ys) (sym (append_assoc (f x) (flat_map (λ x. 32 ∷ f x) xs) (further words)))

pub further_words : {X : Type 0} (f : X → List ℕ) (xs : List X) → further (map f xs) ≡ flat_map (λ x. 32 ∷ f x) xs ++ 10 ∷ []
further_words f xs = ap further (sym (append-nil (map f xs))) ∙ further_map f xs []

pub text_map : {X : Type 0} (f : X → List (List ℕ)) (xs : List X) → text_of (map f xs) ≡ flat_map (λ x. line_text (f x)) xs
text_map f xs = flat_map-map line_text f xs

pub text_append : (xs ys : List (List (List ℕ))) → text_of (xs ++ ys) ≡ text_of xs ++ text_of ys
text_append xs ys = flat_map-append line_text xs ys

pub text_flat_map : {X : Type 0} (f : X → List (List (List ℕ))) (xs : List X) → text_of (flat_map f xs) ≡ flat_map (λ x. text_of (f x)) xs
text_flat_map f [] = refl
text_flat_map f (x ∷ xs) = text_append (f x) (flat_map f xs) ∙ ap (λ ys. text_of (f x) ++ ys) (text_flat_map f xs)

-- members that are written alike
same_text : {X : Type 0} (f g : X → List ℕ) (xs : List X) → ((x : X) → Contains xs x → f x ≡ g x) → flat_map f xs ≡ flat_map g xs
same_text f g [] same = refl
same_text f g (x ∷ xs) same = ap (λ ys. ys ++ flat_map f xs) (same x (zero, omega arith, refl)) ∙ ap (λ ys. g x ++ ys) (same_text f g xs (λ y i. same y (suc i.0, omega (arith, i.1), i.2)))

-- the addresses of a region's objects, and what is written of each
module _ (h : Heap) (r : ℕ) (valid : IsValid h) (lt : r < h.geometry.n) where
  is_object : (o : Object) → Contains (objects_in h r) o → object_at h o.at ≡ o
  is_object o i = sym (has_is h o valid (in_region_has h r o valid.shaped lt i))

  pub object_there : (starts : List ℕ) (i : ℕ) → i < length starts → starts ≡ map (λ o. o.at) (objects_in h r) → Contains (objects h) (object_at h (get_or starts i 0))
  object_there starts i small e =
      let m = map_cases (λ (o : Object). o.at) (objects_in h r) (get_or starts i 0) (subst (λ xs. Contains xs (get_or starts i 0)) e (Contains-get_or starts i 0 small)) in
      let same : m.0 ≡ object_at h (get_or starts i 0) = sym (is_object m.0 m.1) ∙ ap (object_at h) m.2 in
      subst (Contains (objects h)) same (Contains-flat_map (objects_in h) (regions h) r m.0 (Contains-range 0 h.geometry.n r (omega arith) (omega (arith, lt))) m.1)

  pub objects_text : (f : Object → List (List ℕ)) (starts : List ℕ) → starts ≡ map (λ o. o.at) (objects_in h r) →
      flat_map (λ a. line_text (f (object_at h a))) starts ≡ text_of (map f (objects_in h r))
  objects_text f starts e =
      ap (flat_map (λ a. line_text (f (object_at h a)))) e
      ∙ flat_map-map (λ a. line_text (f (object_at h a))) (λ (o : Object). o.at) (objects_in h r)
      ∙ same_text (λ (o : Object). line_text (f (object_at h o.at))) (λ o. line_text (f o)) (objects_in h r) (λ o i. ap (λ q. line_text (f q)) (is_object o i))
      ∙ sym (text_map f (objects_in h r))

-- four pieces, one behind the other
four : (old first middle now after t a b e : List ℕ) → first ≡ old ++ t → middle ≡ first ++ a → now ≡ middle ++ b → after ≡ now ++ e → after ≡ old ++ (t ++ (a ++ (b ++ e)))
four old first middle now after t a b e p q r s =
    s ∙ ap (λ xs. xs ++ e) r ∙ ap (λ xs. (xs ++ b) ++ e) q ∙ ap (λ xs. ((xs ++ a) ++ b) ++ e) p
    ∙ append_assoc ((old ++ t) ++ a) b e ∙ append_assoc (old ++ t) a (b ++ e) ∙ append_assoc old t (a ++ (b ++ e))

-- a word, the numbers behind it, and the end of the line
pub numbers_end : (old first now after word numbers : List ℕ) (i : ℕ) → length numbers ≤ i → first ≡ old ++ word →
    now ≡ first ++ flat_map (λ x. 32 ∷ decimal x) (take i numbers) → after ≡ now ++ 10 ∷ []
    → after ≡ old ++ (word ++ further (map decimal numbers))
numbers_end old first now after word numbers i le p q r =
    four old first now now after word (flat_map (λ x. 32 ∷ decimal x) (take i numbers)) [] (10 ∷ []) p q (sym (append-nil now)) r
    ∙ ap (λ xs. old ++ (word ++ xs)) (ap (λ xs. flat_map (λ x. 32 ∷ decimal x) xs ++ 10 ∷ []) (take_all i numbers le) ∙ sym (further_words decimal numbers))

-- the head of an object's line
pub header_end : (old first now after : List ℕ) (o : Object) → first ≡ old ++ (codes "object " ++ decimal o.at) → now ≡ first ++ 32 ∷ decimal o.size → after ≡ now ++ 47 ∷ decimal o.refs
    → after ≡ old ++ (codes "object " ++ (decimal o.at ++ 32 ∷ (decimal o.size ++ 47 ∷ decimal o.refs)))
header_end old first now after o p q r = four old first now now after (codes "object " ++ decimal o.at) (32 ∷ decimal o.size) [] (47 ∷ decimal o.refs) p q (sym (append-nil now)) r

-- a root's line, piece by piece
pub root_end : (old first now after : List ℕ) (m x : ℕ) → first ≡ old ++ (codes "root " ++ decimal m) → now ≡ first ++ 32 ∷ reference_word x → after ≡ now ++ 10 ∷ []
    → after ≡ old ++ line_text (root_line m x)
root_end old first now after m x p q r = four old first now now after (codes "root " ++ decimal m) (32 ∷ reference_word x) [] (10 ∷ []) p q (sym (append-nil now)) r

-- the line of the log
pub log_end : (old first after : List ℕ) (cards : List ℕ) → false ≡ (length cards == 0) → first ≡ old ++ codes "dirty" → after ≡ first ++ further (cards_words cards)
    → after ≡ old ++ text_of (log_lines cards)
log_end old first after [] some p q = grind arith
log_end old first after (card ∷ cards) some p q =
    let words : List ℕ = further (cards_words (card ∷ cards)) in
    q ∙ ap (λ xs. xs ++ words) p ∙ append_assoc old (codes "dirty") words ∙ ap (λ xs. old ++ xs) (sym (append-nil (codes "dirty" ++ words)))

-- an object's line, piece by piece
pub object_end : (old first middle now after cells others words : List ℕ) (o : Object) → cells ≡ slot_values words o → others ≡ data_values words o
    → first ≡ old ++ (codes "object " ++ (decimal o.at ++ 32 ∷ (decimal o.size ++ 47 ∷ decimal o.refs))) → middle ≡ first ++ flat_map (λ x. 32 ∷ reference_word x) cells
    → now ≡ middle ++ flat_map (λ x. 32 ∷ decimal x) others → after ≡ now ++ 10 ∷ [] → after ≡ old ++ line_text (object_line words o)
object_end old first middle now after cells others words o es ed p q r s =
    let lead : List ℕ = codes "object " in
    let sizes : List ℕ = decimal o.size ++ 47 ∷ decimal o.refs in
    let behind : List ℕ = flat_map (λ x. 32 ∷ reference_word x) cells ++ (flat_map (λ x. 32 ∷ decimal x) others ++ 10 ∷ []) in
    let ends : further (map reference_word cells ++ map decimal others) ≡ behind =
    further_map reference_word cells (map decimal others) ∙ ap (λ xs. flat_map (λ x. 32 ∷ reference_word x) cells ++ xs) (further_words decimal others) in
    let there : further (map reference_word (slot_values words o) ++ map decimal (data_values words o)) ≡ behind =
    ap (λ xs. further (map reference_word xs ++ map decimal (data_values words o))) (sym es) ∙ ap (λ xs. further (map reference_word cells ++ map decimal xs)) (sym ed) ∙ ends in
    four old first middle now after (lead ++ (decimal o.at ++ 32 ∷ sizes)) (flat_map (λ x. 32 ∷ reference_word x) cells) (flat_map (λ x. 32 ∷ decimal x) others) (10 ∷ []) p q r s
    ∙ ap (λ xs. old ++ (lead ++ xs)) (append_assoc (decimal o.at) (32 ∷ sizes) behind)
    ∙ ap (λ xs. old ++ (lead ++ (decimal o.at ++ 32 ∷ (sizes ++ xs)))) (sym there)

-- an object of a valid heap lies in its words
pub object_fits : (h : Heap) → IsValid h → (o : Object) → Contains (objects h) o → (o.refs < o.size) × (o.at + o.size ≤ length h.words)
object_fits h valid o c =
    let e : o ≡ object_at h o.at = has_is h o valid (contains_has h o valid.shaped c) in
    let p = object_in h o.at valid (subst (Contains (objects h)) e c) in
    subst (λ (q : Object). (q.refs < q.size) × (o.at + q.size ≤ length h.words)) (sym e) p

-- the lines of all roots
pub roots_end : (old now roots : List ℕ) (n : ℕ) → n ≡ length roots → now ≡ old
    ++ flat_map (λ m. line_text (root_line m (slice_index roots m))) (range_with_len 0 n) → now ≡ old ++ text_of (root_lines roots)
roots_end old now roots n e p =
    p ∙ ap (λ x. old ++ flat_map (λ m. line_text (root_line m (slice_index roots m))) (range_with_len 0 x)) e
    ∙ ap (λ xs. old ++ xs) (sym (text_map (λ m. root_line m (slice_index roots m)) (range_with_len 0 (length roots))))

-- the lines of all numbers below n
pub lines_end : (f : ℕ → List (List (List ℕ))) (old now : List ℕ) (n m : ℕ) → n ≡ m →
    now ≡ old ++ flat_map (λ r. text_of (f r)) (range_with_len 0 n) → now ≡ old ++ text_of (flat_map f (range_with_len 0 m))
lines_end f old now n m e p = p ∙ ap (λ x. old ++ flat_map (λ r. text_of (f r)) (range_with_len 0 x)) e ∙ ap (λ xs. old ++ xs) (sym (text_flat_map f (range_with_len 0 m)))

-- all lines of an image, part by part
pub image_end : (i : Image) (none first middle now after : List ℕ) → none ≡ [] → first ≡ none ++ line_text (heading i) → middle ≡ first ++ text_of (root_lines i.heap.roots)
    → now ≡ middle ++ text_of (log_lines i.log) → after ≡ now ++ text_of (flat_map (region_lines i) (regions i.heap)) → after ≡ image_text i
image_end i none first middle now after e p q r s =
    let roots : List (List (List ℕ)) = root_lines i.heap.roots in
    let log : List (List (List ℕ)) = log_lines i.log in
    let lines : List (List (List ℕ)) = flat_map (region_lines i) (regions i.heap) in
    four [] first middle now after (line_text (heading i)) (text_of roots) (text_of log) (text_of lines) (p ∙ ap (λ xs. xs ++ line_text (heading i)) e) q r s
    ∙ ap (λ xs. line_text (heading i) ++ xs)
    (sym (append_assoc (text_of roots) (text_of log) (text_of lines)) ∙ ap (λ xs. xs ++ text_of lines) (sym (text_append roots log)) ∙ sym (text_append (roots ++ log) lines))
