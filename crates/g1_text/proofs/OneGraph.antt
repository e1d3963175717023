-- A text says at most one graph by name.
use Rattle.std.proofs.Common.{◌≡◌, ◌≢◌, inl, inr, ℕ, zero, suc, ◌-◌, ◌<◌, ◌^◌, List, [], ◌∷◌, ◌++◌, length, get_or, map, take, drop, replicate, length-append, length-take, refl, sym, ◌∙◌, ap, subst, arith}
use Rattle.std.specs.Prelude.{Option, Some, None, All, codes}
use Rattle.std.specs.Char.{digit_value}
use Rattle.std.specs.Str.Parse.{AllDigits, digits_value}
use Rattle.std.specs.Float.Parse.{parse_float, read_float}
use Rattle.std.specs.Float.Numeral.{scan_numeral}
use lib.Ieee.{binary64}
use Rattle.std.proofs.lemmas.List.{take-append-drop, length-drop, length-map}
use Rattle.std.proofs.lemmas.List.Elements.{All-nil, All-cons, All-append}
use Rattle.g1_words.specs.Geometry.{Geometry}
use Rattle.g1_text.specs.Forms.{Spells, HasSize, IsDataWord}
use Rattle.g1_text.specs.Graphs.{NamedObject, NamedRoot, NamedGraph, SaysSizes, SaysRoot, SaysObject, SaysNamed, SayNamed, Shortens, IsTargetName, size_of, target_word, holder_words, empty_graph}
use Rattle.g1_text.specs.Laws.{TextsSayOneGraph}
use Rattle.g1_text.proofs.Fields.{fronts_one}

-- NUMBERS
no_slash : (a : ℕ) → 47 ≡ a → digit_value a < 10 → ⊥
no_slash a e = subst (λ x. digit_value x < 10 → ⊥) e (λ q. absurd (omega (arith, q)))

digits_one : (a b xs ys : List ℕ) → AllDigits 10 a → AllDigits 10 b → a ++ 47 ∷ xs ≡ b ++ 47 ∷ ys → (a ≡ b) × (xs ≡ ys)
digits_one [] [] xs ys p q e = (refl, ap (drop 1) e)
digits_one [] (b ∷ bs) xs ys p q e = absurd (no_slash b (ap (λ zs. get_or zs 0 0) e) q.0)
digits_one (a ∷ at) [] xs ys p q e = absurd (no_slash a (ap (λ zs. get_or zs 0 0) (sym e)) p.0)
digits_one (a ∷ at) (b ∷ bs) xs ys p q e =
    let first : a ≡ b = ap (λ zs. get_or zs 0 0) e in
    let rest = digits_one at bs xs ys p.1 q.1 (ap (drop 1) e) in
    ((λ i. first i ∷ rest.0 i), rest.1)

number_one : (m n : ℕ) (v w : List ℕ) → Spells (2 ^ 64) m v → Spells (2 ^ 64) n w → v ≡ w → m ≡ n
number_one m n v w p q e = sym p.1 ∙ ap (λ x. digits_value 10 x) e ∙ q.1

pub size_one : (s r u v : ℕ) (word other : List ℕ) → HasSize s r word → HasSize u v other → word ≡ other → (s ≡ u) × (r ≡ v)
size_one s r u v word other p q e =
    let parts = digits_one p.0 q.0 p.1 q.1 p.3.0.1 q.3.0.1 (sym p.2 ∙ e ∙ q.2) in
    (number_one s u p.0 q.0 p.3 q.3 parts.0, number_one r v p.1 q.1 p.4 q.4 parts.1)

-- TWO DOTS are no word of an object
dots_unread : parse_float binary64 (codes "..") ≡ None
unfolding read_float scan_numeral
dots_unread = refl

dots_no_data : IsDataWord (codes "..") → ⊥
dots_no_data (n, inl p) = let d = p.0.1.0 in absurd (omega (arith, d))
dots_no_data (n, inr (inl p)) = let e : 46 ≡ 45 = ap (λ w. get_or w 0 0) p.2 in absurd (omega (arith, e))
dots_no_data (n, inr (inr (inl p))) = let e : 46 ≡ 48 = ap (λ w. get_or w 0 0) p.1 in absurd (omega (arith, e))
dots_no_data (n, inr (inr (inr (inl p)))) = let e : 46 ≡ 34 = ap (λ w. get_or w 0 0) p.1 in absurd (omega (arith, e))
dots_no_data (n, inr (inr (inr (inr p)))) = let e = sym dots_unread ∙ p.4 in cc

dot_name : (t : Option (List ℕ)) → IsTargetName t → target_word t ≢ codes ".."
dot_name None is e = let l : 1 ≡ 2 = ap length e in absurd (omega (arith, l))
dot_name (Some name) is e = is.1 e

pub names_no_dots : (slots : List (Option (List ℕ))) → All IsTargetName slots → All (λ w. w ≢ codes "..") (map target_word slots)
names_no_dots [] all = All-nil (λ w. w ≢ codes "..")
names_no_dots (t ∷ slots) all = All-cons (λ w. w ≢ codes "..") (target_word t) (map target_word slots) (dot_name t (all 0 None (omega arith))) (names_no_dots slots (λ k d lt. all (suc k) d (omega (arith, lt))))

pub data_no_dots : (words : List (List ℕ)) → All IsDataWord words → All (λ w. w ≢ codes "..") words
data_no_dots words all k d lt e = dots_no_data (subst IsDataWord e (all k d lt))

-- so they stand at the end of no words in full
pub not_last : (words : List (List ℕ)) → All (λ w. w ≢ codes "..") (words ++ codes ".." ∷ []) → ⊥
not_last [] all = all 0 [] (omega arith) refl
not_last (w ∷ words) all = not_last words (λ k d lt. all (suc k) d (omega (arith, lt)))

-- WHAT IS LEFT OUT is known
all_this : (word : List ℕ) (words : List (List ℕ)) → All (λ w. w ≡ word) words → words ≡ replicate (length words) word
all_this word [] all = refl
all_this word (w ∷ words) all = let first = all 0 [] (omega arith) in let rest = all_this word words (λ k d lt. all (suc k) d (omega (arith, lt))) in λ i. first i ∷ rest i

front_and_this : (word : List ℕ) (xs ys : List (List ℕ)) (n m : ℕ) → take n xs ≡ take m ys → length xs ≡ length ys → All (λ w. w ≡ word) (drop n xs) → All (λ w. w ≡ word) (drop m ys) → xs ≡ ys
front_and_this word xs ys n m front same a b =
    let count = ap length front in
    let one = length-take n xs in
    let two = length-take m ys in
    let left = length-drop n xs in
    let right = length-drop m ys in
    let many : length (drop n xs) ≡ length (drop m ys) = omega (arith, count, one, two, left, right, same) in
    sym (take-append-drop n xs) ∙ (λ i. front i ++ (all_this word (drop n xs) a ∙ ap (λ k. replicate k word) many ∙ sym (all_this word (drop m ys) b)) i) ∙ take-append-drop m ys

pub take_both : {A : Type 0} (n : ℕ) (xs ys : List A) → take n (xs ++ ys) ≡ take n xs ++ take (n - length xs) ys
take_both zero [] ys = refl
take_both (suc n) [] ys = let e : suc n ≡ suc n - 0 = omega arith in ap (λ k. take k ys) e
take_both zero (x ∷ xs) ys = let e : 0 ≡ 0 - length (x ∷ xs) = omega arith in ap (λ k. take k ys) e
take_both (suc n) (x ∷ xs) ys = let e : n - length xs ≡ suc n - length (x ∷ xs) = omega arith in ap (λ zs. x ∷ zs) (take_both n xs ys ∙ ap (λ k. take n xs ++ take k ys) e)

module _ (xs us ys vs words : List (List ℕ)) (same_slots : length xs ≡ length us) (same_data : length ys ≡ length vs) (no_dots : All (λ w. w ≢ codes "..") (xs ++ ys)) (none_there : All (λ w. w ≢ codes "..") (us ++ vs)) where
  pub shortened_one : Shortens xs ys words → Shortens us vs words → (xs ≡ us) × (ys ≡ vs)
  shortened_one (inl p) (inl q) = fronts_one xs us ys vs same_slots (sym p ∙ q)
  shortened_one (inl p) (inr q) = absurd (not_last (take q.0 (us ++ vs)) (subst (All (λ w. w ≢ codes "..")) (sym p ∙ q.1) no_dots))
  shortened_one (inr p) (inl q) = absurd (not_last (take p.0 (xs ++ ys)) (subst (All (λ w. w ≢ codes "..")) (sym q ∙ p.1) none_there))
  shortened_one (inr p) (inr q) =
      let n = p.0 in
      let m = q.0 in
      let e : take n (xs ++ ys) ++ codes ".." ∷ [] ≡ take m (us ++ vs) ++ codes ".." ∷ [] = sym p.1 ∙ q.1 in
      let whole = ap length e in
      let left = length-append (take n (xs ++ ys)) (codes ".." ∷ []) in
      let right = length-append (take m (us ++ vs)) (codes ".." ∷ []) in
      let count : length (take n (xs ++ ys)) ≡ length (take m (us ++ vs)) = omega (arith, whole, left, right) in
      let given = (fronts_one (take n (xs ++ ys)) (take m (us ++ vs)) (codes ".." ∷ []) (codes ".." ∷ []) count e).0 in
      let a = length-take n (xs ++ ys) in
      let b = length-take m (us ++ vs) in
      let c = length-append xs ys in
      let d = length-append us vs in
      let f = length-take n xs in
      let g = length-take m us in
      let slots : length (take n xs) ≡ length (take m us) = omega (arith, count, a, b, c, d, f, g, same_slots, same_data) in
      let both = fronts_one (take n xs) (take m us) (take (n - length xs) ys) (take (m - length us) vs) slots (sym (take_both n xs ys) ∙ given ∙ take_both m us vs) in
      (front_and_this (codes "-") xs us n m both.0 same_slots p.2 q.2, front_and_this (codes "0") ys vs (n - length xs) (m - length us) both.1 same_data p.3 q.3)

-- TARGETS
target_one : (t u : Option (List ℕ)) → IsTargetName t → IsTargetName u → target_word t ≡ target_word u → t ≡ u
target_one None None p q e = refl
target_one None (Some name) p q e = absurd (q.0 (sym e))
target_one (Some name) None p q e = absurd (p.0 e)
target_one (Some name) (Some other) p q e = ap Some e

pub targets_one : (ts us : List (Option (List ℕ))) → All IsTargetName ts → All IsTargetName us → map target_word ts ≡ map target_word us → ts ≡ us
targets_one [] [] p q e = refl
targets_one [] (u ∷ us) p q e = let l = ap length e in absurd (omega (arith, l))
targets_one (t ∷ ts) [] p q e = let l = ap length e in absurd (omega (arith, l))
targets_one (t ∷ ts) (u ∷ us) p q e =
    let first = target_one t u (p 0 None (omega arith)) (q 0 None (omega arith)) (ap (λ ws. get_or ws 0 []) e) in
    let rest = targets_one ts us (λ k d lt. p (suc k) d (omega (arith, lt))) (λ k d lt. q (suc k) d (omega (arith, lt))) (ap (drop 1) e) in
    λ i. first i ∷ rest i

holder_one : (h k : Option (List ℕ)) → holder_words h ≡ holder_words k → h ≡ k
holder_one None None e = refl
holder_one None (Some k) e = let l = ap length e in absurd (omega (arith, l))
holder_one (Some h) None e = let l = ap length e in absurd (omega (arith, l))
holder_one (Some h) (Some k) e = ap (λ ws. Some (get_or ws 1 h)) e

-- LINES
root_one : (r q : NamedRoot) (words : List (List ℕ)) → SaysRoot r words → SaysRoot q words → r ≡ q
root_one r q words a b =
    let e = sym a.line ∙ b.line in
    let target = target_one r.target q.target a.target b.target (ap (λ ws. get_or ws 1 []) e) in
    let holder = holder_one r.holder q.holder (ap (drop 2) e) in
    λ i. record { target = target i; holder = holder i }

object_one : (o p : NamedObject) (words : List (List ℕ)) → SaysObject o words → SaysObject p words → o ≡ p
object_one o p words a b =
    let e = sym a.line ∙ b.line in
    let name : o.name ≡ p.name = ap (λ ws. get_or ws 1 []) e in
    let sizes = size_one (size_of o) (length o.slots) (size_of p) (length p.slots) a.size b.size a.has_size b.has_size (ap (λ ws. get_or ws 2 []) e) in
    let same_size = sizes.0 in
    let same_slots = sizes.1 in
    let one = length-map o.slots target_word in
    let two = length-map p.slots target_word in
    let content = shortened_one (map target_word o.slots) (map target_word p.slots) o.written p.written a.content (omega (arith, same_slots, one, two)) (omega (arith, same_size, same_slots))
    (All-append (λ w. w ≢ codes "..") (map target_word o.slots) o.written (names_no_dots o.slots a.targets) (data_no_dots o.written a.are_data))
    (All-append (λ w. w ≢ codes "..") (map target_word p.slots) p.written (names_no_dots p.slots b.targets) (data_no_dots p.written b.are_data))
    a.shortens (subst (Shortens (map target_word p.slots) p.written) (sym (ap (drop 3) e)) b.shortens) in
    let slots = targets_one o.slots p.slots a.targets b.targets content.0 in
    λ i. record { name = name i; slots = slots i; written = content.1 i }

sizes_one : (s t : Option Geometry) (words : List (List ℕ)) → SaysSizes s words → SaysSizes t words → s ≡ t
sizes_one None None words a b = refl
sizes_one None (Some t) words a b = let l = ap length (sym a ∙ b.3) in absurd (omega (arith, l))
sizes_one (Some s) None words a b = let l = ap length (sym b ∙ a.3) in absurd (omega (arith, l))
sizes_one (Some s) (Some t) words a b =
    let e = sym a.3 ∙ b.3 in
    let w = number_one s.w t.w a.0 b.0 a.5 b.5 (ap (λ ws. get_or ws 1 []) e) in
    let k = number_one s.k t.k a.1 b.1 a.6 b.6 (ap (λ ws. get_or ws 2 []) e) in
    let n = number_one s.n t.n a.2 b.2 a.7 b.7 (ap (λ ws. get_or ws 3 []) e) in
    λ i. Some (record { w = w i; k = k i; n = n i })

-- a line is a root's or an object's
not_both : (r : NamedRoot) (o : NamedObject) (words : List (List ℕ)) → SaysRoot r words → SaysObject o words → ⊥
not_both r o words a b = let l = ap (λ ws. length (get_or ws 0 [])) (sym a.line ∙ b.line) in absurd (omega (arith, l))

line_one : (before : Option NamedGraph) (words : List (List ℕ)) (g h : NamedGraph) → SaysNamed before words g → SaysNamed before words h → g ≡ h
line_one None words g h a b = a.2 ∙ ap empty_graph (sizes_one a.0 b.0 words a.1 b.1) ∙ sym b.2
line_one (Some f) words g h (inl a) (inl b) = a.3 ∙ ap (λ r. record f { roots = f.roots ++ r ∷ [] }) (root_one a.0 b.0 words a.1 b.1) ∙ sym b.3
line_one (Some f) words g h (inl a) (inr b) = absurd (not_both a.0 b.0 words a.1 b.1)
line_one (Some f) words g h (inr a) (inl b) = absurd (not_both b.0 a.0 words b.1 a.1)
line_one (Some f) words g h (inr a) (inr b) = a.3 ∙ ap (λ o. record f { objects = f.objects ++ o ∷ [] }) (object_one a.0 b.0 words a.1 b.1) ∙ sym b.3

pub lines_one : (before g h : Option NamedGraph) (lines : List (List (List ℕ))) → SayNamed before lines g → SayNamed before lines h → g ≡ h
lines_one before g h [] a b = sym a ∙ b
lines_one before g h (line ∷ lines) a b =
    let first = line_one before line a.0 b.0 a.1 b.1 in
    lines_one (Some a.0) g h lines a.2 (subst (λ x. SayNamed (Some x) lines h) (sym first) b.2)

abbrev graph_or : NamedGraph → Option NamedGraph → NamedGraph
graph_or g None = g
graph_or g (Some h) = h

-- A TEXT SAYS at most one graph
pub texts_say_one_graph : TextsSayOneGraph
texts_say_one_graph text g h a b =
    let lines : b.lines ≡ a.lines = sym b.has.same ∙ a.has.same in
    ap (graph_or g) (lines_one None (Some g) (Some h) a.lines a.says (subst (λ ls. SayNamed None ls (Some h)) lines b.says))
