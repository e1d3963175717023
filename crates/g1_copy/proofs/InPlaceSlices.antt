-- What patches leave in a slice, where in a list a number stands, and lists that are put together of slices.
use Rattle.std.proofs.Common.{◌≡◌, ℕ, zero, suc, ◌+◌, ◌-◌, ◌*◌, ◌<◌, ◌≤◌, ◌⊎◌, inl, inr, Bool, true, false, cond, not, List, [], ◌∷◌, ◌++◌, Some, None, length, get_or, take, drop, set, Contains}
use Rattle.std.proofs.Common.{position, flat_map, refl, sym, ◌∙◌, ap, subst, arith, leb, ltb, leb-true, le-leb, lt-ltb, le-ltb, eqb, eq-eqb, ne_eqb, length-drop, length-append, length-take}
use Rattle.std.specs.List.{position_or_len}
use Rattle.std.proofs.lemmas.Bool.{cases_lt, false≢true}
use Rattle.std.proofs.Math.Nat.{zero-mul, suc-mul}
use Rattle.std.proofs.Math.Seq.{drop-append_seam, take-append_seam}
use Rattle.std.proofs.lemmas.List.{drop_more, get_or_default, set_past, get_or-take, get_or-drop, get_or-set_same, get_or-set_other, length-set, length-take-le, take-append-drop, drop-drop}
use Rattle.std.proofs.lemmas.List.Elements.{Contains-get_or}
use Rattle.g1_words.proofs.Firsts.{Distinct}
use Rattle.g1_words.proofs.Indices.{taken_in}
use Rattle.g1_words.proofs.Members.{Contains-later, none_contains}
use Rattle.g1_work.proofs.Slices.{slice_next}
use Rattle.g1_work.specs.Regions.{slice_of}
use Rattle.g1_copy.specs.Patches.{AreBefore}
use Rattle.g1_copy.specs.Slices.{patched}

-- positions

pub position_found : (xs : List ℕ) (t : ℕ) → Distinct xs → t < length xs → position_or_len (λ d. eqb d (get_or xs t 0)) xs ≡ t
position_found [] t d lt = absurd (omega arith)
position_found (x ∷ xs) zero d lt = let e : eqb x x ≡ true = eq-eqb x x refl in λ q. cond (not (e q)) (1 + position_or_len (λ d. eqb d x) xs) 0
position_found (x ∷ xs) (suc t) d lt =
    let y : ℕ = get_or xs t 0 in
    let e : eqb x y ≡ false = ne_eqb x y (λ g. d.0 (subst (λ z. Contains xs z) (sym g) (Contains-get_or xs t 0 (omega arith)))) in
    let k = position_found xs t d.1 (omega arith) in
    (λ q. cond (not (e q)) (1 + position_or_len (λ d. eqb d y) xs) 0) ∙ omega arith

pub position_missed : (xs : List ℕ) (r : ℕ) → (Contains xs r → ⊥) → position_or_len (λ d. eqb d r) xs ≡ length xs
position_missed [] r f = refl
position_missed (x ∷ xs) r f =
    let e : eqb x r ≡ false = ne_eqb x r (λ g. f (zero, omega arith, g)) in
    let k = position_missed xs r (λ m. f (Contains-later x xs r m)) in
    (λ q. cond (not (e q)) (1 + position_or_len (λ d. eqb d r) xs) 0) ∙ omega arith

pub is_position : (xs : List ℕ) (t : ℕ) → Distinct xs → t < length xs → position (λ d. eqb d (get_or xs t 0)) xs ≡ Some t
is_position xs t d lt =
    let e = position_found xs t d lt in
    let b : ltb t (length xs) ≡ true = lt-ltb t (length xs) lt in
    (λ q. cond (ltb (e q) (length xs)) (Some (e q)) None) ∙ (λ q. cond (b q) (Some t) None)

pub no_position : (xs : List ℕ) (r : ℕ) → (Contains xs r → ⊥) → position (λ d. eqb d r) xs ≡ None
no_position xs r f =
    let e = position_missed xs r f in
    let b : ltb (length xs) (length xs) ≡ false = le-ltb (length xs) (length xs) (omega arith) in
    (λ q. cond (ltb (e q) (length xs)) (Some (e q)) None) ∙ (λ q. cond (b q) (Some (length xs)) None)

-- patches

pub patched_at : (p v base k x : ℕ) (xs : List ℕ) (ps : List (ℕ × ℕ)) (b : Bool) → leb base p ≡ b → k < length xs → (p ≡ base + k → v ≡ x)
    → (get_or xs k 0 ≡ x) ⊎ Contains ((p, v) ∷ ps) (base + k, x)
    → (get_or (cond b (set xs (p - base) v) xs) k 0 ≡ x) ⊎ Contains ps (base + k, x)
patched_at p v base k x xs ps b e lt f (inr (suc j, less, m)) = inr (j, omega (arith, less), m)
patched_at p v base k x xs ps true e lt f (inr (zero, less, m)) =
    let a : p ≡ base + k = ap (λ (z : ℕ × ℕ). z.0) m in
    let c : p - base ≡ k = omega arith in
    inl ((λ q. get_or (set xs (c q) v) k 0) ∙ get_or-set_same xs k v 0 lt ∙ f a)
patched_at p v base k x xs ps false e lt f (inr (zero, less, m)) =
    let a : p ≡ base + k = ap (λ (z : ℕ × ℕ). z.0) m in
    absurd (false≢true (sym e ∙ le-leb base p (omega arith)))
patched_at p v base k x xs ps false e lt f (inl g) = inl g
patched_at p v base k x xs ps true e lt f (inl g) =
    let le : base ≤ p = leb-true base p e in
    elim (cases_lt (p - base) k) [
      | inl a ↦ inl (get_or-set_other xs (p - base) k v 0 (λ z. absurd (omega arith)) ∙ g)
      | inr a ↦ elim (cases_lt k (p - base)) [
        | inl b ↦ inl (get_or-set_other xs (p - base) k v 0 (λ z. absurd (omega arith)) ∙ g)
        | inr b ↦ let c : p - base ≡ k = omega arith in inl ((λ q. get_or (set xs (c q) v) k 0) ∙ get_or-set_same xs k v 0 lt ∙ f (omega arith))
      ]
    ]

pub length_at : (p v base : ℕ) (xs : List ℕ) (b : Bool) → length (cond b (set xs (p - base) v) xs) ≡ length xs
length_at p v base xs true = length-set xs (p - base) v
length_at p v base xs false = refl

pub length-patched : (ps : List (ℕ × ℕ)) (base : ℕ) (xs : List ℕ) → length (patched ps base xs) ≡ length xs
length-patched [] base xs = refl
length-patched (x ∷ ps) base xs = length-patched ps base (cond (leb base x.0) (set xs (x.0 - base) x.1) xs) ∙ length_at x.0 x.1 base xs (leb base x.0)

-- the word at k: where each patch there writes x, and there is one or x stands there
pub patched_is : (ps : List (ℕ × ℕ)) (base k x : ℕ) (xs : List ℕ) → k < length xs → ((v : ℕ) → Contains ps (base + k, v) → v ≡ x) →
    (get_or xs k 0 ≡ x) ⊎ Contains ps (base + k, x) → get_or (patched ps base xs) k 0 ≡ x
patched_is [] base k x xs lt f (inl e) = e
patched_is [] base k x xs lt f (inr m) = absurd (none_contains (base + k, x) m)
patched_is (y ∷ ps) base k x xs lt f d =
    let l = length_at y.0 y.1 base xs (leb base y.0) in
    patched_is ps base k x (cond (leb base y.0) (set xs (y.0 - base) y.1) xs) (omega arith) (λ v m. f v (Contains-later y ps (base + k, v) m))
    (patched_at y.0 y.1 base k x xs ps (leb base y.0) refl lt (λ e. f y.1 (zero, omega arith, λ q. (e q, y.1))) d)

-- patches that are written one after another
pub patched-append : (ps qs : List (ℕ × ℕ)) (base : ℕ) (xs : List ℕ) → patched (ps ++ qs) base xs ≡ patched qs base (patched ps base xs)
patched-append [] qs base xs = refl
patched-append (x ∷ ps) qs base xs = patched-append ps qs base (cond (leb base x.0) (set xs (x.0 - base) x.1) xs)

-- one that lies before the slice, or past it, writes nothing
off_slice : (p v base : ℕ) (xs : List ℕ) (b : Bool) → leb base p ≡ b → (p < base) ⊎ (base + length xs ≤ p) → cond b (set xs (p - base) v) xs ≡ xs
off_slice p v base xs false e d = refl
off_slice p v base xs true e (inl lt) = let le : base ≤ p = leb-true base p e in absurd (omega arith)
off_slice p v base xs true e (inr ge) = set_past xs (p - base) v (omega arith)

pub patched_off : (ps : List (ℕ × ℕ)) (base : ℕ) (xs : List ℕ) → ((k : ℕ) → k < length ps → ((get_or ps k (0, 0)).0 < base) ⊎ (base + length xs ≤ (get_or ps k (0, 0)).0)) → patched ps base xs ≡ xs
patched_off [] base xs f = refl
patched_off (x ∷ ps) base xs f =
    let one : cond (leb base x.0) (set xs (x.0 - base) x.1) xs ≡ xs = off_slice x.0 x.1 base xs (leb base x.0) refl (f 0 (omega arith)) in
    ap (patched ps base) one ∙ patched_off ps base xs (λ k lt. f (suc k) (omega (arith, lt)))

-- of all patches those between two indices reach the slice
module _ (ps : List (ℕ × ℕ)) (base : ℕ) (xs : List ℕ) (a b : ℕ) (begins : AreBefore ps base a) (ends : AreBefore ps (base + length xs) b) where
  pub in_turn : a ≤ b
  in_turn = elim (cases_lt b a) [
    | inr le ↦ le
    | inl lt ↦ let low = begins.before b lt in let high = ends.behind b (omega arith) (let w = begins.within in omega arith) in absurd (omega arith)
  ]

  front_off : (k : ℕ) → k < length (take a ps) → ((get_or (take a ps) k (0, 0)).0 < base) ⊎ (base + length xs ≤ (get_or (take a ps) k (0, 0)).0)
  front_off k lt =
      let long : length (take a ps) ≡ a = length-take-le a ps begins.within in
      let less : k < a = omega (arith, lt, long) in
      let same : get_or (take a ps) k (0, 0) ≡ get_or ps k (0, 0) = get_or-take a ps k (0, 0) less in
      inl (subst (λ (x : ℕ × ℕ). x.0 < base) (sym same) (begins.before k less))

  back_off : (k : ℕ) → k < length (drop b ps) → ((get_or (drop b ps) k (0, 0)).0 < base) ⊎ (base + length xs ≤ (get_or (drop b ps) k (0, 0)).0)
  back_off k lt =
      let long : length (drop b ps) ≡ length ps - b = length-drop b ps in
      let same : get_or (drop b ps) k (0, 0) ≡ get_or ps (b + k) (0, 0) = get_or-drop b ps k (0, 0) in
      inr (subst (λ (x : ℕ × ℕ). base + length xs ≤ x.0) (sym same) (ends.behind (b + k) (omega arith) (omega (arith, lt, long))))

  parts : ps ≡ take a ps ++ (take (b - a) (drop a ps) ++ drop b ps)
  parts =
      let le = in_turn in
      let whole : a + (b - a) ≡ b = omega arith in
      let rest : drop (b - a) (drop a ps) ≡ drop b ps = drop-drop (b - a) a ps ∙ ap (λ (i : ℕ). drop i ps) whole in
      sym (take-append-drop a ps) ∙ ap (λ ys. take a ps ++ ys) (sym (take-append-drop (b - a) (drop a ps)) ∙ ap (λ ys. take (b - a) (drop a ps) ++ ys) rest)

  pub patched_part : patched ps base xs ≡ patched (take (b - a) (drop a ps)) base xs
  patched_part =
      let mid : List (ℕ × ℕ) = take (b - a) (drop a ps) in
      let size : length (patched mid base xs) ≡ length xs = length-patched mid base xs in
      ap (λ qs. patched qs base xs) parts
      ∙ patched-append (take a ps) (mid ++ drop b ps) base xs
      ∙ ap (patched (mid ++ drop b ps) base) (patched_off (take a ps) base xs front_off)
      ∙ patched-append mid (drop b ps) base xs
      ∙ patched_off (drop b ps) base (patched mid base xs) (λ k lt. subst (λ n. ((get_or (drop b ps) k (0, 0)).0 < base) ⊎ (base + n ≤ (get_or (drop b ps) k (0, 0)).0)) (sym size) (back_off k lt))

-- the patches between two indices lie between the addresses that these tell
pub part_there : (ps : List (ℕ × ℕ)) (base end a b : ℕ) → AreBefore ps base a → AreBefore ps end b → (k : ℕ) (d : ℕ × ℕ) → k < length (take (b - a) (drop a ps)) →
    (base ≤ (get_or (take (b - a) (drop a ps)) k d).0) × ((get_or (take (b - a) (drop a ps)) k d).0 < end)
part_there ps base end a b begins ends k d lt =
    let few : k < b - a = omega (arith, lt, length-take (b - a) (drop a ps)) in
    let inside : a + k < length ps = omega (arith, lt, length-take (b - a) (drop a ps), length-drop a ps) in
    let at : get_or (take (b - a) (drop a ps)) k d ≡ get_or ps (a + k) (0, 0) = get_or-take (b - a) (drop a ps) k d few ∙ get_or-drop a ps k d ∙ get_or_default ps (a + k) d (0, 0) inside in
    let slot = ap (λ (x : ℕ × ℕ). x.0) at in
    (omega (arith, slot, begins.behind (a + k) (omega arith) inside), omega (arith, slot, ends.before (a + k) (omega (arith, few))))

-- one patch is written in a slice, and the others are left
pub patched_one : (ps : List (ℕ × ℕ)) (k base : ℕ) (xs : List ℕ) → k < length ps → base ≤ (get_or ps k (0, 0)).0
    → patched (drop k ps) base xs ≡ patched (drop (k + 1) ps) base (set xs ((get_or ps k (0, 0)).0 - base) (get_or ps k (0, 0)).1)
patched_one ps k base xs lt le =
    let p : ℕ = (get_or ps k (0, 0)).0 in
    let v : ℕ = (get_or ps k (0, 0)).1 in
    let low : leb base p ≡ true = le-leb base p le in
    ap (λ qs. patched qs base xs) (drop_more ps k (0, 0) lt) ∙ (λ q. patched (drop (k + 1) ps) base (cond (low q) (set xs (p - base) v) xs))

-- slice t of lists of one width, one after another, is the t-th
pub flat_slice : (f : ℕ → List ℕ) (w : ℕ) → ((r : ℕ) → length (f r) ≡ w) → (xs : List ℕ) (t : ℕ) → t < length xs → slice_of w t (flat_map f xs) ≡ f (get_or xs t 0)
flat_slice f w size [] t lt = absurd (omega arith)
flat_slice f w size (x ∷ xs) zero lt =
    ap (λ (i : ℕ). take w (drop i (f x ++ flat_map f xs))) (zero-mul w)
    ∙ ap (λ (i : ℕ). take i (f x ++ flat_map f xs)) (sym (size x))
    ∙ take-append_seam (f x) (flat_map f xs)
flat_slice f w size (x ∷ xs) (suc t) lt =
    let rest : drop w (f x ++ flat_map f xs) ≡ flat_map f xs = ap (λ (i : ℕ). drop i (f x ++ flat_map f xs)) (sym (size x)) ∙ drop-append_seam (f x) (flat_map f xs) in
    let next : t + 1 ≡ suc t = omega arith in
    ap (λ (i : ℕ). slice_of w i (f x ++ flat_map f xs)) (sym next) ∙ sym (slice_next w t (f x ++ flat_map f xs)) ∙ ap (slice_of w t) rest ∙ flat_slice f w size xs t (omega arith)

pub flat_length : (f : ℕ → List ℕ) (w : ℕ) → ((r : ℕ) → length (f r) ≡ w) → (xs : List ℕ) → length (flat_map f xs) ≡ length xs * w
flat_length f w size [] = sym (zero-mul w)
flat_length f w size (x ∷ xs) =
    let both : length (f x ++ flat_map f xs) ≡ length (f x) + length (flat_map f xs) = length-append (f x) (flat_map f xs) in
    let one : length (f x) ≡ w = size x in
    let rest : length (flat_map f xs) ≡ length xs * w = flat_length f w size xs in
    let more : suc (length xs) * w ≡ length xs * w + w = suc-mul (length xs) w in
    omega arith

pub Distinct-take : {A : Type 0} (n : ℕ) (xs : List A) → Distinct xs → Distinct (take n xs)
Distinct-take zero xs d = tt
Distinct-take (suc n) [] d = tt
Distinct-take (suc n) (x ∷ xs) d = ((λ m. d.0 (taken_in n xs x m)), Distinct-take n xs d.1)
