-- Items cut into chunks.
use Rattle.std.proofs.Common.{◌≡◌, ℕ, zero, suc, ◌+◌, ◌-◌, ◌*◌, ◌/◌, ◌<◌, ◌≤◌, inl, inr, List, [], ◌∷◌, ◌++◌, length, map, take, drop, get_or, min, sym, refl, ap, ◌∙◌, subst, arith, lt_of_not-le, Contains}
use Rattle.std.specs.List.{flat_map, enumerate_from, range_with_len, AllZip}
use Rattle.std.proofs.lemmas.List.{drop-drop, take_rest, take_min, map-append, drop_all, take-append-drop}
use Rattle.std.proofs.lemmas.List.Concat.{flat_map-append}
use Rattle.std.proofs.lemmas.Nat.{div-add-mod'}
use Rattle.std.proofs.Math.Nat.{mod-lt, mul-le-mul_right, mul-le-mul_left}
use Rattle.std.proofs.lemmas.List.Elements.{Contains-append_left, Contains-append_right}
use native.Mathlib.Decide.{dec_le}
use Rattle.g1_work.specs.Each.{RisesBelow, chunks_of}
use Rattle.g1_words.proofs.Members.{Contains-flat_map, flat_map_cases, cons_cases, none_contains}
use Rattle.g1_words.proofs.Ordered.{Ordered}
use Rattle.g1_words.proofs.Rising.{Ordered-flat_map}
use Rattle.g1_words.proofs.Indices.{taken_in}
use Rattle.g1_work.specs.Regions.{slice_of}

-- what stands behind a list
pub at_end : {A : Type 0} (xs : List A) (y : A) (ys : List A) (d : A) → get_or (xs ++ y ∷ ys) (length xs) d ≡ y
at_end [] y ys d = refl
at_end (x ∷ xs) y ys d = at_end xs y ys d

-- so many pieces reach to the end, and each has an item
pub enough : (n c : ℕ) → 0 < c → n ≤ ((n + c) - 1) / c * c
enough n c pos = let e = div-add-mod' ((n + c) - 1) c in let lt = mod-lt ((n + c) - 1) pos in omega (arith, e, lt)

pub none_empty : (n c k : ℕ) → 0 < c → k < ((n + c) - 1) / c → k * c < n
none_empty n c k pos lt =
    let e = div-add-mod' ((n + c) - 1) c in
    let m : (k + 1) * c ≤ ((n + c) - 1) / c * c = mul-le-mul_right c (omega arith) in omega (arith, e, m)

pub no_more_than : (n c : ℕ) → 0 < c → ((n + c) - 1) / c ≤ n
no_more_than n c pos =
    let q : ℕ = ((n + c) - 1) / c in
    elim (dec_le q n) [
      | yes h ↦ h
      | no h ↦ let lt : n < q = lt_of_not-le h in let e = none_empty n c n pos lt in let m : n * 1 ≤ n * c = mul-le-mul_left n (omega arith) in absurd (omega (arith, e, m))
    ]

-- a chunk's items are cut from the rest of all
pub piece_cut : {A : Type 0} (size k n : ℕ) (xs : List A) → n ≡ min (length (take (length xs - k * size) (drop (k * size) xs))) size →
    take n (take (length xs - k * size) (drop (k * size) xs)) ≡ slice_of size k xs
piece_cut size k n xs e =
    let rest = take_rest xs (k * size) in
    let least : n ≡ min size (length (drop (k * size) xs)) = omega (arith, e, ap length rest) in
    ap (λ l. take n l) rest ∙ ap (λ m. take m (drop (k * size) xs)) least ∙ take_min size (drop (k * size) xs)

-- so is a part from any place on
pub part_cut : {A : Type 0} (from most n : ℕ) (xs : List A) → n ≡ min (length (take (length xs - from) (drop from xs))) most →
    take n (take (length xs - from) (drop from xs)) ≡ take most (drop from xs)
part_cut from most n xs e =
    let rest = take_rest xs from in
    let least : n ≡ min most (length (drop from xs)) = omega (arith, e, ap length rest) in
    ap (λ l. take n l) rest ∙ ap (λ m. take m (drop from xs)) least ∙ take_min most (drop from xs)

module _ {A B : Type 0} (f : A → List B) (size : ℕ) (xs : List A) where
  -- the pieces of all chunks are the items
  pub pieces_from : {O : Type 0} (os : List O) (k : ℕ) → length xs ≤ (k + length os) * size → flat_map (λ x. flat_map f (slice_of size x.0 xs)) (enumerate_from k os) ≡ flat_map f (drop (k * size) xs)
  pieces_from [] k le = ap (flat_map f) (sym (drop_all (k * size) xs (omega (arith, le))))
  pieces_from (o ∷ os) k le =
      let rest = pieces_from os (k + 1) (omega (arith, le)) in
      let next : drop size (drop (k * size) xs) ≡ drop ((k + 1) * size) xs = drop-drop size (k * size) xs ∙ ap (λ n. drop n xs) (let e : k * size + size ≡ (k + 1) * size = omega arith in e) in
      ap (λ l. flat_map f (slice_of size k xs) ++ l) (rest ∙ ap (flat_map f) (sym next))
      ∙ sym (flat_map-append f (slice_of size k xs) (drop size (drop (k * size) xs)))
      ∙ ap (flat_map f) (take-append-drop size (drop (k * size) xs))

  pub all_pieces : {O : Type 0} (os : List O) → length xs ≤ length os * size → flat_map (λ x. flat_map f (slice_of size x.0 xs)) (enumerate_from 0 os) ≡ flat_map f xs
  all_pieces os le = pieces_from os 0 (subst (λ n. length xs ≤ n * size) (let e : length os ≡ 0 + length os = omega arith in e) le)
      ∙ ap (λ n. flat_map f (drop n xs)) (let e : 0 * size ≡ 0 = omega arith in e)

-- what is made of each part of a list is what is made of the whole
module _ {A B O : Type 0} (f : A → B) (items : O → List B) (size : ℕ) (xs : List A) where
  parts_from : (j m : ℕ) (os : List O) → length xs ≤ (j + m) * size → AllZip (λ k o. items o ≡ map f (slice_of size k xs)) (range_with_len j m) os → flat_map items os ≡ map f (drop (j * size) xs)
  parts_from j zero [] le z = ap (map f) (sym (drop_all (j * size) xs (omega (arith, le))))
  parts_from j zero (o ∷ os) le z = absurd z
  parts_from j (suc m) [] le z = absurd z
  parts_from j (suc m) (o ∷ os) le z =
      let e : j + 1 + m ≡ j + suc m = omega arith in
      let rest = parts_from (j + 1) m os (subst (λ n. length xs ≤ n * size) (sym e) le) z.1 in
      let next : drop size (drop (j * size) xs) ≡ drop ((j + 1) * size) xs = drop-drop size (j * size) xs ∙ ap (λ n. drop n xs) (let e : j * size + size ≡ (j + 1) * size = omega arith in e) in
      (λ i. z.0 i ++ (rest ∙ ap (map f) (sym next)) i)
      ∙ sym (map-append f (slice_of size j xs) (drop size (drop (j * size) xs)))
      ∙ ap (map f) (take-append-drop size (drop (j * size) xs))

  pub parts_all : (m : ℕ) (os : List O) → length xs ≤ m * size → AllZip (λ k o. items o ≡ map f (slice_of size k xs)) (range_with_len 0 m) os → flat_map items os ≡ map f xs
  parts_all m os le z =
      let e : m ≡ 0 + m = omega arith in
      parts_from 0 m os (subst (λ n. length xs ≤ n * size) e le) z ∙ ap (λ n. map f (drop n xs)) (let e : 0 * size ≡ 0 = omega arith in e)

-- ---- pieces in order

Ordered-apart : {B : Type 0} (R : B → B → Type 0) (xs ys : List B) → Ordered R (xs ++ ys) → Ordered R xs × Ordered R ys × ((x y : B) → Contains xs x → Contains ys y → R x y)
Ordered-apart R [] ys o = (tt, o, (λ x y i j. absurd (none_contains x i)))
Ordered-apart {B} R (x ∷ xs) ys o =
    let r = Ordered-apart R xs ys o.1 in (
      ((λ y i. o.0 y (Contains-append_left xs ys y i)), r.0),
      r.1,
      (λ z y i j. elim (cons_cases x xs z i) [ inl e ↦ subst (λ w. R w y) e (o.0 y (Contains-append_right xs ys y j)) | inr k ↦ r.2 z y k j ]),
    )

early : {A : Type 0} (m n l : ℕ) (xs : List A) (x : A) → n + m ≤ l → Contains (take m (drop n xs)) x → Contains (take l xs) x
early zero n l xs x le i = absurd (omega (arith, i.1))
early (suc m) zero zero xs x le i = absurd (omega (arith, le))
early (suc m) zero (suc l) [] x le i = i
early (suc m) zero (suc l) (y ∷ ys) x le (zero, b, e) = (zero, omega arith, e)
early (suc m) zero (suc l) (y ∷ ys) x le (suc k, b, e) = let c = early m zero l ys x (omega (arith, le)) (k, omega (arith, b), e) in (suc c.0, omega (arith, c.1), c.2)
early (suc m) (suc n) zero xs x le i = absurd (omega (arith, le))
early (suc m) (suc n) (suc l) [] x le i = absurd (omega (arith, i.1))
early (suc m) (suc n) (suc l) (y ∷ ys) x le i = let c = early (suc m) n l ys x (omega (arith, le)) i in (suc c.0, omega (arith, c.1), c.2)

chunks_ordered : {O : Type 0} (n : ℕ) (xs : List (ℕ × O)) → RisesBelow n (chunks_of xs) → Ordered (λ x y. x.0 < y.0) xs
chunks_ordered n [] r = tt
chunks_ordered n (x ∷ []) r = ((λ y i. absurd (none_contains y i)), tt)
chunks_ordered {O} n (x ∷ y ∷ ys) r =
    let rest = chunks_ordered n (y ∷ ys) r.1 in
    ((λ z i. elim (cons_cases y ys z i) [ inl e ↦ let k : y.0 ≡ z.0 = ap (λ (q : ℕ × O). q.0) e in omega (arith, r.0, k) | inr j ↦ let k = rest.0 z j in omega (arith, r.0, k) ]), rest)

module _ {A B : Type 0} (R : B → B → Type 0) (f : A → List B) (size : ℕ) (xs : List A) (o : Ordered R (flat_map f xs)) where
  cut : (n : ℕ) → Ordered R (flat_map f (take n xs)) × Ordered R (flat_map f (drop n xs)) × ((x y : B) → Contains (flat_map f (take n xs)) x → Contains (flat_map f (drop n xs)) y → R x y)
  cut n = Ordered-apart R (flat_map f (take n xs)) (flat_map f (drop n xs)) (subst (Ordered R) (sym (sym (flat_map-append f (take n xs) (drop n xs)) ∙ ap (flat_map f) (take-append-drop n xs))) o)

  pub piece_ordered : (k : ℕ) → Ordered R (flat_map f (slice_of size k xs))
  piece_ordered k =
      let rest : List A = drop (k * size) xs in
      (Ordered-apart R (flat_map f (take size rest)) (flat_map f (drop size rest))
      (subst (Ordered R) (sym (sym (flat_map-append f (take size rest) (drop size rest)) ∙ ap (flat_map f) (take-append-drop size rest))) (cut (k * size)).1)).0

  pub pieces_apart : (j k : ℕ) (x y : B) → j < k → Contains (flat_map f (slice_of size j xs)) x → Contains (flat_map f (slice_of size k xs)) y → R x y
  pieces_apart j k x y lt a b =
      let m : (j + 1) * size ≤ k * size = mul-le-mul_right size (omega (arith, lt)) in
      let p = flat_map_cases f (slice_of size j xs) x a in
      let q = flat_map_cases f (slice_of size k xs) y b in
      (cut (k * size)).2 x y (Contains-flat_map f (take (k * size) xs) p.0 x (early size (j * size) (k * size) xs p.0 (omega (arith, m)) p.1) p.2)
      (Contains-flat_map f (drop (k * size) xs) q.0 y (taken_in size (drop (k * size) xs) q.0 q.1) q.2)

  -- chunks that rise have pieces in order
  pub some_pieces : {O : Type 0} (n : ℕ) (cs : List (ℕ × O)) → RisesBelow n (chunks_of cs) → Ordered R (flat_map (λ c. flat_map f (slice_of size c.0 xs)) cs)
  some_pieces {O} n cs r =
      Ordered-flat_map (λ (c d : ℕ × O). c.0 < d.0) R (λ c. flat_map f (slice_of size c.0 xs)) cs (chunks_ordered n cs r) (λ c i. piece_ordered c.0)
      (λ c d a b i j lt k l. pieces_apart c.0 d.0 a b lt k l)
