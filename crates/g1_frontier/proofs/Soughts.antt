-- Objects at some addresses, each with its base, xs items.
use Rattle.std.proofs.Common.{◌≡◌, ℕ, zero, suc, ◌+◌, ◌<◌, List, [], ◌∷◌, ◌++◌, map, length, take, drop, get_or, set, sum_by, refl, sym, ap, ◌∙◌, subst, arith, All, Contains, append_assoc, length-take, length-drop}
use Rattle.std.proofs.lemmas.List.{take_more}
use Rattle.std.proofs.lemmas.List.Sums.{sum_by-cons, sum_by-append}
use Rattle.std.proofs.Math.Seq.{set-append_seam}
use Rattle.g1_words.specs.Heap.{Heap, object_at, objects}
use Rattle.g1_frontier.specs.declared.item.Item.TheVariants.{Root, Object}
use Rattle.g1_frontier.specs.Items.{IsItem, items_at, numbered_on, object_items, slot_count}
use Rattle.g1_frontier.proofs.Pieces.{at_end}

items_none : (xs : List ℕ) → items_at xs [] ≡ []
items_none [] = refl
items_none (a ∷ rest) = refl

pub items_length : (xs bs : List ℕ) → length bs ≡ length xs → length (items_at xs bs) ≡ length xs
items_length [] bs e = refl
items_length (a ∷ rest) [] e = absurd (omega (arith, e))
items_length (a ∷ rest) (b ∷ bs) e = ap suc (items_length rest bs (omega (arith, e)))

items_take : (n : ℕ) (xs bs : List ℕ) → items_at (take n xs) (take n bs) ≡ take n (items_at xs bs)
items_take zero [] bs = refl
items_take zero (a ∷ rest) [] = refl
items_take zero (a ∷ rest) (b ∷ bs) = refl
items_take (suc n) [] bs = refl
items_take (suc n) (a ∷ rest) [] = refl
items_take (suc n) (a ∷ rest) (b ∷ bs) = ap (λ l. Object a b ∷ l) (items_take n rest bs)

items_drop : (n : ℕ) (xs bs : List ℕ) → items_at (drop n xs) (drop n bs) ≡ drop n (items_at xs bs)
items_drop zero xs bs = refl
items_drop (suc n) [] bs = refl
items_drop (suc n) (a ∷ rest) [] = items_none (drop n rest)
items_drop (suc n) (a ∷ rest) (b ∷ bs) = items_drop n rest bs

-- those of a part
pub items_part : (n m : ℕ) (xs bs : List ℕ) → items_at (take n (drop m xs)) (take n (drop m bs)) ≡ take n (drop m (items_at xs bs))
items_part n m xs bs = items_take n (drop m xs) (drop m bs) ∙ ap (take n) (items_drop m xs bs)

pub items_get : (xs bs : List ℕ) (i d : ℕ) → i < length xs → length bs ≡ length xs → get_or (items_at xs bs) i (Root 0) ≡ Object (get_or xs i d) (get_or bs i 0)
items_get [] bs i d lt e = absurd (omega (arith, lt))
items_get (a ∷ rest) [] i d lt e = absurd (omega (arith, e))
items_get (a ∷ rest) (b ∷ bs) zero d lt e = refl
items_get (a ∷ rest) (b ∷ bs) (suc i) d lt e = items_get rest bs i d (omega (arith, lt)) (omega (arith, e))

-- they are objects
pub items_objects : (h : Heap) (xs bs : List ℕ) → length bs ≡ length xs → All (IsItem h) (items_at xs bs) → All (λ a. Contains (objects h) (object_at h a)) xs
items_objects h xs bs e are = λ i d lt. let long = items_length xs bs e in subst (IsItem h) (items_get xs bs i d lt e) (are i (Root 0) (omega (arith, long, lt)))

-- a part of each is as long
pub paired_part : (n m : ℕ) (xs bs : List ℕ) → length bs ≡ length xs → length (take n (drop m bs)) ≡ length (take n (drop m xs))
paired_part n m xs bs e =
    let a = length-take n (drop m xs) in
    let b = length-take n (drop m bs) in
    let c = length-drop m xs in
    let d = length-drop m bs in omega (arith, a, b, c, d, e)

pub numbered_length : (base : ℕ) (ns : List ℕ) → length (numbered_on base ns) ≡ length ns
numbered_length base [] = refl
numbered_length base (n ∷ ns) = ap suc (numbered_length (base + n) ns)

-- with the bases that their counts of slots give
pub items_numbered : (h : Heap) (base : ℕ) (xs : List ℕ) → items_at xs (numbered_on base (map (slot_count h) xs)) ≡ object_items h base xs
items_numbered h base [] = refl
items_numbered h base (a ∷ rest) = ap (λ l. Object a base ∷ l) (items_numbered h (base + slot_count h a) rest)

pub sum_counts : (h : Heap) (xs : List ℕ) → sum_by (λ (n : ℕ). n) (map (slot_count h) xs) ≡ sum_by (slot_count h) xs
sum_counts h [] = refl
sum_counts h (a ∷ rest) =
    let x = sum_by-cons (λ (n : ℕ). n) (slot_count h a) (map (slot_count h) rest) in
    let y = sum_by-cons (slot_count h) a rest in
    let r = sum_counts h rest in omega (arith, x, y, r)

numbered_snoc : (base : ℕ) (ns : List ℕ) (n : ℕ) → numbered_on base (ns ++ n ∷ []) ≡ numbered_on base ns ++ (base + sum_by (λ (n : ℕ). n) ns) ∷ []
numbered_snoc base [] n = ap (λ b. b ∷ []) (let e : base ≡ base + 0 = omega arith in e)
numbered_snoc base (m ∷ ns) n =
    ap (λ l. base ∷ l) (numbered_snoc (base + m) ns n ∙ ap (λ b. numbered_on (base + m) ns ++ b ∷ []) (let s = sum_by-cons (λ (n : ℕ). n) m ns in
    let e : base + m + sum_by (λ (n : ℕ). n) ns ≡ base + sum_by (λ (n : ℕ). n) (m ∷ ns) = omega (arith, s) in e))

taken : (i : ℕ) (ns : List ℕ) → i < length ns → length (take i ns) ≡ i
taken zero [] lt = refl
taken zero (n ∷ ns) lt = refl
taken (suc i) [] lt = absurd (omega (arith, lt))
taken (suc i) (n ∷ ns) lt = ap suc (taken i ns (omega (arith, lt)))

rest_after : (i : ℕ) (ns : List ℕ) → i < length ns → drop i ns ≡ get_or ns i 0 ∷ drop (suc i) ns
rest_after zero [] lt = absurd (omega (arith, lt))
rest_after zero (n ∷ ns) lt = refl
rest_after (suc i) [] lt = absurd (omega (arith, lt))
rest_after (suc i) (n ∷ ns) lt = rest_after i ns (omega (arith, lt))

rest_of : (i : ℕ) (ns : List ℕ) → i < length ns → drop i ns ≡ get_or ns i 0 ∷ drop (i + 1) ns
rest_of i ns lt = rest_after i ns lt ∙ ap (λ k. get_or ns i 0 ∷ drop k ns) (let e : suc i ≡ i + 1 = omega arith in e)

module _ (base : ℕ) (ns : List ℕ) (i : ℕ) (lt : i < length ns) where
  abbrev front : List ℕ
  front = numbered_on base (take i ns)

  front_long : i ≡ length front
  front_long = sym (numbered_length base (take i ns) ∙ taken i ns lt)

  -- the count that stands behind the numbers
  pub numbered_get : (d : ℕ) → get_or (front ++ drop i ns) i d ≡ get_or ns i 0
  numbered_get d =
      ap (λ l. get_or (front ++ l) i d) (rest_of i ns lt) ∙ ap (λ k. get_or (front ++ get_or ns i 0 ∷ drop (i + 1) ns) k d) front_long ∙ at_end front (get_or ns i 0) (drop (i + 1) ns) d

  -- it becomes its number
  pub numbered_more : set (front ++ drop i ns) i (base + sum_by (λ (n : ℕ). n) (take i ns)) ≡ numbered_on base (take (i + 1) ns) ++ drop (i + 1) ns
  numbered_more =
      let n : ℕ = get_or ns i 0 in
      let sum : ℕ = base + sum_by (λ (n : ℕ). n) (take i ns) in
      ap (λ l. set (front ++ l) i sum) (rest_of i ns lt)
      ∙ ap (λ k. set (front ++ n ∷ drop (i + 1) ns) k sum) front_long
      ∙ set-append_seam front n (drop (i + 1) ns) sum
      ∙ sym (append_assoc front (sum ∷ []) (drop (i + 1) ns))
      ∙ ap (λ l. l ++ drop (i + 1) ns) (sym (numbered_snoc base (take i ns) n) ∙ ap (numbered_on base) (sym (take_more ns i 0 lt)))

  pub sum_more : sum_by (λ (n : ℕ). n) (take (i + 1) ns) ≡ sum_by (λ (n : ℕ). n) (take i ns) + get_or ns i 0
  sum_more =
      let n : ℕ = get_or ns i 0 in
      ap (sum_by (λ (n : ℕ). n)) (take_more ns i 0 lt) ∙ sum_by-append (λ (n : ℕ). n) (take i ns) (n ∷ [])
      ∙ ap (λ m. sum_by (λ (n : ℕ). n) (take i ns) + m) (let s = sum_by-cons (λ (n : ℕ). n) n [] in let e : sum_by (λ (n : ℕ). n) (n ∷ []) ≡ n = omega (arith, s) in e)
