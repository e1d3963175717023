-- Slices of one width of a list, of two lists in a row, and of a list one slice of which was written.
use Rattle.std.proofs.Common.{◌≡◌, ℕ, min, ◌+◌, ◌*◌, ◌-◌, ◌/◌, ◌%◌, ◌<◌, ◌≤◌, List, ◌++◌, length, take, drop, get_or, ap, sym, ◌∙◌, subst, arith, length-drop, length-append, below_more}
use Rattle.std.proofs.Common.{inl, inr, zero, suc, ap₂}
use Rattle.std.specs.Prelude.{flat_map}
use Rattle.std.specs.List.{range_with_len}
use Rattle.std.proofs.Math.Nat.{add-mul, mul-add, mul-le-mul_right, zero-mul, suc-mul, le-div_iff_mul-le, min-le_left}
use Rattle.std.proofs.lemmas.Bool.{cases_lt}
use Rattle.std.proofs.Math.Seq.{drop-append-add, take-append_seam}
use Rattle.std.proofs.lemmas.List.{get_or-take, get_or-drop, drop-drop, take-append-drop, nil_from_length, drop-append-le, take-append-le, take-take, drop-take, length-take-le}
use Rattle.std.proofs.lemmas.Slice.{drop-put_mid}
use borrow.Rule.Slice.PartMut.{put_mid, post_of}
use Rattle.g1_work.specs.Regions.{slice_of, HoldsOfSlices, IsFilled}

-- a slice ends where the next begins
pub next_slice : (w j n : ℕ) → j < n → j * w + w ≤ n * w
next_slice w j n h = let e : (j + 1) * w ≡ j * w + 1 * w = add-mul j 1 w in let l : (j + 1) * w ≤ n * w = mul-le-mul_right w (omega arith) in omega arith

-- how long a slice is, and what stands in it
pub length-slice_of : (w r n : ℕ) (xs : List ℕ) → length xs ≡ n * w → r < n → length (slice_of w r xs) ≡ w
length-slice_of w r n xs l lt = let k = next_slice w r n lt in length-take-le w (drop (r * w) xs) (omega (arith, length-drop (r * w) xs))

pub get_or-slice_of : (w r m : ℕ) (xs : List ℕ) → m < w → get_or (slice_of w r xs) m 0 ≡ get_or xs (r * w + m) 0
get_or-slice_of w r m xs lt = get_or-take w (drop (r * w) xs) m 0 lt ∙ get_or-drop (r * w) xs m 0

-- a part of xs that lies in its first a
pub in_front : (w a i : ℕ) (xs rest : List ℕ) → i + w ≤ a → a ≤ length xs → take w (drop i (take a xs ++ rest)) ≡ take w (drop i xs)
in_front w a i xs rest h l =
    let m : length (take a xs) ≡ a = length-take-le a xs l in
    let one : drop i (take a xs ++ rest) ≡ drop i (take a xs) ++ rest = drop-append-le i (take a xs) rest (omega arith) in
    let two : take w (drop i (take a xs) ++ rest) ≡ take w (drop i (take a xs)) = take-append-le w (drop i (take a xs)) rest (omega (arith, length-drop i (take a xs))) in
    let whole : i + (a - i) ≡ a = omega arith in
    let three : drop i (take a xs) ≡ take (a - i) (drop i xs) = subst (λ (n : ℕ). drop i (take n xs) ≡ take (a - i) (drop i xs)) whole (drop-take i (a - i) xs) in
    ap (take w) one ∙ (two ∙ (ap (take w) three ∙ take-take w (a - i) (drop i xs) (omega arith)))

-- the part that was written
pub in_middle : (w a : ℕ) (xs ys rest : List ℕ) → length ys ≡ w → a ≤ length xs → take w (drop a (take a xs ++ (ys ++ rest))) ≡ ys
in_middle w a xs ys rest h l =
    let m : length (take a xs) + 0 ≡ a = omega (arith, length-take-le a xs l) in
    let one : drop a (take a xs ++ (ys ++ rest)) ≡ ys ++ rest = subst (λ (n : ℕ). drop n (take a xs ++ (ys ++ rest)) ≡ ys ++ rest) m (drop-append-add (take a xs) (ys ++ rest) 0) in
    ap (take w) one ∙ subst (λ (n : ℕ). take n (ys ++ rest) ≡ ys) h (take-append_seam ys rest)

-- slice k is written, of n
pub slice_below : (w n k j e : ℕ) (xs ys : List ℕ) → length xs ≡ n * w → k < n → j < k → slice_of w j (put_mid (k * w) e xs ys) ≡ slice_of w j xs
slice_below w n k j e xs ys h lt b =
    let ks = next_slice w k n lt in
    in_front w (k * w) (j * w) xs (ys ++ post_of (k * w) e xs) (next_slice w j k b) (omega arith)

pub slice_same : (w n k e : ℕ) (xs ys : List ℕ) → length xs ≡ n * w → k < n → length ys ≡ w → slice_of w k (put_mid (k * w) e xs ys) ≡ ys
slice_same w n k e xs ys h lt m =
    let ks = next_slice w k n lt in
    in_middle w (k * w) xs ys (post_of (k * w) e xs) m (omega arith)

pub slice_above : (w n k j e : ℕ) (xs ys : List ℕ) → length xs ≡ n * w → k < n → k < j → e ≡ w → length ys ≡ w → slice_of w j (put_mid (k * w) e xs ys) ≡ slice_of w j xs
slice_above w n k j e xs ys h lt b i m =
    let ks = next_slice w k n lt in let js = next_slice w k j b in
    ap (take w) (drop-put_mid (k * w) e xs ys (j * w) (omega arith) (omega arith) (m ∙ sym i))

-- a slice of the first or of the second of two lists
pub slice_left : (w n k : ℕ) (xs ys : List ℕ) → length xs ≡ n * w → k < n → slice_of w k (xs ++ ys) ≡ slice_of w k xs
slice_left w n k xs ys h lt =
    let ks = next_slice w k n lt in
    ap (take w) (drop-append-le (k * w) xs ys (omega arith)) ∙ take-append-le w (drop (k * w) xs) ys (omega (arith, length-drop (k * w) xs))

pub slice_right : (w n k : ℕ) (xs ys : List ℕ) → length xs ≡ n * w → slice_of w (n + k) (xs ++ ys) ≡ slice_of w k ys
slice_right w n k xs ys h =
    let e : length xs + k * w ≡ (n + k) * w = omega (arith, h, add-mul n k w) in
    ap (take w) (subst (λ (i : ℕ). drop i (xs ++ ys) ≡ drop (k * w) ys) e (drop-append-add xs ys (k * w)))

-- one more slice is written, in place, where those before it have been and the others are as they were
pub written : (R : ℕ → List ℕ → List ℕ → Type 0) (w n first k e : ℕ) (xs ws ys : List ℕ) → length ws ≡ n * w → k < n → e ≡ w → length ys ≡ w
    → ((j : ℕ) → j < k → R (first + j) (slice_of w j xs) (slice_of w j ws))
    → slice_of w k ws ≡ slice_of w k xs
    → R (first + k) (take e (drop (k * w) ws)) ys
    → (j : ℕ) → j < k + 1 → R (first + j) (slice_of w j xs) (slice_of w j (put_mid (k * w) e ws ys))
written R w n first k e xs ws ys h lt i m done same now =
    below_more (λ (j : ℕ). R (first + j) (slice_of w j xs) (slice_of w j (put_mid (k * w) e ws ys))) k
    (λ j b. subst (λ (zs : List ℕ). R (first + j) (slice_of w j xs) zs) (sym (slice_below w n k j e ws ys h lt b)) (done j b))
    (
    let before : take e (drop (k * w) ws) ≡ slice_of w k xs = ap (λ (d : ℕ). take d (drop (k * w) ws)) i ∙ same in
    subst (λ (zs : List ℕ). R (first + k) (slice_of w k xs) zs) (sym (slice_same w n k e ws ys h lt m))
    (subst (λ (zs : List ℕ). R (first + k) zs ys) before now)
    )

-- n slices in m runs, of which half the runs take here slices: what they and the others have is enough for a slice each
pub record AreShares (n m low here : ℕ) : Type 0 where
  pub some : low ≤ here
  pub fits : here ≤ n
  pub others : 0 < m - low
  pub left : m - low ≤ n - here

pub at_most : (a b e : ℕ) → e ≡ min a b → e ≤ a
at_most a b e is = subst (λ x. x ≤ a) (sym is) (min-le_left a b)

-- here is an even share, and some of the slices that are left over
pub shares : (n m more : ℕ) → 0 < m → m ≤ n → (m ≡ 1 → ⊥) → more ≤ n % m → AreShares n m (m / 2) (n / m * (m / 2) + more)
shares n m more pos le many few =
    let q = n / m in let a = m / 2 in let b = m - a in
    let two : (0 < a) × (a < m) = (omega arith, omega arith) in
    let one : 1 ≤ q = (le-div_iff_mul-le pos).1 (omega arith) in
    let all : q * m + n % m ≡ n = let k : m * q + n % m ≡ n = omega arith in let turned : m * q ≡ q * m = omega arith in omega arith in
    let parts : q * (a + b) ≡ q * a + q * b = mul-add q a b in
    let whole : a + b ≡ m = omega arith in
    let same : q * (a + b) ≡ q * m = ap (λ (x : ℕ). q * x) whole in
    let low : 1 * a ≤ q * a = mul-le-mul_right a one in
    let high : 1 * b ≤ q * b = mul-le-mul_right b one in
    record { some = omega arith; fits = omega arith; others = omega arith; left = omega arith }

-- the first here of n slices, and the others
pub front_cut : (P : ℕ → List ℕ → Type 0) (w first n here : ℕ) (xs ys zs : List ℕ) → here ≤ n → xs ≡ ys ++ zs → length ys ≡ here * w → HoldsOfSlices P w first n xs → HoldsOfSlices P w first here ys
front_cut P w first n here xs ys zs le e l c = record {
  size = l;
  room = omega arith;
  each = λ k lt. subst (λ (s : List ℕ). P (first + k) s) (slice_left w here k ys zs l lt)
      (subst (λ (s : List ℕ). P (first + k) (slice_of w k s)) e (c.each k (omega arith)));
}

pub back_cut : (P : ℕ → List ℕ → Type 0) (w first n here : ℕ) (xs ys zs : List ℕ) → here ≤ n → xs ≡ ys ++ zs → length ys ≡ here * w → HoldsOfSlices P w first n xs → HoldsOfSlices P w (first + here) (n - here) zs
back_cut P w first n here xs ys zs le e l c =
    let parts : (here + (n - here)) * w ≡ here * w + (n - here) * w = add-mul here (n - here) w in
    let whole : here + (n - here) ≡ n = omega arith in
    let same : (here + (n - here)) * w ≡ n * w = ap (λ (x : ℕ). x * w) whole in
    let both : length xs ≡ length ys + length zs = ap length e ∙ length-append ys zs in
    record {
      size = omega (arith, c.size, l);
      room = omega (arith, c.room);
      each = λ k lt.
          let at : first + (here + k) ≡ first + here + k = omega arith in
          subst (λ (i : ℕ). P i (slice_of w k zs)) at
          (subst (λ (s : List ℕ). P (first + (here + k)) s) (slice_right w here k ys zs l)
          (subst (λ (s : List ℕ). P (first + (here + k)) (slice_of w (here + k) s)) e (c.each (here + k) (omega arith))));
    }

-- the slices of both parts, and so of the whole
pub filled_both : (R : ℕ → List ℕ → List ℕ → Type 0) (w first n here : ℕ) (xs ys zs ys' zs' : List ℕ) → here ≤ n → xs ≡ ys ++ zs → length ys ≡ here * w
    → IsFilled R w first here ys ys' → IsFilled R w (first + here) (n - here) zs zs' → IsFilled R w first n xs (ys' ++ zs')
filled_both R w first n here xs ys zs ys' zs' le e l f b =
    let l' : length ys' ≡ here * w = f.size ∙ l in
    record {
      size = length-append ys' zs' ∙ (omega (arith, f.size, b.size, length-append ys zs) ∙ sym (ap length e));
      each = λ k lt. elim (cases_lt k here) [
        | inl below ↦
            subst (λ (s : List ℕ). R (first + k) (slice_of w k s) (slice_of w k (ys' ++ zs'))) (sym e)
            (subst (λ (s : List ℕ). R (first + k) s (slice_of w k (ys' ++ zs'))) (sym (slice_left w here k ys zs l below))
            (subst (λ (s : List ℕ). R (first + k) (slice_of w k ys) s) (sym (slice_left w here k ys' zs' l' below)) (f.each k below)))
        | inr above ↦
            let j = k - here in
            let is : here + j ≡ k = omega arith in
            let at : first + here + j ≡ first + k = omega arith in
            let left : slice_of w k xs ≡ slice_of w j zs = ap (λ (s : List ℕ). slice_of w k s) e ∙ (ap (λ (i : ℕ). slice_of w i (ys ++ zs)) (sym is) ∙ slice_right w here j ys zs l) in
            let right : slice_of w k (ys' ++ zs') ≡ slice_of w j zs' = ap (λ (i : ℕ). slice_of w i (ys' ++ zs')) (sym is) ∙ slice_right w here j ys' zs' l' in
            subst (λ (s : List ℕ). R (first + k) s (slice_of w k (ys' ++ zs'))) (sym left)
            (subst (λ (s : List ℕ). R (first + k) (slice_of w j zs) s) (sym right)
            (subst (λ (i : ℕ). R i (slice_of w j zs) (slice_of w j zs')) at (b.each j (omega arith))))
      ];
    }

-- slices of what is left past the first
pub slice_next : (w k : ℕ) (xs : List ℕ) → slice_of w k (drop w xs) ≡ slice_of w (k + 1) xs
slice_next w k xs =
    let e : w + k * w ≡ (k + 1) * w = omega (arith, add-mul k 1 w) in
    ap (take w) (drop-drop (k * w) w xs ∙ ap (λ (i : ℕ). drop i xs) e)

-- a list is its slices, one after another
pub slices_from : (f : ℕ → List ℕ) (w n a : ℕ) (xs : List ℕ) → length xs ≡ n * w → ((k : ℕ) → k < n → slice_of w k xs ≡ f (a + k)) → xs ≡ flat_map f (range_with_len a n)
slices_from f w zero a xs l h = nil_from_length xs (l ∙ zero-mul w)
slices_from f w (suc n) a xs l h =
    let size : suc n * w ≡ n * w + w = suc-mul n w in
    let none : a + 0 ≡ a = omega arith in
    let first : take w xs ≡ f a = ap (λ (i : ℕ). take w (drop i xs)) (sym (zero-mul w)) ∙ (h 0 (omega arith) ∙ ap f none) in
    let rest : drop w xs ≡ flat_map f (range_with_len (a + 1) n) =
    slices_from f w n (a + 1) (drop w xs) (omega (arith, length-drop w xs, l, size))
    (λ k lt. let next : a + (k + 1) ≡ a + 1 + k = omega arith in slice_next w k xs ∙ (h (k + 1) (omega arith) ∙ ap f next)) in
    sym (take-append-drop w xs) ∙ ap₂ ◌++◌ first rest

-- the same, of a list that is a multiple of the width
pub by_slices : (f : ℕ → List ℕ) (w m : ℕ) (xs : List ℕ) → 1 ≤ w → length xs ≡ m → m % w ≡ 0 → ((r : ℕ) → r < m / w → slice_of w r xs ≡ f r) → xs ≡ flat_map f (range_with_len 0 (m / w))
by_slices f w m xs pos l e h =
    let whole : w * (m / w) + m % w ≡ m = omega arith in
    let turned : w * (m / w) ≡ m / w * w = omega arith in
    slices_from f w (m / w) 0 xs (omega (arith, l, e)) (λ k lt. let same : 0 + k ≡ k = omega arith in h k lt ∙ ap f (sym same))
