-- Numbers of 32 bits that are read at once.
use Rattle.std.proofs.Common.{◌≡◌, ◌≤◌, ◌<◌, ℕ, zero, suc, ◌+◌, ◌*◌, ◌-◌, List, [], ◌∷◌, ◌++◌, length, get_or, slice_index, take, drop, arith, refl, sym, ap, subst, ◌∙◌, append_assoc, length-append, length-drop}
use Rattle.std.proofs.lemmas.List.{drop-take, drop-drop, get_or-drop}
use Rattle.byteorder.specs.Endian.{IsRead, little_number}
use Rattle.byteorder.specs.Numbers.{little_from-take, length-bytes_low_first}
use Rattle.g1_image.specs.Reading.{Are, IsU32, IsBytes, EndsWithin}
use Rattle.g1_image.specs.Text.{u32, numbers_text}
use Rattle.g1_image.proofs.Numbers.{u32_read}

pub u32-length : (x : ℕ) → length (u32 x) ≡ 4
unfolding u32
u32-length x = length-bytes_low_first 0 4 x

numbers-length : (xs : List ℕ) → length (numbers_text xs) ≡ 4 * length xs
numbers-length [] = refl
numbers-length (x ∷ xs) = let a = length-append (u32 x) (numbers_text xs) in let b = u32-length x in let c = numbers-length xs in omega (arith, a, b, c)

-- fewer bytes begin with no such numbers
pub numbers_short : (count : ℕ) (bytes : List ℕ) → length bytes < 4 * count → EndsWithin (Are IsU32 count) numbers_text bytes
numbers_short count bytes lt ys rest fits e = omega (arith, lt, ap length e, length-append (numbers_text ys) rest, numbers-length ys, fits.how_many)

read_from : (xs bytes : List ℕ) → 4 * length xs ≤ length bytes → IsBytes bytes → ((k : ℕ) → k < length xs → slice_index xs k ≡ little_number 4 (drop (4 * k) bytes))
    → Are IsU32 (length xs) xs × (bytes ≡ numbers_text xs ++ drop (4 * length xs) bytes)
read_from [] bytes le fits read = (record { how_many = refl; each = λ k d lt. absurd (omega (arith, lt)) }, refl)
read_from (x ∷ xs) bytes le fits read =
    let first : x ≡ little_number 4 (take 4 bytes) = read 0 (omega arith) ∙ sym (little_from-take 0 4 4 bytes (omega arith)) in
    let one = u32_read bytes (take 4 bytes) (drop 4 bytes) x (omega (arith, le)) fits refl refl first in
    let others = read_from xs (drop 4 bytes) (omega (arith, le, length-drop 4 bytes)) (λ i. subst (λ b. b < 256) (sym (get_or-drop 4 bytes i 0)) (fits (4 + i)))
    (λ k lt. read (suc k) (omega (arith, lt)) ∙ ap (little_number 4) (further k)) in (
      record { how_many = refl; each = each one.0 others.0 },
      one.1 ∙ ap (λ l. u32 x ++ l) (others.1 ∙ ap (λ l. numbers_text xs ++ l) (sym (further (length xs))))
          ∙ sym (append_assoc (u32 x) (numbers_text xs) (drop (4 * suc (length xs)) bytes)),
    )
  where
    further : (k : ℕ) → drop (4 * suc k) bytes ≡ drop (4 * k) (drop 4 bytes)
    further k = let e : 4 * suc k ≡ 4 + 4 * k = omega arith in ap (λ n. drop n bytes) e ∙ sym (drop-drop (4 * k) 4 bytes)

    each : IsU32 x → Are IsU32 (length xs) xs → (k d : ℕ) → k < suc (length xs) → IsU32 (get_or (x ∷ xs) k d)
    each f others zero d lt = f
    each f others (suc k) d lt = others.each k d (omega (arith, lt))

-- numbers that were read where the bytes of so many are begin them
pub numbers_read : (count : ℕ) (bytes front rest xs : List ℕ) → 4 * count ≤ length bytes → IsBytes bytes → front ≡ take (4 * count) bytes → rest ≡ drop (4 * count) bytes
    → length xs ≡ count → IsRead little_number 4 front xs → Are IsU32 count xs × (bytes ≡ numbers_text xs ++ rest)
numbers_read count bytes front rest xs le fits f r long read =
    let all = read_from xs bytes (omega (arith, le, long)) fits (λ k lt. read k lt ∙ ap (λ l. little_number 4 (drop (4 * k) l)) f ∙ within k lt) in
    (record { how_many = long; each = all.0.each }, all.1 ∙ ap (λ l. numbers_text xs ++ l) (ap (λ n. drop (4 * n) bytes) long ∙ sym r))
  where
    within : (k : ℕ) → k < length xs → little_number 4 (drop (4 * k) (take (4 * count) bytes)) ≡ little_number 4 (drop (4 * k) bytes)
    within k lt =
        let m : ℕ = 4 * count - 4 * k in
        let e : 4 * count ≡ 4 * k + m = omega (arith, lt, long) in
        ap (λ n. little_number 4 (drop (4 * k) (take n bytes))) e ∙ ap (little_number 4) (drop-take (4 * k) m bytes) ∙ little_from-take 0 4 m (drop (4 * k) bytes) (omega (arith, lt, long))
