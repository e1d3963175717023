-- The headers of survivors that are read before these are copied.
use Rattle.std.proofs.Common.{◌≡◌, ℕ, ◌+◌, ◌-◌, ◌<◌, ◌≤◌, List, length, get_or, slice_index, take, drop, All, sym, ◌∙◌, ap, subst, arith, length-drop}
use Rattle.std.proofs.lemmas.List.{get_or-drop, get_or-take, length-take, length-take-le}
use Rattle.g1_words.specs.Heap.{Heap}
use Rattle.g1_copy.specs.declared.headers.Headers.{Headers}
use Rattle.g1_copy.specs.Headers.{AreAhead}

-- what holds of all addresses holds of a part of them
pub part_below : (b i n : ℕ) (xs : List ℕ) → All (λ a. a < b) xs → All (λ a. a < b) (take n (drop i xs))
part_below b i n xs f = λ k d lt.
    let few = length-take n (drop i xs) in
    let rest = length-drop i xs in
    let is : get_or (take n (drop i xs)) k d ≡ get_or xs (i + k) d = get_or-take n (drop i xs) k d (omega (arith, lt, few)) ∙ get_or-drop i xs k d in
    subst (λ a. a < b) (sym is) (f (i + k) d (omega (arith, lt, few, rest)))

-- where the headers from the i-th survivor on are read
pub ahead_read : (h : Heap) (l : List ℕ) (i to : ℕ) (words xs headers : List ℕ) → words ≡ h.words → xs ≡ l → i < to → to ≤ i + 16 → to ≤ length l
    → ((k : ℕ) → k < length (take (to - i) (drop i xs)) → slice_index headers k ≡ slice_index words (slice_index (take (to - i) (drop i xs)) k))
    → AreAhead h l (i + 1) (record { from = i; to = to; headers = headers })
ahead_read h l i to words xs headers e f more few most read = record {
  begun = omega arith;
  next = omega (arith, more);
  few = few;
  told = λ k lt.
      let rest = length-drop i xs in
      let count : length (take (to - i) (drop i xs)) ≡ to - i = length-take-le (to - i) (drop i xs) (omega (arith, rest, most, ap length f)) in
      let is : get_or (take (to - i) (drop i xs)) k 0 ≡ get_or l (i + k) 0 = get_or-take (to - i) (drop i xs) k 0 (omega (arith, lt)) ∙ get_or-drop i xs k 0 ∙ ap (λ ys. get_or ys (i + k) 0) f in
      read k (omega (arith, lt, count)) ∙ (λ t. get_or (e t) (is t) 0);
}

-- where some are left
pub ahead_left : (h : Heap) (l : List ℕ) (i : ℕ) (a : Headers) → AreAhead h l i a → (i ≡ a.to → ⊥) → AreAhead h l (i + 1) a
ahead_left h l i a k left = record { begun = omega (arith, k.begun); next = omega (arith, k.next, left); few = k.few; told = k.told }
