-- The heap that a file tells.
use Rattle.std.proofs.Common.{◌≡◌, ◌≤◌, ◌<◌, ℕ, zero, suc, ◌+◌, ◌-◌, ◌*◌, ◌^◌, List, [], ◌∷◌, ◌++◌, length, take, drop, replicate, slice_index, get_or-drop, min, arith, length-append}
use Rattle.std.proofs.Common.{length-drop, length-take}
use Rattle.std.proofs.lemmas.List.{length-replicate}
use Rattle.g1_image.specs.Text.{Entry, words_of, table_words}
use Rattle.g1_image.specs.Reading.{IsBytes}
use Rattle.g1_image.specs.Image.{all_words}
use Rattle.g1_image.proofs.Words.{table_words-cons, length-words_of, read_word-fits}

pub length-all_words : (w : ℕ) (es : List Entry) (ws : List ℕ) → table_words es ≤ length ws → length (all_words w es ws) ≡ length es * w
length-all_words w [] ws le = omega arith
length-all_words w (e ∷ es) ws le =
    let rest : length (all_words w es (drop e.top ws)) ≡ length es * w = length-all_words w es (drop e.top ws) (omega (arith, le, table_words-cons e es, length-drop e.top ws)) in
    let used : length (take (min e.top w) ws) ≡ min e.top w = omega (arith, length-take (min e.top w) ws, le, table_words-cons e es) in
    omega (
      arith,
      used,
      rest,
      length-append (take (min e.top w) ws) (replicate (w - e.top) 0 ++ all_words w es (drop e.top ws)),
      length-append (replicate (w - e.top) 0) (all_words w es (drop e.top ws)),
      length-replicate {A = ℕ} (w - e.top) 0,
    )

pub length-laid : (w : ℕ) (es : List Entry) (bytes : List ℕ) → length (all_words w es (words_of (table_words es) bytes)) ≡ length es * w
length-laid w es bytes = length-all_words w es (words_of (table_words es) bytes) (omega (arith, length-words_of (table_words es) bytes))

abbrev pub Bounded : List ℕ → Type 0
Bounded xs = (i : ℕ) → slice_index xs i < 2 ^ 64

pub bounded_append : (xs ys : List ℕ) → Bounded xs → Bounded ys → Bounded (xs ++ ys)
bounded_append [] ys bx b i = b i
bounded_append (x ∷ xs) ys bx b zero = bx 0
bounded_append (x ∷ xs) ys bx b (suc i) = bounded_append xs ys (λ k. bx (suc k)) b i

pub bounded_take : (n : ℕ) (xs : List ℕ) → Bounded xs → Bounded (take n xs)
bounded_take zero xs b i = omega arith
bounded_take (suc n) [] b i = omega arith
bounded_take (suc n) (x ∷ xs) b zero = b 0
bounded_take (suc n) (x ∷ xs) b (suc i) = bounded_take n xs (λ k. b (suc k)) i

bounded_zeros : (n : ℕ) → Bounded (replicate n 0)
bounded_zeros zero i = omega arith
bounded_zeros (suc n) zero = omega arith
bounded_zeros (suc n) (suc i) = bounded_zeros n i

bounded_all : (w : ℕ) (es : List Entry) (ws : List ℕ) → Bounded ws → Bounded (all_words w es ws)
bounded_all w [] ws b = λ i. omega arith
bounded_all w (e ∷ es) ws b =
    bounded_append (take (min e.top w) ws) (replicate (w - e.top) 0 ++ all_words w es (drop e.top ws)) (bounded_take (min e.top w) ws b)
    (bounded_append (replicate (w - e.top) 0) (all_words w es (drop e.top ws)) (bounded_zeros (w - e.top))
    (bounded_all w es (drop e.top ws) (λ i. rw (get_or-drop e.top ws i 0) (b (e.top + i)))))

bounded_words : (n : ℕ) (bytes : List ℕ) → IsBytes bytes → Bounded (words_of n bytes)
bounded_words zero bytes b i = omega arith
bounded_words (suc n) bytes b zero = read_word-fits bytes b
bounded_words (suc n) bytes b (suc i) = bounded_words n (drop 8 bytes) (λ k. rw (get_or-drop 8 bytes k 0) (b (8 + k))) i

pub bounded_laid : (w : ℕ) (es : List Entry) (bytes : List ℕ) → IsBytes bytes → Bounded (all_words w es (words_of (table_words es) bytes))
bounded_laid w es bytes b = bounded_all w es (words_of (table_words es) bytes) (bounded_words (table_words es) bytes b)
