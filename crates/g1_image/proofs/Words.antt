-- Words of 64 bits in bytes, and the words of regions.
use Rattle.std.proofs.Common.{◌≡◌, ◌≤◌, ◌<◌, ℕ, zero, suc, ◌+◌, ◌-◌, ◌*◌, ◌^◌, List, [], ◌∷◌, ◌++◌, length, take, drop, replicate, arith, refl, sym, ap, ◌∙◌, append_assoc, length-append}
use Rattle.std.proofs.Common.{length-drop, get_or-drop, slice_index, slice_index_or, min, flat_map}
use Rattle.std.proofs.lemmas.List.{append-nil, take_all, drop-drop, drop-take, drop_all, take_at}
use borrow.Rule.Slice.PartMut.{put_mid, post_of}
use Rattle.std.proofs.lemmas.List.Sums.{sum_by-append}
use Rattle.g1_image.specs.Text.{Entry, u32, u64, words_text, numbers_text, read_word, words_of, table_words}
use Rattle.g1_image.specs.Reading.{IsU64, Are, IsBytes, EndsWithin}
use Rattle.g1_image.specs.Image.{all_words}
use Rattle.g1_image.proofs.Numbers.{u64_read, u64-length}
use Rattle.byteorder.specs.Endian.{little_number, little_bytes}
use Rattle.byteorder.specs.Numbers.{little_from-take, little_from-lt}

pub read_word-is : (bytes front : List ℕ) (x : ℕ) → front ≡ take 8 bytes → x ≡ little_number 8 front → x ≡ read_word bytes
unfolding read_word
read_word-is bytes front x f e = e ∙ ap (λ l. little_number 8 l) f ∙ little_from-take 0 8 8 bytes (omega arith)

pub read_word-fits : (bytes : List ℕ) → IsBytes bytes → read_word bytes < 2 ^ 64
unfolding read_word
read_word-fits bytes fits = little_from-lt 0 8 bytes fits

read_word-text : (bytes : List ℕ) → 8 ≤ length bytes → IsBytes bytes → bytes ≡ u64 (read_word bytes) ++ drop 8 bytes
read_word-text bytes le fits = (u64_read bytes (take 8 bytes) (drop 8 bytes) (read_word bytes) le fits refl refl (is bytes)).1 where
  is : (bytes : List ℕ) → read_word bytes ≡ little_number 8 (take 8 bytes)
  is bytes = sym (read_word-is bytes (take 8 bytes) (little_number 8 (take 8 bytes)) refl refl)

bytes-drop : (k : ℕ) (bytes : List ℕ) → IsBytes bytes → IsBytes (drop k bytes)
bytes-drop k bytes fits i = rw (get_or-drop k bytes i 0) (fits (k + i))

pub words_of-text : (n : ℕ) (bytes : List ℕ) → 8 * n ≤ length bytes → IsBytes bytes → bytes ≡ words_text (words_of n bytes) ++ drop (8 * n) bytes
words_of-text zero bytes le fits = refl
words_of-text (suc n) bytes le fits =
    let rest : drop 8 bytes ≡ words_text (words_of n (drop 8 bytes)) ++ drop (8 * n) (drop 8 bytes) =
    words_of-text n (drop 8 bytes) (omega (arith, length-drop 8 bytes)) (bytes-drop 8 bytes fits) in
    let same : drop (8 * n) (drop 8 bytes) ≡ drop (8 * suc n) bytes = drop-drop (8 * n) 8 bytes ∙ ap (λ k. drop k bytes) (let e : 8 + 8 * n ≡ 8 * suc n = omega arith in e) in
    read_word-text bytes (omega arith) fits ∙ ap (λ l. u64 (read_word bytes) ++ l) (rest ∙ ap (λ l. words_text (words_of n (drop 8 bytes)) ++ l) same)
    ∙ sym (append_assoc (u64 (read_word bytes)) (words_text (words_of n (drop 8 bytes))) (drop (8 * suc n) bytes))

pub length-words_of : (n : ℕ) (bytes : List ℕ) → length (words_of n bytes) ≡ n
length-words_of zero bytes = refl
length-words_of (suc n) bytes = omega (arith, length-words_of n (drop 8 bytes))

words_of-each : (n : ℕ) (bytes : List ℕ) → IsBytes bytes → (k d : ℕ) → k < length (words_of n bytes) → IsU64 (slice_index_or (words_of n bytes) k d)
words_of-each zero bytes fits k d lt = absurd (omega arith)
words_of-each (suc n) bytes fits zero d lt = read_word-fits bytes fits
words_of-each (suc n) bytes fits (suc k) d lt = words_of-each n (drop 8 bytes) (bytes-drop 8 bytes fits) k d (omega arith)

pub words_of-are : (n : ℕ) (bytes : List ℕ) → IsBytes bytes → Are IsU64 n (words_of n bytes)
words_of-are n bytes fits = record { how_many = length-words_of n bytes; each = words_of-each n bytes fits }

pub length-words_text : (ws : List ℕ) → length (words_text ws) ≡ 8 * length ws
length-words_text [] = refl
length-words_text (x ∷ ws) = omega (arith, length-append (u64 x) (words_text ws), u64-length x, length-words_text ws)

-- fewer bytes don't begin with the text of so many words
pub words_short : (n : ℕ) (bytes : List ℕ) → length bytes < 8 * n → EndsWithin (Are IsU64 n) words_text bytes
words_short n bytes lt ws rest a e = omega (arith, a.how_many, ap length e, length-append (words_text ws) rest, length-words_text ws)

pub take-words_of : (m n : ℕ) (b : List ℕ) → m ≤ n → take m (words_of n b) ≡ words_of m b
take-words_of zero n b le = refl
take-words_of (suc m) zero b le = absurd (omega arith)
take-words_of (suc m) (suc n) b le = ap (λ l. read_word b ∷ l) (take-words_of m n (drop 8 b) (omega arith))

pub drop-words_of : (m n s : ℕ) (b : List ℕ) → n ≡ m + s → drop m (words_of n b) ≡ words_of s (drop (8 * m) b)
drop-words_of zero n s b e = let same : n ≡ s = omega arith in ap (λ k. words_of k b) same
drop-words_of (suc m) zero s b e = absurd (omega arith)
drop-words_of (suc m) (suc n) s b e =
    drop-words_of m n s (drop 8 b) (omega arith) ∙ ap (λ l. words_of s l) (drop-drop (8 * m) 8 b ∙ ap (λ k. drop k b) (let e : 8 + 8 * m ≡ 8 * suc m = omega arith in e))

-- words read all at once
pub read_words-is : (n : ℕ) (bytes dst : List ℕ) → length dst ≡ n → ((k : ℕ) → k < length dst → slice_index dst k ≡ little_number 8 (drop (8 * k) bytes)) → dst ≡ words_of n bytes
unfolding read_word
read_words-is zero bytes [] e r = refl
read_words-is zero bytes (x ∷ dst) e r = absurd (omega (arith, e))
read_words-is (suc n) bytes [] e r = absurd (omega (arith, e))
read_words-is (suc n) bytes (x ∷ dst) e r =
    let first : x ≡ little_number 8 bytes = r 0 (omega arith) in
    let past : (k : ℕ) → drop (8 * k) (drop 8 bytes) ≡ drop (8 * suc k) bytes =
    λ k. drop-drop (8 * k) 8 bytes ∙ ap (λ k. drop k bytes) (let e : 8 + 8 * k ≡ 8 * suc k = omega arith in e) in
    let rest : dst ≡ words_of n (drop 8 bytes) =
    read_words-is n (drop 8 bytes) dst (omega (arith, e)) (λ k lt. r (suc k) (omega (arith, lt)) ∙ ap (λ l. little_number 8 l) (sym (past k))) in
    λ t. first t ∷ rest t

pub words_of-take : (n : ℕ) (b : List ℕ) → words_of n (take (8 * n) b) ≡ words_of n b
unfolding read_word
words_of-take zero b = refl
words_of-take (suc n) b =
    let first : little_number 8 (take (8 * suc n) b) ≡ little_number 8 b = little_from-take 0 8 (8 * suc n) b (omega arith) in
    let rest : drop 8 (take (8 * suc n) b) ≡ take (8 * n) (drop 8 b) = ap (λ k. drop 8 (take k b)) (let e : 8 * suc n ≡ 8 + 8 * n = omega arith in e) ∙ drop-take 8 (8 * n) b in
    (λ t. first t ∷ words_of n (rest t)) ∙ ap (λ l. read_word b ∷ l) (words_of-take n (drop 8 b))

-- words written over the end of a list
pub tail_written : (s n len : ℕ) (old items d dst : List ℕ) → s ≡ length old → items ≡ old ++ replicate n 0 → d ≡ items → length d ≡ s + n → len ≡ s + n → length dst ≡ n →
    take len (put_mid s (length d - s) d dst ++ drop (length (put_mid s (length d - s) d dst)) items) ≡ old ++ dst
tail_written s n len old items d dst a e f many l m =
    let front : take s d ≡ old = ap (λ x. take s x) (f ∙ e) ∙ take_at old (replicate n 0) s (sym a) in
    let back : post_of s (length d - s) d ≡ [] = drop_all (length d - s) (drop s d) (omega (arith, length-drop s d)) in
    let whole : put_mid s (length d - s) d dst ≡ old ++ dst = (λ t. front t ++ (dst ++ back t)) ∙ ap (λ x. old ++ x) (append-nil dst) in
    take_at (put_mid s (length d - s) d dst) (drop (length (put_mid s (length d - s) d dst)) items) len (omega (arith, ap length whole, length-append old dst, a, l, m)) ∙ whole

-- words written over the zeros by which a list grew
pub tail_grown : (s n had len : ℕ) (old items d dst : List ℕ) → s ≡ had → s ≡ length old → items ≡ take (s + n) old ++ replicate (s + n - had) 0 →
    d ≡ items → length d ≡ s + n → len ≡ s + n → length dst ≡ n →
    take len (put_mid s (length d - s) d dst ++ drop (length (put_mid s (length d - s) d dst)) items) ≡ old ++ dst
tail_grown s n had len old items d dst same start grown f many l m =
    let more : s + n - had ≡ n = omega (arith, same) in
    tail_written s n len old items d dst start (grown ∙ (λ t. take_all (s + n) old (omega (arith, start)) t ++ replicate (more t) 0)) f many l m

-- what a writer of many numbers writes
pub words_text-is : (xs : List ℕ) → flat_map (little_bytes 8) xs ≡ words_text xs
unfolding u64
words_text-is xs = refl

pub numbers_text-is : (xs : List ℕ) → flat_map (little_bytes 4) xs ≡ numbers_text xs
unfolding u32
numbers_text-is xs = refl

pub table_words-cons : (e : Entry) (es : List Entry) → table_words (e ∷ es) ≡ e.top + table_words es
table_words-cons e es = omega (arith, sum_by-append (λ (e : Entry). e.top) (e ∷ []) es)

-- one more region
pub laid_front : (w : ℕ) (e : Entry) (es : List Entry) (rest : List ℕ) →
    all_words w (e ∷ es) (words_of (table_words (e ∷ es)) rest) ≡ words_of (min e.top w) rest ++ (replicate (w - e.top) 0 ++ all_words w es (words_of (table_words es) (drop (8 * e.top) rest)))
laid_front w e es rest =
    let some : take (min e.top w) (words_of (table_words (e ∷ es)) rest) ≡ words_of (min e.top w) rest =
    take-words_of (min e.top w) (table_words (e ∷ es)) rest (omega (arith, table_words-cons e es)) in
    let others : drop e.top (words_of (table_words (e ∷ es)) rest) ≡ words_of (table_words es) (drop (8 * e.top) rest) =
    drop-words_of e.top (table_words (e ∷ es)) (table_words es) rest (table_words-cons e es) in
    λ t. some t ++ (replicate (w - e.top) 0 ++ all_words w es (others t))
