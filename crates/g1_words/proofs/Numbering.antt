-- How many marks stand before a word: block by block, and from word to word.
use Rattle.std.proofs.Common.{◌≡◌, ◌<◌, ◌≤◌, ℕ, zero, suc, ◌+◌, ◌*◌, ◌/◌, ◌%◌, ◌^◌, ◌==◌, inl, inr, Bool, true, false, List, [], ◌∷◌, ◌++◌, map, take, length}
use Rattle.std.proofs.Common.{get_or, slice_index, refl, sym, ap, ◌∙◌, arith, cond, take-take}
use Rattle.std.proofs.lemmas.Bool.{cases_lt, cases_eq}
use Rattle.std.proofs.lemmas.List.{get_or-map}
use Rattle.std.proofs.lemmas.List.Sums.{count_by_more_yes, count_by_more_no, sum_by-take-le}
use Rattle.std.proofs.lemmas.Nat.{ones_cat, ones-le, mod-pow-add, pow_pos}
use Rattle.std.proofs.lemmas.Nat.Bits.{bit_at-lt}
use Rattle.std.proofs.Math.Nat.{mod-lt, mod-eq_of_lt}
use Rattle.std.specs.Int.{bit_at}
use Rattle.std.specs.Int.Count.{ones, ones-ones}
use Rattle.std.specs.List.{count_by}
use Rattle.g1_words.proofs.Bits.{length-marks_of, mark_of}
use Rattle.g1_words.specs.declared.numbers.Block.{Block}
use Rattle.g1_words.specs.Numbers.{number_at, marks_in, AreCounted, counted_on}

-- ---- marks one by one

-- no fewer stand before a later word
pub number_grows : (marks : List Bool) (p q : ℕ) → p ≤ q → number_at marks p ≤ number_at marks q
number_grows marks p q le =
    let k = sum_by-take-le (λ (b : Bool). cond b 1 0) (take q marks) p in
    let e = ap (count_by (λ b. b)) (take-take p q marks le) in omega (arith, k, e)

-- one more stands before a word behind a marked one
pub number_rises : (marks : List Bool) (p q : ℕ) → p < q → p < length marks → get_or marks p false ≡ true → number_at marks p < number_at marks q
number_rises marks p q lt inside marked =
    let one = count_by_more_yes (λ b. b) marks p false inside marked in
    let more = number_grows marks (p + 1) q (omega (arith, lt)) in omega (arith, one, more)

-- marked words with one number are one word
pub number_apart : (marks : List Bool) (p q : ℕ) → p < length marks → q < length marks → get_or marks p false ≡ true → get_or marks q false ≡ true →
    number_at marks p ≡ number_at marks q → p ≡ q
number_apart marks p q lp lq mp mq e = elim (cases_lt p q) [
  | inl lt ↦ let k = number_rises marks p q lt lp mp in absurd (omega (arith, k, e))
  | inr ge ↦ elim (cases_lt q p) [
    | inl lt ↦ let k = number_rises marks q p lt lq mq in absurd (omega (arith, k, e))
    | inr le ↦ omega (arith, ge, le)
  ]
]

-- ---- the bits of a word

ones_of_bit : (b : ℕ) → b < 2 → ones b ≡ b
ones_of_bit zero lt = ones-ones 0
ones_of_bit (suc zero) lt = ones-ones 1
ones_of_bit (suc (suc b)) lt = absurd (omega (arith, lt))

-- one bit more of a word
pub ones_more : (x k : ℕ) → ones (x % 2 ^ (k + 1)) ≡ ones (x % 2 ^ k) + bit_at x k
ones_more x k =
    let swap : k + 1 ≡ 1 + k = omega arith in
    let split : x % 2 ^ (k + 1) ≡ bit_at x k * 2 ^ k + x % 2 ^ k = ap (λ n. x % 2 ^ n) swap ∙ mod-pow-add x 1 k in
    let low : x % 2 ^ k < 2 ^ k = mod-lt x (pow_pos k) in
    let parts = ones_cat k (bit_at x k) (x % 2 ^ k) low in
    let bit = ones_of_bit (bit_at x k) (bit_at-lt x k) in
    let all : ones (x % 2 ^ (k + 1)) ≡ ones (bit_at x k * 2 ^ k + x % 2 ^ k) = ap ones split in
    omega (arith, parts, bit, all)

-- ---- blocks

abbrev pub no_block : Block
no_block = record { marks = 0; before = 0 }

-- the block of a word
abbrev pub block_at : List Block → ℕ → Block
block_at blocks i = get_or blocks i no_block

-- how many marks stand before a word, by its block
abbrev pub by_block : List Block → ℕ → ℕ
by_block blocks p = (block_at blocks (p / 64)).before + ones ((block_at blocks (p / 64)).marks % 2 ^ (p % 64))

first_before : (n : ℕ) (blocks : List Block) → AreCounted n blocks → 0 < length blocks → (block_at blocks 0).before ≡ n
first_before n [] c lt = absurd (omega (arith, lt))
first_before n (b ∷ bs) c lt = c.0

next_before : (n : ℕ) (blocks : List Block) (i : ℕ) → AreCounted n blocks → i + 1 < length blocks → (block_at blocks (i + 1)).before ≡ (block_at blocks i).before + ones (block_at blocks i).marks
next_before n [] i c lt = absurd (omega (arith, lt))
next_before n (b ∷ bs) zero c lt = let f = first_before (n + ones b.marks) bs c.2 (omega (arith, lt)) in f ∙ ap (λ x. x + ones b.marks) (sym c.0)
next_before n (b ∷ bs) (suc i) c lt =
    let e : suc i + 1 ≡ suc (i + 1) = omega arith in
    ap (λ j. (block_at (b ∷ bs) j).before) e ∙ next_before (n + ones b.marks) bs i c.2 (omega (arith, lt))

pub marks_fit : (n : ℕ) (blocks : List Block) (i : ℕ) → AreCounted n blocks → (block_at blocks i).marks < 2 ^ 64
marks_fit n [] i c = omega arith
marks_fit n (b ∷ bs) zero c = c.1
marks_fit n (b ∷ bs) (suc i) c = marks_fit (n + ones b.marks) bs i c.2

last_counted : (n : ℕ) (blocks : List Block) (i : ℕ) → AreCounted n blocks → i + 1 ≡ length blocks → (block_at blocks i).before + ones (block_at blocks i).marks ≡ counted_on n blocks
last_counted n [] i c e = absurd (omega (arith, e))
last_counted n (b ∷ []) zero c e = ap (λ x. x + ones b.marks) c.0
last_counted n (b ∷ d ∷ bs) zero c e = absurd (omega (arith, e))
last_counted n (b ∷ bs) (suc i) c e = last_counted (n + ones b.marks) bs i c.2 (omega (arith, e))

counted_on-le : (n : ℕ) (blocks : List Block) → AreCounted n blocks → counted_on n blocks ≤ n + 64 * length blocks
counted_on-le n [] c = omega arith
counted_on-le n (b ∷ bs) c = let k = ones-le 64 b.marks c.1 in let r = counted_on-le (n + ones b.marks) bs c.2 in omega (arith, k, r)

-- they count no more marks than there are words
pub counted_few : (blocks : List Block) → AreCounted 0 blocks → counted_on 0 blocks ≤ 64 * length blocks
counted_few blocks c = let k = counted_on-le 0 blocks c in omega (arith, k)

-- ---- the blocks' marks

module _ (blocks : List Block) (counted : AreCounted 0 blocks) where
  abbrev words_of : List ℕ
  words_of = map (λ (b : Block). b.marks) blocks

  word_there : (p : ℕ) → p < 64 * length blocks → slice_index words_of (p / 64) ≡ (block_at blocks (p / 64)).marks
  word_there p lt = get_or-map (λ (b : Block). b.marks) blocks (p / 64) no_block 0 (omega (arith, lt))

  pub marks_long : length (marks_in blocks) ≡ 64 * length blocks
  marks_long = length-marks_of (64 * length blocks) words_of

  -- the mark of a word is its bit in its block
  pub mark_by_block : (p : ℕ) → p < 64 * length blocks → get_or (marks_in blocks) p false ≡ (bit_at (block_at blocks (p / 64)).marks (p % 64) == 1)
  mark_by_block p lt = mark_of (64 * length blocks) words_of p false lt ∙ ap (λ x. bit_at x (p % 64) == 1) (word_there p lt)

  -- past a word there is as many more as its bit
  one_more : (p : ℕ) → p < 64 * length blocks → number_at (marks_in blocks) (p + 1) ≡ number_at (marks_in blocks) p + bit_at (block_at blocks (p / 64)).marks (p % 64)
  one_more p lt = at (bit_at (block_at blocks (p / 64)).marks (p % 64)) refl (bit_at-lt (block_at blocks (p / 64)).marks (p % 64))
    where
      inside : p < length (marks_in blocks)
      inside = omega (arith, lt, marks_long)

      mark : get_or (marks_in blocks) p false ≡ (bit_at (block_at blocks (p / 64)).marks (p % 64) == 1)
      mark = mark_by_block p lt

      at : (b : ℕ) → bit_at (block_at blocks (p / 64)).marks (p % 64) ≡ b → b < 2 →
          number_at (marks_in blocks) (p + 1) ≡ number_at (marks_in blocks) p + bit_at (block_at blocks (p / 64)).marks (p % 64)
      at zero e lt = let k = count_by_more_no (λ b. b) (marks_in blocks) p false inside (mark ∙ ap (λ x. x == 1) e) in omega (arith, k, e)
      at (suc zero) e lt = let k = count_by_more_yes (λ b. b) (marks_in blocks) p false inside (mark ∙ ap (λ x. x == 1) e) in omega (arith, k, e)
      at (suc (suc b)) e lt = absurd (omega (arith, lt))

  -- the marks before a word and its own
  abbrev and_here : ℕ → ℕ
  and_here p = (block_at blocks (p / 64)).before + ones ((block_at blocks (p / 64)).marks % 2 ^ (p % 64 + 1))

  and_here_is : (p : ℕ) → and_here p ≡ by_block blocks p + bit_at (block_at blocks (p / 64)).marks (p % 64)
  and_here_is p = let k = ones_more (block_at blocks (p / 64)).marks (p % 64) in omega (arith, k)

  -- a whole block
  whole_block : (p : ℕ) → p % 64 ≡ 63 → and_here p ≡ (block_at blocks (p / 64)).before + ones (block_at blocks (p / 64)).marks
  whole_block p e =
      let x : ℕ = (block_at blocks (p / 64)).marks in
      let full : p % 64 + 1 ≡ 64 = omega (arith, e) in
      let same : x % 2 ^ (p % 64 + 1) ≡ x = ap (λ n. x % 2 ^ n) full ∙ mod-eq_of_lt (marks_fit 0 blocks (p / 64) counted) in
      ap (λ y. (block_at blocks (p / 64)).before + ones y) same

  by_next : (p : ℕ) → p + 1 < 64 * length blocks → by_block blocks (p + 1) ≡ and_here p
  by_next p lt = elim (cases_eq (p % 64) 63) [
    | inl last ↦
        let i : (p + 1) / 64 ≡ p / 64 + 1 = omega (arith, last) in
        let k : (p + 1) % 64 ≡ 0 = omega (arith, last) in
        let next = next_before 0 blocks (p / 64) counted (omega (arith, lt, last)) in
        (λ j. (block_at blocks (i j)).before + ones ((block_at blocks (i j)).marks % 2 ^ (k j)))
        ∙ none (block_at blocks (p / 64 + 1)) ∙ next ∙ sym (whole_block p last)
    | inr inner ↦
        let i : (p + 1) / 64 ≡ p / 64 = omega (arith, inner) in
        let k : (p + 1) % 64 ≡ p % 64 + 1 = omega (arith, inner) in
        λ j. (block_at blocks (i j)).before + ones ((block_at blocks (i j)).marks % 2 ^ (k j))
  ]
    where
      none : (b : Block) → b.before + ones (b.marks % 2 ^ 0) ≡ b.before
      none b =
          let e : b.marks % 2 ^ 0 ≡ 0 = omega arith in
          let z : ones (b.marks % 2 ^ 0) ≡ 0 = ap ones e ∙ ones-ones 0 in omega (arith, z)

  -- what the blocks tell is how many marks stand before a word
  pub number_by_block : (p : ℕ) → p < 64 * length blocks → number_at (marks_in blocks) p ≡ by_block blocks p
  number_by_block zero lt =
      let f = first_before 0 blocks counted (omega (arith, lt)) in
      let e : (block_at blocks 0).marks % 2 ^ 0 ≡ 0 = omega arith in
      let z : ones ((block_at blocks 0).marks % 2 ^ 0) ≡ 0 = ap ones e ∙ ones-ones 0 in omega (arith, f, z)
  number_by_block (suc p) lt =
      let r = number_by_block p (omega (arith, lt)) in
      let e : suc p ≡ p + 1 = omega arith in
      let m = one_more p (omega (arith, lt)) in
      ap (number_at (marks_in blocks)) e ∙ m ∙ ap (λ x. x + bit_at (block_at blocks (p / 64)).marks (p % 64)) r ∙ sym (and_here_is p)
      ∙ sym (by_next p (omega (arith, lt))) ∙ ap (by_block blocks) (sym e)

  -- and what was counted is how many there are
  pub number_of_all : counted_on 0 blocks ≡ number_at (marks_in blocks) (length (marks_in blocks))
  number_of_all = at (length blocks) refl
    where
      at : (n : ℕ) → length blocks ≡ n → counted_on 0 blocks ≡ number_at (marks_in blocks) (length (marks_in blocks))
      at zero e = empty blocks e
        where
          empty : (bs : List Block) → length bs ≡ 0 → counted_on 0 bs ≡ number_at (marks_in bs) (length (marks_in bs))
          empty [] z = refl
          empty (b ∷ bs) z = absurd (omega (arith, z))
      at (suc n) e =
          let p : ℕ = 64 * n + 63 in
          let lt : p < 64 * length blocks = omega (arith, e) in
          let i : p / 64 ≡ n = omega arith in
          let last = last_counted 0 blocks n counted (omega (arith, e)) in
          let end : p + 1 ≡ length (marks_in blocks) = omega (arith, marks_long, e) in
          sym last ∙ ap (λ j. (block_at blocks j).before + ones (block_at blocks j).marks) (sym i) ∙ sym (whole_block p (omega arith)) ∙ and_here_is p
          ∙ ap (λ x. x + bit_at (block_at blocks (p / 64)).marks (p % 64)) (sym (number_by_block p lt)) ∙ sym (one_more p lt) ∙ ap (number_at (marks_in blocks)) end

  -- no more stand before a word than there are words
  pub number_few : (p : ℕ) → p < 64 * length blocks → number_at (marks_in blocks) p ≤ 64 * length blocks
  number_few p lt =
      let k = number_grows (marks_in blocks) p (length (marks_in blocks)) (omega (arith, lt, marks_long)) in
      let few = counted_few blocks counted in omega (arith, k, few, number_of_all)

-- ---- a block more

pub counted_on_more : (n : ℕ) (blocks : List Block) (b : Block) → counted_on n (blocks ++ b ∷ []) ≡ counted_on n blocks + ones b.marks
counted_on_more n [] b = refl
counted_on_more n (d ∷ blocks) b = counted_on_more (n + ones d.marks) blocks b

pub AreCounted-more : (n : ℕ) (blocks : List Block) (b : Block) → AreCounted n blocks → b.before ≡ counted_on n blocks → b.marks < 2 ^ 64 → AreCounted n (blocks ++ b ∷ [])
AreCounted-more n [] b c e lt = (e, lt, tt)
AreCounted-more n (d ∷ blocks) b c e lt = (c.0, c.1, AreCounted-more (n + ones d.marks) blocks b c.2 e lt)
