-- A command's word tells which command it is.
use Rattle.std.proofs.Common.{◌≡◌, ℕ, zero, suc, ◌+◌, ◌*◌, List, [], ◌∷◌, refl, ap, arith}
use Rattle.g1_trace.specs.declared.command.Command.{Command}
use Rattle.g1_trace.specs.declared.command.Command.TheVariants.{New, Get, Put, Set, Say, Same, Copy, Drop, Pause}
use Rattle.g1_trace.specs.TraceText.{name_of}
use Rattle.g1_trace.proofs.Words.{NoSpace}

-- one number for each list of bytes
abbrev code : List ℕ → ℕ
code [] = 0
code (x ∷ xs) = x + 256 * code xs

pub only_new : (c : Command) → name_of c ≡ 110 ∷ 101 ∷ 119 ∷ [] → (r : ℕ) × (refs : ℕ) × (words : ℕ) × (c ≡ New r refs words)
only_new (New r refs words) e = (r, refs, words, refl)
only_new (Get r q m) e = let z : 7628135 ≡ 7824750 = ap code e in absurd (omega (arith, z))
only_new (Put r m q) e = let z : 7632240 ≡ 7824750 = ap code e in absurd (omega (arith, z))
only_new (Set r m x) e = let z : 7628147 ≡ 7824750 = ap code e in absurd (omega (arith, z))
only_new (Say r m) e = let z : 7954803 ≡ 7824750 = ap code e in absurd (omega (arith, z))
only_new (Same r q) e = let z : 1701667187 ≡ 7824750 = ap code e in absurd (omega (arith, z))
only_new (Copy r q) e = let z : 2037411683 ≡ 7824750 = ap code e in absurd (omega (arith, z))
only_new (Drop r) e = let z : 1886351972 ≡ 7824750 = ap code e in absurd (omega (arith, z))
only_new (Pause b) e = let z : 435728769392 ≡ 7824750 = ap code e in absurd (omega (arith, z))

pub only_get : (c : Command) → name_of c ≡ 103 ∷ 101 ∷ 116 ∷ [] → (r : ℕ) × (q : ℕ) × (m : ℕ) × (c ≡ Get r q m)
only_get (New r refs words) e = let z : 7824750 ≡ 7628135 = ap code e in absurd (omega (arith, z))
only_get (Get r q m) e = (r, q, m, refl)
only_get (Put r m q) e = let z : 7632240 ≡ 7628135 = ap code e in absurd (omega (arith, z))
only_get (Set r m x) e = let z : 7628147 ≡ 7628135 = ap code e in absurd (omega (arith, z))
only_get (Say r m) e = let z : 7954803 ≡ 7628135 = ap code e in absurd (omega (arith, z))
only_get (Same r q) e = let z : 1701667187 ≡ 7628135 = ap code e in absurd (omega (arith, z))
only_get (Copy r q) e = let z : 2037411683 ≡ 7628135 = ap code e in absurd (omega (arith, z))
only_get (Drop r) e = let z : 1886351972 ≡ 7628135 = ap code e in absurd (omega (arith, z))
only_get (Pause b) e = let z : 435728769392 ≡ 7628135 = ap code e in absurd (omega (arith, z))

pub only_put : (c : Command) → name_of c ≡ 112 ∷ 117 ∷ 116 ∷ [] → (r : ℕ) × (m : ℕ) × (q : ℕ) × (c ≡ Put r m q)
only_put (New r refs words) e = let z : 7824750 ≡ 7632240 = ap code e in absurd (omega (arith, z))
only_put (Get r q m) e = let z : 7628135 ≡ 7632240 = ap code e in absurd (omega (arith, z))
only_put (Put r m q) e = (r, m, q, refl)
only_put (Set r m x) e = let z : 7628147 ≡ 7632240 = ap code e in absurd (omega (arith, z))
only_put (Say r m) e = let z : 7954803 ≡ 7632240 = ap code e in absurd (omega (arith, z))
only_put (Same r q) e = let z : 1701667187 ≡ 7632240 = ap code e in absurd (omega (arith, z))
only_put (Copy r q) e = let z : 2037411683 ≡ 7632240 = ap code e in absurd (omega (arith, z))
only_put (Drop r) e = let z : 1886351972 ≡ 7632240 = ap code e in absurd (omega (arith, z))
only_put (Pause b) e = let z : 435728769392 ≡ 7632240 = ap code e in absurd (omega (arith, z))

pub only_set : (c : Command) → name_of c ≡ 115 ∷ 101 ∷ 116 ∷ [] → (r : ℕ) × (m : ℕ) × (x : ℕ) × (c ≡ Set r m x)
only_set (New r refs words) e = let z : 7824750 ≡ 7628147 = ap code e in absurd (omega (arith, z))
only_set (Get r q m) e = let z : 7628135 ≡ 7628147 = ap code e in absurd (omega (arith, z))
only_set (Put r m q) e = let z : 7632240 ≡ 7628147 = ap code e in absurd (omega (arith, z))
only_set (Set r m x) e = (r, m, x, refl)
only_set (Say r m) e = let z : 7954803 ≡ 7628147 = ap code e in absurd (omega (arith, z))
only_set (Same r q) e = let z : 1701667187 ≡ 7628147 = ap code e in absurd (omega (arith, z))
only_set (Copy r q) e = let z : 2037411683 ≡ 7628147 = ap code e in absurd (omega (arith, z))
only_set (Drop r) e = let z : 1886351972 ≡ 7628147 = ap code e in absurd (omega (arith, z))
only_set (Pause b) e = let z : 435728769392 ≡ 7628147 = ap code e in absurd (omega (arith, z))

pub only_say : (c : Command) → name_of c ≡ 115 ∷ 97 ∷ 121 ∷ [] → (r : ℕ) × (m : ℕ) × (c ≡ Say r m)
only_say (New r refs words) e = let z : 7824750 ≡ 7954803 = ap code e in absurd (omega (arith, z))
only_say (Get r q m) e = let z : 7628135 ≡ 7954803 = ap code e in absurd (omega (arith, z))
only_say (Put r m q) e = let z : 7632240 ≡ 7954803 = ap code e in absurd (omega (arith, z))
only_say (Set r m x) e = let z : 7628147 ≡ 7954803 = ap code e in absurd (omega (arith, z))
only_say (Say r m) e = (r, m, refl)
only_say (Same r q) e = let z : 1701667187 ≡ 7954803 = ap code e in absurd (omega (arith, z))
only_say (Copy r q) e = let z : 2037411683 ≡ 7954803 = ap code e in absurd (omega (arith, z))
only_say (Drop r) e = let z : 1886351972 ≡ 7954803 = ap code e in absurd (omega (arith, z))
only_say (Pause b) e = let z : 435728769392 ≡ 7954803 = ap code e in absurd (omega (arith, z))

pub only_same : (c : Command) → name_of c ≡ 115 ∷ 97 ∷ 109 ∷ 101 ∷ [] → (r : ℕ) × (q : ℕ) × (c ≡ Same r q)
only_same (New r refs words) e = let z : 7824750 ≡ 1701667187 = ap code e in absurd (omega (arith, z))
only_same (Get r q m) e = let z : 7628135 ≡ 1701667187 = ap code e in absurd (omega (arith, z))
only_same (Put r m q) e = let z : 7632240 ≡ 1701667187 = ap code e in absurd (omega (arith, z))
only_same (Set r m x) e = let z : 7628147 ≡ 1701667187 = ap code e in absurd (omega (arith, z))
only_same (Say r m) e = let z : 7954803 ≡ 1701667187 = ap code e in absurd (omega (arith, z))
only_same (Same r q) e = (r, q, refl)
only_same (Copy r q) e = let z : 2037411683 ≡ 1701667187 = ap code e in absurd (omega (arith, z))
only_same (Drop r) e = let z : 1886351972 ≡ 1701667187 = ap code e in absurd (omega (arith, z))
only_same (Pause b) e = let z : 435728769392 ≡ 1701667187 = ap code e in absurd (omega (arith, z))

pub only_copy : (c : Command) → name_of c ≡ 99 ∷ 111 ∷ 112 ∷ 121 ∷ [] → (r : ℕ) × (q : ℕ) × (c ≡ Copy r q)
only_copy (New r refs words) e = let z : 7824750 ≡ 2037411683 = ap code e in absurd (omega (arith, z))
only_copy (Get r q m) e = let z : 7628135 ≡ 2037411683 = ap code e in absurd (omega (arith, z))
only_copy (Put r m q) e = let z : 7632240 ≡ 2037411683 = ap code e in absurd (omega (arith, z))
only_copy (Set r m x) e = let z : 7628147 ≡ 2037411683 = ap code e in absurd (omega (arith, z))
only_copy (Say r m) e = let z : 7954803 ≡ 2037411683 = ap code e in absurd (omega (arith, z))
only_copy (Same r q) e = let z : 1701667187 ≡ 2037411683 = ap code e in absurd (omega (arith, z))
only_copy (Copy r q) e = (r, q, refl)
only_copy (Drop r) e = let z : 1886351972 ≡ 2037411683 = ap code e in absurd (omega (arith, z))
only_copy (Pause b) e = let z : 435728769392 ≡ 2037411683 = ap code e in absurd (omega (arith, z))

pub only_drop : (c : Command) → name_of c ≡ 100 ∷ 114 ∷ 111 ∷ 112 ∷ [] → (r : ℕ) × (c ≡ Drop r)
only_drop (New r refs words) e = let z : 7824750 ≡ 1886351972 = ap code e in absurd (omega (arith, z))
only_drop (Get r q m) e = let z : 7628135 ≡ 1886351972 = ap code e in absurd (omega (arith, z))
only_drop (Put r m q) e = let z : 7632240 ≡ 1886351972 = ap code e in absurd (omega (arith, z))
only_drop (Set r m x) e = let z : 7628147 ≡ 1886351972 = ap code e in absurd (omega (arith, z))
only_drop (Say r m) e = let z : 7954803 ≡ 1886351972 = ap code e in absurd (omega (arith, z))
only_drop (Same r q) e = let z : 1701667187 ≡ 1886351972 = ap code e in absurd (omega (arith, z))
only_drop (Copy r q) e = let z : 2037411683 ≡ 1886351972 = ap code e in absurd (omega (arith, z))
only_drop (Drop r) e = (r, refl)
only_drop (Pause b) e = let z : 435728769392 ≡ 1886351972 = ap code e in absurd (omega (arith, z))

pub only_pause : (c : Command) → name_of c ≡ 112 ∷ 97 ∷ 117 ∷ 115 ∷ 101 ∷ [] → (b : ℕ) × (c ≡ Pause b)
only_pause (New r refs words) e = let z : 7824750 ≡ 435728769392 = ap code e in absurd (omega (arith, z))
only_pause (Get r q m) e = let z : 7628135 ≡ 435728769392 = ap code e in absurd (omega (arith, z))
only_pause (Put r m q) e = let z : 7632240 ≡ 435728769392 = ap code e in absurd (omega (arith, z))
only_pause (Set r m x) e = let z : 7628147 ≡ 435728769392 = ap code e in absurd (omega (arith, z))
only_pause (Say r m) e = let z : 7954803 ≡ 435728769392 = ap code e in absurd (omega (arith, z))
only_pause (Same r q) e = let z : 1701667187 ≡ 435728769392 = ap code e in absurd (omega (arith, z))
only_pause (Copy r q) e = let z : 2037411683 ≡ 435728769392 = ap code e in absurd (omega (arith, z))
only_pause (Drop r) e = let z : 1886351972 ≡ 435728769392 = ap code e in absurd (omega (arith, z))
only_pause (Pause b) e = (b, refl)

-- no number of the list is 32
abbrev Apart : List ℕ → Type 0
Apart [] = Unit {0}
Apart (x ∷ xs) = (x ≡ 32 → ⊥) × Apart xs

word_by : (xs : List ℕ) → Apart xs → NoSpace xs
word_by [] a k lt e = absurd (omega (arith, lt))
word_by (x ∷ xs) a zero lt e = a.0 e
word_by (x ∷ xs) a (suc k) lt e = word_by xs a.1 k (omega (arith, lt)) e

pub name_word : (c : Command) → NoSpace (name_of c)
name_word (New r refs words) = word_by (110 ∷ 101 ∷ 119 ∷ []) ((λ e. absurd (omega (arith, e))), ((λ e. absurd (omega (arith, e))), ((λ e. absurd (omega (arith, e))), tt)))
name_word (Get r q m) = word_by (103 ∷ 101 ∷ 116 ∷ []) ((λ e. absurd (omega (arith, e))), ((λ e. absurd (omega (arith, e))), ((λ e. absurd (omega (arith, e))), tt)))
name_word (Put r m q) = word_by (112 ∷ 117 ∷ 116 ∷ []) ((λ e. absurd (omega (arith, e))), ((λ e. absurd (omega (arith, e))), ((λ e. absurd (omega (arith, e))), tt)))
name_word (Set r m x) = word_by (115 ∷ 101 ∷ 116 ∷ []) ((λ e. absurd (omega (arith, e))), ((λ e. absurd (omega (arith, e))), ((λ e. absurd (omega (arith, e))), tt)))
name_word (Say r m) = word_by (115 ∷ 97 ∷ 121 ∷ []) ((λ e. absurd (omega (arith, e))), ((λ e. absurd (omega (arith, e))), ((λ e. absurd (omega (arith, e))), tt)))
name_word (Same r q) = word_by (115 ∷ 97 ∷ 109 ∷ 101 ∷ []) (
  (λ e. absurd
      (omega (arith, e))),
  ((λ e. absurd (omega (arith, e))), ((λ e. absurd (omega (arith, e))), ((λ e. absurd (omega (arith, e))), tt))),
)
name_word (Copy r q) = word_by (99 ∷ 111 ∷ 112 ∷ 121 ∷ []) (
  (λ e. absurd
      (omega (arith, e))),
  ((λ e. absurd (omega (arith, e))), ((λ e. absurd (omega (arith, e))), ((λ e. absurd (omega (arith, e))), tt))),
)
name_word (Drop r) = word_by (100 ∷ 114 ∷ 111 ∷ 112 ∷ []) (
  (λ e. absurd
      (omega (arith, e))),
  ((λ e. absurd (omega (arith, e))), ((λ e. absurd (omega (arith, e))), ((λ e. absurd (omega (arith, e))), tt))),
)
name_word (Pause b) = word_by (112 ∷ 97 ∷ 117 ∷ 115 ∷ 101 ∷ []) (
  (λ e. absurd
      (omega (arith, e))),
  ((λ e. absurd (omega (arith, e))), ((λ e. absurd (omega (arith, e))), ((λ e. absurd (omega (arith, e))), ((λ e. absurd (omega (arith, e))), tt)))),
)
