-- Walks, made of lists: one that has found nothing, and one with one pair more.
use Rattle.std.proofs.Common.{◌≡◌, ℕ, suc, ◌<◌, ◌≤◌, ◌^◌, ◌++◌, List, [], ◌∷◌, length, set, refl, arith, slice_index, replicate, Vec, Global}
use Rattle.std.proofs.lemmas.List.{get_or-replicate, length-replicate, length_push, length-set}
use Rattle.g1_words.specs.Geometry.{most_words}
use Rattle.g1_words.specs.Heap.{Heap}
use Rattle.g1_words.specs.Valid.{IsValid}
use Rattle.g1_same.specs.declared.walk.Walk.{Walk}
use Rattle.g1_same.specs.Walk.{IsIndex, IsWalk}
use Rattle.g1_same.proofs.Adding.{IsAdded, pairs_fit}
use denote.RawPtr.{null_ptr}

-- the handle to the allocator
pub global : Global
global = record { memory = record { seal = tt } }

-- a vector of these elements
abbrev pub listed : (l : List ℕ) → length l < 2 ^ 63 → Vec ℕ Global
listed l small = record { ptr = null_ptr; len = length l; cap = length l; alloc = global; items = l; ok = (refl, omega arith); small = small }

pub words_few : (h : Heap) → IsValid h → length h.words ≤ most_words
words_few h valid = omega (arith, valid.word_count, valid.limits.words_most)

-- ---- a walk that has found nothing

nothing_known : (n : ℕ) → IsIndex (replicate n 0) []
nothing_known n a i lt = (
  λ e. absurd (let z : slice_index (replicate n 0) a ≡ 0 = get_or-replicate n a 0 0 (omega (arith, lt, length-replicate {A = ℕ} n 0)) in omega (arith, e, z)),
  λ (p, e). absurd (omega (arith, p)),
)

abbrev pub empty_walk : (g h : Heap) → IsValid g → IsValid h → Walk
empty_walk g h left right = record {
  before = listed [] (omega arith);
  after = listed [] (omega arith);
  from = listed [] (omega arith);
  number = listed [] (omega arith);
  new_of = listed (replicate (length g.words) 0) (omega (arith, words_few g left, length-replicate {A = ℕ} (length g.words) 0));
  old_of = listed (replicate (length h.words) 0) (omega (arith, words_few h right, length-replicate {A = ℕ} (length h.words) 0));
}

pub empty_is_walk : (g h : Heap) (left : IsValid g) (right : IsValid h) → IsWalk g h (empty_walk g h left right)
empty_is_walk g h left right = record {
  table_before = length-replicate {A = ℕ} (length g.words) 0;
  table_after = length-replicate {A = ℕ} (length h.words) 0;
  index_before = nothing_known (length g.words);
  index_after = nothing_known (length h.words);
  pairs = refl;
  froms = refl;
  numbers = refl;
  names_before = λ i p. absurd (omega (arith, p));
  names_after = λ i p. absurd (omega (arith, p));
  alike = λ i p. absurd (omega (arith, p));
  backward = λ i p. absurd (omega (arith, p));
  ways = λ i p. absurd (omega (arith, p));
  rising = λ i j lt p. absurd (omega (arith, p));
}

-- ---- a walk with one pair more

module _ (g h : Heap) (left : IsValid g) (right : IsValid h) (w : Walk) (walk : IsWalk g h w) where
  pub few : length w.before.items ≤ most_words
  few = pairs_fit g h w left walk

  abbrev pub more_walk : ℕ → ℕ → ℕ → ℕ → Walk
  more_walk f n a b = record {
    before = listed (w.before.items ++ a ∷ []) (omega (arith, few, length_push w.before.items a));
    after = listed (w.after.items ++ b ∷ []) (omega (arith, few, walk.pairs, length_push w.after.items b));
    from = listed (w.from.items ++ f ∷ []) (omega (arith, few, walk.froms, length_push w.from.items f));
    number = listed (w.number.items ++ n ∷ []) (omega (arith, few, walk.numbers, length_push w.number.items n));
    new_of = listed (set w.new_of.items a (suc (length w.before.items)))
        (omega (arith, words_few g left, walk.table_before, length-set w.new_of.items a (suc (length w.before.items))));
    old_of = listed (set w.old_of.items b (suc (length w.before.items)))
        (omega (arith, words_few h right, walk.table_after, length-set w.old_of.items b (suc (length w.before.items))));
  }

  pub more_added : (f n a b : ℕ) → IsAdded w (more_walk f n a b) f n a b
  more_added f n a b = record { before = refl; after = refl; from = refl; number = refl; new_of = refl; old_of = refl }
