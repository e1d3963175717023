-- What the roots reach lies within the heap, and its words have 64 bits by far.
use Rattle.std.proofs.Common.{◌≢◌, ℕ, ◌+◌, ◌*◌, ◌<◌, ◌≤◌, List, ◌++◌, flat_map, length, get_or, Contains, sym, subst, arith}
use Rattle.std.proofs.Math.Nat.{mul-le-mul_right}
use Rattle.std.proofs.lemmas.Bool.Decides.{Decides-eqb}
use Rattle.std.proofs.lemmas.List.Elements.{Contains-get_or}
use Rattle.std.proofs.lemmas.List.Sums.{sum_by-le}
use Rattle.std.proofs.lemmas.Map.Made.{IsDistinct-from_AllPairs}
use Rattle.std.proofs.lemmas.Map.Steps.{length-le_from_distinct_below}
use Rattle.g1_words.specs.Geometry.{most_words}
use Rattle.g1_words.specs.Heap.{Heap, object_at}
use Rattle.g1_words.specs.References.{root_targets, targets}
use Rattle.g1_words.specs.Valid.{IsValid}
use Rattle.g1_words.proofs.Firsts.{Distinct, Distinct-firsts}
use Rattle.g1_words.proofs.Members.{Contains-from_has}
use Rattle.g1_words.proofs.Ordered.{pairs_from_ordered}
use Rattle.g1_same.specs.Same.{IsRenaming}
use Rattle.g1_words.proofs.Sound.{object_in}
use Rattle.g1_words.proofs.Lists.{Distinct-differ}
use Rattle.g1_same.proofs.Heaps.{live_object}
use Rattle.g1judge.specs.Judged.{words_of}

module _ (g h : Heap) (olds news : List ℕ) (valid : IsValid g) (r : IsRenaming g h olds news) where
  abbrev size : ℕ → ℕ
  size a = (object_at g a).size

  fit : (a : ℕ) → Contains olds a → ((object_at g a).refs < size a) × (a + size a ≤ length g.words)
  fit a c = object_in g a valid (live_object g a valid ((r.found.reached a).0 c))

  pub within : (a : ℕ) → Contains olds a → a < length g.words
  within a c = let o = fit a c in omega (arith, o.0, o.1)

  distinct : Distinct olds
  distinct = subst Distinct (sym r.found.in_order) (Distinct-firsts (root_targets g ++ flat_map (targets g) olds))

  few : length olds ≤ length g.words
  few = length-le_from_distinct_below olds (length g.words)
      (IsDistinct-from_AllPairs Decides-eqb olds (pairs_from_ordered (λ x y. x ≢ y) olds (Distinct-differ olds distinct)))
      (λ q e. within q (Contains-from_has olds q e))

  small : (i d : ℕ) → i < length olds → size (get_or olds i d) ≤ most_words
  small i d lt = let o = fit (get_or olds i d) (Contains-get_or olds i d lt) in omega (arith, o.1, valid.word_count, valid.limits.words_most)

  pub words_fit : words_of g olds ≤ most_words * most_words
  words_fit =
      let sum = sum_by-le size most_words olds small in
      let many : length olds ≤ most_words = omega (arith, few, valid.word_count, valid.limits.words_most) in
      let product : length olds * most_words ≤ most_words * most_words = mul-le-mul_right most_words many in
      omega (arith, sum, product)
