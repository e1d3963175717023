-- The places of a search, their order, and the objects and words that are there.
use Rattle.std.proofs.Common.{◌≡◌, ℕ, zero, suc, ◌+◌, ◌<◌, ◌≤◌, inl, inr, List, length, refl, sym, ap, ◌∙◌, arith, slice_index}
use Rattle.g1_words.specs.Heap.{Heap, word}
use Rattle.g1_same.specs.Walk.{IsEarlier}
use Rattle.g1_kept.specs.Order.{IsTurn, AreWords}

-- a place that is not after an earlier one is earlier
pub sooner : (a b c d e f : ℕ) → IsEarlier a b c (d + 1) → IsEarlier c d e f → IsEarlier a b e f
sooner a b c d e f (inl p) (inl q) = inl (omega (arith, p, q))
sooner a b c d e f (inl p) (inr q) = inl (omega (arith, p, q.0))
sooner a b c d e f (inr p) (inl q) = inl (omega (arith, p.0, q))
sooner a b c d e f (inr p) (inr q) = inr (omega (arith, p.0, q.0), omega (arith, p.1, q.1))

pub here : (a b : ℕ) → IsEarlier a b a (b + 1)
here a b = inr (refl, omega arith)

-- of two places neither of which is after the other
pub neither : (a b c d : ℕ) → IsEarlier a b c (d + 1) → IsEarlier c d a (b + 1) → (a ≡ c) × (b ≡ d)
neither a b c d (inl p) (inl q) = absurd (omega (arith, p, q))
neither a b c d (inl p) (inr q) = absurd (omega (arith, p, q.0))
neither a b c d (inr p) (inl q) = absurd (omega (arith, p.0, q))
neither a b c d (inr p) (inr q) = (p.0, omega (arith, p.1, q.1))

module _ (set : List ℕ) (g h : Heap) where
  pub turn_one : (olds news : List ℕ) (t a b c d : ℕ) → IsTurn set g h olds news t a b → IsTurn set g h olds news t c d → (a ≡ c) × (b ≡ d)
  turn_one olds news t a b c d (inl o) (inl p) = (o.2 ∙ sym p.2, o.3 ∙ sym p.3)
  turn_one olds news t a b c d (inl o) (inr p) = absurd (omega (arith, o.0, p.2))
  turn_one olds news t a b c d (inr o) (inl p) = absurd (omega (arith, p.0, o.2))
  turn_one olds news t a b c d (inr o) (inr p) =
      let e : o.0 ≡ p.0 = omega (arith, o.2, p.2) in
      (o.3 ∙ ap (slice_index olds) e ∙ sym p.3, o.4 ∙ ap (slice_index news) e ∙ sym p.4)

  pub words_one : (olds news : List ℕ) (f n x y u v : ℕ) → AreWords set g h olds news f n x y → AreWords set g h olds news f n u v → (x ≡ u) × (y ≡ v)
  words_one olds news zero n x y u v o p = (sym o.2 ∙ p.2, sym o.3 ∙ p.3)
  words_one olds news (suc t) zero x y u v o p = absurd o
  words_one olds news (suc t) (suc n) x y u v o p =
      let e = turn_one olds news t o.0 o.1 p.0 p.1 o.2 p.2 in
      (sym o.5 ∙ ap (λ z. word g (z + 1 + n)) e.0 ∙ p.5, sym o.6 ∙ ap (λ z. word h (z + 1 + n)) e.1 ∙ p.6)

  -- the first pairs of two searches are the same
  pub record AreSame (olds news others images : List ℕ) (k : ℕ) : Type 0 where
    pub more : k ≤ length others
    pub olds_same : (i : ℕ) → i < k → slice_index olds i ≡ slice_index others i
    pub news_same : (i : ℕ) → i < k → slice_index news i ≡ slice_index images i

  pub turn_there : (olds news others images : List ℕ) (k t a b : ℕ) → AreSame olds news others images k → (length g.words ≤ t → t < length g.words + k)
      → IsTurn set g h olds news t a b → IsTurn set g h others images t a b
  turn_there olds news others images k t a b same few (inl o) = inl o
  turn_there olds news others images k t a b same few (inr o) =
      let lt : o.0 < k = let q = few (omega (arith, o.2)) in omega (arith, q, o.2) in
      inr (o.0, omega (arith, lt, same.more), o.2, o.3 ∙ same.olds_same o.0 lt, o.4 ∙ same.news_same o.0 lt)

  pub words_there : (olds news others images : List ℕ) (k f n x y : ℕ) → AreSame olds news others images k → (length g.words < f → f ≤ length g.words + k)
      → AreWords set g h olds news f n x y → AreWords set g h others images f n x y
  words_there olds news others images k zero n x y same few o = o
  words_there olds news others images k (suc t) zero x y same few o = absurd o
  words_there olds news others images k (suc t) (suc n) x y same few o =
      (o.0, o.1, turn_there olds news others images k t o.0 o.1 same (λ le. let q = few (omega (arith, le)) in omega (arith, q)) o.2, o.3, o.4, o.5, o.6)

  pub same_back : (olds news others images : List ℕ) (k : ℕ) → k ≤ length olds → AreSame olds news others images k → AreSame others images olds news k
  same_back olds news others images k le same = record {
    more = le;
    olds_same = λ i lt. sym (same.olds_same i lt);
    news_same = λ i lt. sym (same.news_same i lt);
  }
