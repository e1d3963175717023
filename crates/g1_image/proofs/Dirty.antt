-- Cards that are put behind those of a log.
use Rattle.std.proofs.Common.{◌≡◌, ◌≢◌, ℕ, zero, suc, ◌+◌, ◌*◌, ◌^◌, ◌<◌, ◌≤◌, ◌⊎◌, inl, inr, Bool, true, false, List, [], ◌∷◌, ◌++◌, length, take, AllPairs, refl, sym, ◌∙◌, ap, subst, arith, eqb, Contains}
use Rattle.std.proofs.Common.{append_assoc, append-nil, if◌then◌else◌}
use Rattle.std.specs.Prelude.{All, slice_index_or}
use Rattle.std.specs.List.{list_any}
use Rattle.std.proofs.lemmas.Bool.Decides.{Decides-eqb}
use Rattle.std.proofs.lemmas.Map.Made.{IsDistinct-from_AllPairs}
use Rattle.std.proofs.lemmas.Map.Steps.{length-le_from_distinct_below}
use Rattle.std.proofs.Math.Nat.{mul-le-mul_left}
use Rattle.std.proofs.lemmas.List.Elements.{Contains-append_cases, Contains-append_right}
use Rattle.g1_words.specs.Geometry.{IsWithinBounds}
use Rattle.g1_words.specs.Heap.{Heap}
use Rattle.g1_words.specs.Lists.{has}
use Rattle.g1_words.proofs.Members.{has_from_contains, Contains-from_has, none_contains}
use Rattle.g1_words.proofs.Ordered.{Ordered, Ordered-from_pairs, pairs_from_ordered}
use Rattle.g1_words.proofs.Rising.{Ordered-append}
use Rattle.g1_words.proofs.Lists.{all_from_in}
use Rattle.g1_image.specs.Image.{IsUsedCard, IsLog}
use Rattle.g1_image.specs.Dirty.{with_dirty_card, with_dirty_cards}

-- one card more
pub cards_more : (log cards : List ℕ) (i d : ℕ) → i < length cards → with_dirty_cards log (take (i + 1) cards) ≡ with_dirty_card (with_dirty_cards log (take i cards)) (slice_index_or cards i d)
cards_more log [] i d lt = absurd (omega (arith, lt))
cards_more log (x ∷ xs) zero d lt = refl
cards_more log (x ∷ xs) (suc i) d lt =
    ap (λ k. with_dirty_cards log (take k (x ∷ xs))) (let e : suc i + 1 ≡ suc (i + 1) = omega arith in e) ∙ cards_more (with_dirty_card log x) xs i d (omega (arith, lt))

-- distinct cards stand behind others as they are
module _ (p : List ℕ) (x : ℕ) (xs : List ℕ) where
  apart : (l : List ℕ) → Ordered (λ c d. c ≢ d) (l ++ x ∷ xs) → Contains l x → ⊥
  apart [] o m = absurd (omega (arith, m.1))
  apart (y ∷ l) o (zero, b, e) = o.0 x (Contains-append_right l (x ∷ xs) x (zero, omega arith, refl)) e
  apart (y ∷ l) o (suc k, b, e) = apart l o.1 (k, omega (arith, b), e)

  fresh : Ordered (λ c d. c ≢ d) (p ++ x ∷ xs) → with_dirty_card p x ≡ p ++ x ∷ []
  fresh o = by (has p x) refl where
    by : (b : Bool) → has p x ≡ b → (if b then p else (p ++ x ∷ [])) ≡ p ++ x ∷ []
    by true e = absurd (apart p o (Contains-from_has p x e))
    by false e = refl

behind : (p xs : List ℕ) → Ordered (λ c d. c ≢ d) (p ++ xs) → with_dirty_cards p xs ≡ p ++ xs
behind p [] o = sym (append-nil p)
behind p (x ∷ xs) o =
    let whole : (p ++ x ∷ []) ++ xs ≡ p ++ x ∷ xs = append_assoc p (x ∷ []) xs in
    ap (λ l. with_dirty_cards l xs) (fresh p x xs o) ∙ behind (p ++ x ∷ []) xs (subst (Ordered (λ c d. c ≢ d)) (sym whole) o) ∙ whole

pub cards_again : (xs : List ℕ) → AllPairs (λ c d. c ≢ d) xs → with_dirty_cards [] xs ≡ xs
cards_again xs distinct = behind [] xs (Ordered-from_pairs (λ c d. c ≢ d) xs distinct)

all_in : (P : ℕ → Type 0) (xs : List ℕ) → All P xs → (x : ℕ) → Contains xs x → P x
all_in P xs all x m = let c = m in subst P c.2 (all c.0 x c.1)

module _ (h : Heap) (limits : IsWithinBounds h.geometry.w h.geometry.k h.geometry.n) where
  -- distinct cards of a heap are few
  few : (cards : List ℕ) → All (IsUsedCard h) cards → AllPairs (λ c d. c ≢ d) cards → length cards < 2 ^ 32
  few cards used distinct =
      let below : (c : ℕ) → list_any (eqb c) cards ≡ true → c < h.geometry.n * h.geometry.w = λ c e.
      let u : c * h.geometry.k < h.geometry.n * h.geometry.w = (all_in (IsUsedCard h) cards used c (Contains-from_has cards c e)).in_heap in
      let some : 1 ≤ h.geometry.k = omega (arith, limits.k_least) in
      let more : c * 1 ≤ c * h.geometry.k = mul-le-mul_left c some in
      omega (arith, u, more) in
      let most : length cards ≤ h.geometry.n * h.geometry.w = length-le_from_distinct_below cards (h.geometry.n * h.geometry.w) (IsDistinct-from_AllPairs {eq = eqb} Decides-eqb cards distinct) below in
      omega (arith, most, limits.words_most)

  module _ (log : List ℕ) (c : ℕ) (good : IsLog h log) (used : IsUsedCard h c) where
    used_at : (x : ℕ) → Contains log x ⊎ Contains (c ∷ []) x → IsUsedCard h x
    used_at x (inl m) = all_in (IsUsedCard h) log good.used x m
    used_at x (inr (zero, b, e)) = subst (IsUsedCard h) e used
    used_at x (inr (suc k, b, e)) = absurd (omega (arith, b))

    new : (Contains log c → ⊥) → (x y : ℕ) → Contains log x → Contains (c ∷ []) y → x ≢ y
    new none x y m (zero, b, e) same = none (subst (Contains log) (same ∙ sym e) m)
    new none x y m (suc k, b, eq) same = absurd (omega (arith, b))

    one_more : (Contains log c → ⊥) → IsLog h (log ++ c ∷ [])
    one_more none =
        let all : All (IsUsedCard h) (log ++ c ∷ []) = all_from_in (IsUsedCard h) (log ++ c ∷ []) (λ x m. used_at x (Contains-append_cases log (c ∷ []) x m)) in
        let distinct : AllPairs (λ x y. x ≢ y) (log ++ c ∷ []) = pairs_from_ordered (λ x y. x ≢ y) (log ++ c ∷ [])
        (Ordered-append (λ x y. x ≢ y) log (c ∷ []) (Ordered-from_pairs (λ x y. x ≢ y) log good.distinct) ((λ y k. absurd (none_contains y k)), tt) (new none)) in
        record { used = all; distinct = distinct; count = few (log ++ c ∷ []) all distinct }

    card_put : IsLog h (with_dirty_card log c)
    card_put = by (has log c) refl where
      by : (b : Bool) → has log c ≡ b → IsLog h (if b then log else (log ++ c ∷ []))
      by true e = good
      by false e = one_more (λ m. let clash : true ≡ false = sym (has_from_contains log c m) ∙ e in cc)

  -- used cards behind a log make a log
  pub cards_put : (log cards : List ℕ) → IsLog h log → All (IsUsedCard h) cards → IsLog h (with_dirty_cards log cards)
  cards_put log [] good used = good
  cards_put log (c ∷ cards) good used =
      cards_put (with_dirty_card log c) cards (card_put log c good (used 0 0 (omega arith))) (λ k d lt. used (suc k) d (omega (arith, lt)))
