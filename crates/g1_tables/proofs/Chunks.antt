-- What each out of a run over chunks is, and the outs one after the other.
use Rattle.std.proofs.Common.{◌≡◌, ℕ, zero, suc, ◌+◌, ◌-◌, ◌*◌, ◌<◌, ◌≤◌, inl, inr, List, [], ◌∷◌, ◌++◌, length, get_or, flat_map, sym, ◌∙◌, ap, subst, arith, All}
use Rattle.std.specs.Prelude.{min}
use Rattle.std.specs.List.{enumerate_from, range_with_len}
use Rattle.std.proofs.lemmas.Bool.{cases_lt}
use Rattle.std.proofs.lemmas.List.{flat_map_more}
use Rattle.std.proofs.lemmas.List.Elements.{All-append, All-cons, All-nil}
use Rattle.std.proofs.lemmas.List.Sorted.{All-permutation}
use Rattle.std.proofs.lemmas.List.Concat.{flat_map-append}
use Rattle.g1_work.specs.Each.{Ran, joined, EachRan, IsEachRun}
use Rattle.g1_words.proofs.Lists.{range_split}

module _ {S O : Type 0} (runs : S → ℕ → S → O → Type 0) (chunks : ℕ) (P : ℕ × O → Type 0) (says : (s : S) (c : ℕ) (t : S) (o : O) → runs s c t o → P (c, o)) where
  ran_all : (s : S) (xs : List (ℕ × O)) (t : S) → Ran runs s xs t → All P xs
  ran_all s [] t r = All-nil P
  ran_all s (x ∷ xs) t r = All-cons P x xs (says s x.0 r.0 x.1 r.1) (ran_all r.0 xs t r.2)

  each_all : (ss : List S) (ps : List (List (ℕ × O))) (ts : List S) → EachRan runs chunks ss ps ts → All P (joined ps)
  each_all [] [] [] r = All-nil P
  each_all [] [] (t ∷ ts) r = absurd r
  each_all [] (p ∷ ps) ts r = absurd r
  each_all (s ∷ ss) [] ts r = absurd r
  each_all (s ∷ ss) (p ∷ ps) [] r = absurd r
  each_all (s ∷ ss) (p ∷ ps) (t ∷ ts) r = All-append P p (joined ps) (ran_all s p t r.0) (each_all ss ps ts r.2)

  numbered : (n : ℕ) (os : List O) → All P (enumerate_from n os) → (k : ℕ) (d : O) → k < length os → P (n + k, get_or os k d)
  numbered n [] h k d lt = absurd (omega arith)
  numbered n (o ∷ os) h zero d lt = let e : n ≡ n + 0 = omega arith in subst (λ (i : ℕ). P (i, o)) e (h 0 (n, o) (omega arith))
  numbered n (o ∷ os) h (suc k) d lt = let e : (n + 1) + k ≡ n + suc k = omega arith in
      subst (λ (i : ℕ). P (i, get_or os k d)) e (numbered (n + 1) os (λ j q l. h (suc j) q (omega arith)) k d (omega arith))

  -- P holds of each chunk with its out
  pub each_out : (ss ts : List S) (os : List O) → IsEachRun runs chunks ss ts os → (k : ℕ) (d : O) → k < chunks → P (k, get_or os k d)
  each_out ss ts os r k d lt = let n = r.count in let e : 0 + k ≡ k = omega arith in
      subst (λ (i : ℕ). P (i, get_or os k d)) e (numbered 0 os (All-permutation P (joined r.parts) (enumerate_from 0 os) r.once (each_all ss r.parts ts r.workers)) k d (omega arith))

-- one number more, counted from another
pub one_row_more : (f : ℕ → List ℕ) (now after : List ℕ) (from r : ℕ) → from ≤ r → now ≡ flat_map f (range_with_len from (r - from)) →
    after ≡ now ++ f r → after ≡ flat_map f (range_with_len from (r + 1 - from))
one_row_more f now after from r le e p =
    let next : r + 1 - from ≡ r - from + 1 = omega (arith, le) in
    let here : from + (r - from) ≡ r = omega (arith, le) in
    p ∙ ap (λ xs. xs ++ f r) e ∙ flat_map_more f [] (range_with_len from (r - from)) r
    ∙ ap (λ x. flat_map f (range_with_len from (r - from) ++ x ∷ [])) (sym here) ∙ ap (flat_map f) (sym (range_split from (r - from) 1)) ∙ ap (λ n. flat_map f (range_with_len from n)) (sym next)

-- texts of the chunks of so many numbers below n, one after the other
module _ {O : Type 0} (text : O → List ℕ) (f : ℕ → List ℕ) (n size : ℕ) where
  -- the numbers of chunk k
  abbrev pub piece : ℕ → List ℕ
  piece k = range_with_len (k * size) (min n (k * size + size) - k * size)

  chunk_first : (k : ℕ) → piece k ++ range_with_len (suc k * size) (n - suc k * size) ≡ range_with_len (k * size) (n - k * size)
  chunk_first k =
      let next : suc k * size ≡ k * size + size = omega arith in
      elim (cases_lt n (k * size + size)) [
        | inl lt ↦
            let m : min n (k * size + size) - k * size ≡ n - k * size = omega (arith, lt) in
            let z : n - suc k * size ≡ 0 = omega (arith, lt, next) in
            let whole : n - k * size + 0 ≡ n - k * size = omega arith in
            ap (λ x. range_with_len (k * size) x ++ range_with_len (suc k * size) (n - suc k * size)) m ∙ ap (λ x. range_with_len (k * size) (n - k * size) ++ range_with_len (suc k * size) x) z
            ∙ sym (range_split (k * size) (n - k * size) 0) ∙ ap (range_with_len (k * size)) whole
        | inr ge ↦
            let m : min n (k * size + size) - k * size ≡ size = omega (arith, ge) in
            let rest : size + (n - suc k * size) ≡ n - k * size = omega (arith, ge, next) in
            ap (λ x. range_with_len (k * size) x ++ range_with_len (suc k * size) (n - suc k * size)) m
            ∙ ap (λ x. range_with_len (k * size) size ++ range_with_len x (n - suc k * size)) next
            ∙ sym (range_split (k * size) size (n - suc k * size)) ∙ ap (range_with_len (k * size)) rest
      ]

  pub chunks_join : (outs : List O) (k : ℕ) (d : O) → n ≤ (k + length outs) * size →
      ((j : ℕ) → j < length outs → text (get_or outs j d) ≡ flat_map f (piece (k + j))) → flat_map text outs ≡ flat_map f (range_with_len (k * size) (n - k * size))
  chunks_join [] k d le each =
      let same : k + 0 ≡ k = omega arith in
      let all : (k + 0) * size ≡ k * size = ap (λ x. x * size) same in
      let z : n - k * size ≡ 0 = omega (arith, le, all) in sym (ap (λ x. flat_map f (range_with_len (k * size) x)) z)
  chunks_join (o ∷ outs) k d le each =
      let here : k + 0 ≡ k = omega arith in
      let first : text o ≡ flat_map f (piece k) = each 0 (omega arith) ∙ ap (λ x. flat_map f (piece x)) here in
      let as_many : k + suc (length outs) ≡ suc k + length outs = omega arith in
      let last : n ≤ (suc k + length outs) * size = subst (λ x. n ≤ x * size) as_many le in
      let others = chunks_join outs (suc k) d last (λ j lt. let next : k + suc j ≡ suc k + j = omega arith in each (suc j) (omega (arith, lt)) ∙ ap (λ x. flat_map f (piece x)) next) in
      ap (λ xs. xs ++ flat_map text outs) first ∙ ap (λ xs. flat_map f (piece k) ++ xs) others
      ∙ sym (flat_map-append f (piece k) (range_with_len (suc k * size) (n - suc k * size))) ∙ ap (flat_map f) (chunk_first k)
