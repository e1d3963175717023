-- What was found stays found when pairs are added.
use Rattle.std.proofs.Common.{◌≡◌, ℕ, suc, ◌+◌, ◌<◌, ◌≤◌, inl, inr, List, length, Option, Some, None, IfSome, IfNone, Result, Ok, Err, IfOk, OnOk, refl, sym, ap, subst, ◌∙◌, arith, slice_index}
use Rattle.std.proofs.lemmas.Bool.{cases_lt}
use Rattle.g1_words.specs.Heap.{Heap, word, object_at}
use Rattle.g1_kept.specs.declared.pairs.Pairs.{Pairs}
use Rattle.g1_kept.specs.Walk.{ArePaired, HasMorePairs, PairsRoots, PairsSlots, IsCompared, ComparesRegion, ComparesOutside, ComparesPairs}

-- the first objects of a list were compared with themselves
abbrev pub ComparesFirst : List ℕ → Heap → Heap → Pairs → List ℕ → ℕ → Type 0
ComparesFirst set g h w starts k = (i : ℕ) → i < k → IsCompared set g h w (slice_index starts i) (slice_index starts i)

-- what follows where nothing was found and nothing failed
pub ok_none_then : {X E : Type 0} (P Q W G : Type 0) (r : Result (Option X) E) → IfOk r (λ o. IfNone o P) → OnOk r W → OnOk r G → (W → G → P → Q) → IfOk r (λ o. IfNone o Q)
ok_none_then P Q W G (Ok None) p w g then = then w g p
ok_none_then P Q W G (Ok (Some x)) p w g then = tt
ok_none_then P Q W G (Err e) p w g then = tt

pub ok_none_map : {X E : Type 0} (P Q : Type 0) (r : Result (Option X) E) → IfOk r (λ o. IfNone o P) → (P → Q) → IfOk r (λ o. IfNone o Q)
ok_none_map P Q (Ok None) p then = then p
ok_none_map P Q (Ok (Some x)) p then = tt
ok_none_map P Q (Err e) p then = tt

pub ok_some_map : {X E : Type 0} (P Q : X → Type 0) (r : Result (Option X) E) → IfOk r (λ o. IfSome o P) → ((x : X) → P x → Q x) → IfOk r (λ o. IfSome o Q)
ok_some_map P Q (Ok None) p then = tt
ok_some_map P Q (Ok (Some x)) p then = then x p
ok_some_map P Q (Err e) p then = tt

pub ok_some_both : {X E : Type 0} (P R Q : X → Type 0) (r : Result (Option X) E) → IfOk r (λ o. IfSome o P) → IfOk r (λ o. IfSome o R)
    → ((x : X) → P x → R x → Q x) → IfOk r (λ o. IfSome o Q)
ok_some_both P R Q (Ok None) p q then = tt
ok_some_both P R Q (Ok (Some x)) p q then = then x p q
ok_some_both P R Q (Err e) p q then = tt

pub grown_same : (w : Pairs) → HasMorePairs w w
grown_same w = record { more = omega arith; olds = λ i p. refl; news = λ i p. refl }

pub grown_more : (w v u : Pairs) → HasMorePairs w v → HasMorePairs v u → HasMorePairs w u
grown_more w v u a b = record {
  more = omega (arith, a.more, b.more);
  olds = λ i p. b.olds i (omega (arith, p, a.more)) ∙ a.olds i p;
  news = λ i p. b.news i (omega (arith, p, a.more)) ∙ a.news i p;
}

pub paired_more : (set : List ℕ) (g : Heap) (w v : Pairs) → HasMorePairs w v → (x y : ℕ) → ArePaired set g w x y → ArePaired set g v x y
paired_more set g w v grown x y (inl e) = inl e
paired_more set g w v grown x y (inr k) = inr (k.0, omega (arith, k.1, grown.more), k.2 ∙ ap suc (sym (grown.olds k.0 k.1)), k.3 ∙ ap suc (sym (grown.news k.0 k.1)))

module _ (set : List ℕ) (g h : Heap) (w v : Pairs) (grown : HasMorePairs w v) where
  pub roots_kept : (k : ℕ) → PairsRoots set g h w k → PairsRoots set g h v k
  roots_kept k paired n lt = paired_more set g w v grown (slice_index g.roots n) (slice_index h.roots n) (paired n lt)

  pub roots_more : (k : ℕ) → PairsRoots set g h w k → ArePaired set g v (slice_index g.roots k) (slice_index h.roots k) → PairsRoots set g h v (k + 1)
  roots_more k paired new n lt = elim (cases_lt n k) [
    | inl p ↦ roots_kept k paired n p
    | inr p ↦ let e : k ≡ n = omega (arith, lt, p) in subst (λ z. ArePaired set g v (slice_index g.roots z) (slice_index h.roots z)) e new
  ]

  pub slots_kept : (a b k : ℕ) → PairsSlots set g h w a b k → PairsSlots set g h v a b k
  slots_kept a b k paired n lt = paired_more set g w v grown (word g (a + 1 + n)) (word h (b + 1 + n)) (paired n lt)

  pub slots_more : (a b k : ℕ) → PairsSlots set g h w a b k → ArePaired set g v (word g (a + 1 + k)) (word h (b + 1 + k)) → PairsSlots set g h v a b (k + 1)
  slots_more a b k paired new n lt = elim (cases_lt n k) [
    | inl p ↦ slots_kept a b k paired n p
    | inr p ↦ let e : k ≡ n = omega (arith, lt, p) in subst (λ z. ArePaired set g v (word g (a + 1 + z)) (word h (b + 1 + z))) e new
  ]

  pub compared_kept : (a b : ℕ) → IsCompared set g h w a b → IsCompared set g h v a b
  compared_kept a b c = record { stands = c.stands; alike = c.alike; slots = slots_kept a b (object_at g a).refs c.slots }

  pub first_kept : (starts : List ℕ) (k : ℕ) → ComparesFirst set g h w starts k → ComparesFirst set g h v starts k
  first_kept starts k compared i lt = compared_kept (slice_index starts i) (slice_index starts i) (compared i lt)

  pub first_more : (starts : List ℕ) (k : ℕ) → ComparesFirst set g h w starts k → IsCompared set g h v (slice_index starts k) (slice_index starts k) → ComparesFirst set g h v starts (k + 1)
  first_more starts k compared new i lt = elim (cases_lt i k) [
    | inl p ↦ first_kept starts k compared i p
    | inr p ↦ let e : k ≡ i = omega (arith, lt, p) in subst (λ z. IsCompared set g h v (slice_index starts z) (slice_index starts z)) e new
  ]

  pub outside_kept : (k : ℕ) → ComparesOutside set g h w k → ComparesOutside set g h v k
  outside_kept k compared r lt out used in_use a here = compared_kept a a (compared r lt out used in_use a here)

  pub outside_more : (k : ℕ) → ComparesOutside set g h w k → ComparesRegion set g h v k → ComparesOutside set g h v (k + 1)
  outside_more k compared new r lt out used in_use = elim (cases_lt r k) [
    | inl p ↦ outside_kept k compared r p out used in_use
    | inr p ↦ let e : k ≡ r = omega (arith, lt, p) in subst (ComparesRegion set g h v) e new
  ]

  pub pairs_kept : (k : ℕ) → k ≤ length w.before.items → ComparesPairs set g h w k → ComparesPairs set g h v k
  pairs_kept k few compared i lt =
      let p : i < length w.before.items = omega (arith, lt, few) in
      subst (λ z. IsCompared set g h v z (slice_index v.after.items i)) (sym (grown.olds i p))
      (subst (λ z. IsCompared set g h v (slice_index w.before.items i) z) (sym (grown.news i p)) (compared_kept (slice_index w.before.items i) (slice_index w.after.items i) (compared i lt)))

  pub pairs_more : (k a b : ℕ) → k < length w.before.items → slice_index w.before.items k ≡ a → slice_index w.after.items k ≡ b
      → ComparesPairs set g h w k → IsCompared set g h v a b → ComparesPairs set g h v (k + 1)
  pairs_more k a b lt ea eb compared new i p = elim (cases_lt i k) [
    | inl q ↦ pairs_kept k (omega (arith, lt)) compared i q
    | inr q ↦
        let e : k ≡ i = omega (arith, p, q) in
        subst (λ z. IsCompared set g h v (slice_index v.before.items z) (slice_index v.after.items z)) e
        (subst (λ z. IsCompared set g h v z (slice_index v.after.items k)) (sym (grown.olds k lt ∙ ea))
        (subst (λ z. IsCompared set g h v a z) (sym (grown.news k lt ∙ eb)) new))
  ]
