-- Workers one after another.
use Rattle.std.proofs.Common.{◌≡◌, ℕ, zero, suc, ◌+◌, ◌<◌, List, [], ◌∷◌, ◌++◌, length, get_or, sym, refl, ap, ◌∙◌, subst, arith, length-append, Result, IfOk, IfErr, lt_of_not-le}
use native.Mathlib.Decide.{dec_le}
use Rattle.g1_deal.specs.Dealer.{DealerView}
use Rattle.g1_work.specs.Each.{IsFaultOf}
use Rattle.g1_work.specs.Worker.{IsDone, AreBack}
use Rattle.g1_work.specs.declared.worker.Worker.{Worker}
use Rattle.g1_work.specs.declared.worker.Worked.{Worked}
use Rattle.g1_words.specs.declared.fault.Fault.{Fault}

before : {X : Type 0} (xs : List X) (x : X) (i : ℕ) (d : X) → i < length xs → get_or (xs ++ x ∷ []) i d ≡ get_or xs i d
before [] x i d lt = absurd (omega arith)
before (y ∷ ys) x zero d lt = refl
before (y ∷ ys) x (suc i) d lt = before ys x i d (omega arith)

last : {X : Type 0} (xs : List X) (x : X) (i : ℕ) (d : X) → i ≡ length xs → get_or (xs ++ x ∷ []) i d ≡ x
last [] x zero d e = refl
last [] x (suc i) d e = absurd (omega arith)
last (y ∷ ys) x zero d e = absurd (omega arith)
last (y ∷ ys) x (suc i) d e = last ys x i d (omega arith)

module _ {S O : Type 0} (runs : S → ℕ → S → O → Type 0) (may_fail : ℕ → Fault → Type 0) (dealer : DealerView) where
  pub back_none : AreBack runs may_fail dealer [] []
  back_none = record { len = refl; ok = λ i d e lt. absurd (omega (arith, lt)); err = λ i d lt. absurd (omega (arith, lt)) }

  pub back_more : (ws : List (Worker S)) (rs : List (Result (Worked S O) Fault)) (w : Worker S) (r : Result (Worked S O) Fault) →
      AreBack runs may_fail dealer ws rs → IfOk r (IsDone runs dealer w) → IfErr r (IsFaultOf may_fail dealer.chunks)
      → AreBack runs may_fail dealer (ws ++ w ∷ []) (rs ++ r ∷ [])
  back_more ws rs w r b one bad =
      let long : length (ws ++ w ∷ []) ≡ length ws + 1 = length-append ws (w ∷ []) in
      let same : length rs ≡ length ws = b.len in record {
        len = length-append rs (r ∷ []) ∙ ap (λ n. n + 1) b.len ∙ sym long;
        ok = λ i d e lt. elim (dec_le (length ws) i) [
          | yes le ↦
              let at : i ≡ length ws = omega (arith, lt, long, le) in
              subst (λ (q : Result (Worked S O) Fault × Worker S). IfOk q.0 (IsDone runs dealer q.1)) (λ k. (sym (last rs r i d (at ∙ sym same)) k, sym (last ws w i e at) k)) one
          | no gt ↦
              let low : i < length ws = lt_of_not-le gt in
              subst (λ (q : Result (Worked S O) Fault × Worker S). IfOk q.0 (IsDone runs dealer q.1))
              (λ k. (sym (before rs r i d (omega (arith, low, same))) k, sym (before ws w i e low) k)) (b.ok i d e low)
        ];
        err = λ i d lt. elim (dec_le (length ws) i) [
          | yes le ↦
              let at : i ≡ length ws = omega (arith, lt, long, le) in
              subst (λ (q : Result (Worked S O) Fault). IfErr q (IsFaultOf may_fail dealer.chunks)) (sym (last rs r i d (at ∙ sym same))) bad
          | no gt ↦
              let low : i < length ws = lt_of_not-le gt in
              subst (λ (q : Result (Worked S O) Fault). IfErr q (IsFaultOf may_fail dealer.chunks)) (sym (before rs r i d (omega (arith, low, same)))) (b.err i d low)
        ];
      }
