-- A worker between its chunks.
use Rattle.std.proofs.Common.{◌≡◌, ◌≢◌, ℕ, ◌+◌, ◌<◌, ◌≤◌, min, true, List, [], ◌∷◌, ◌++◌, sym, refl, ap, ◌∙◌, subst, arith}
use mathlib.Core.List.{map-append}
use Rattle.g1_deal.specs.Dealer.{DealerView, SeatView, IsSeatOf}
use Rattle.g1_work.specs.Each.{RisesBelow, Ran, chunks_of}
use Rattle.g1_work.specs.Worker.{IsFresh, IsDone}
use Rattle.g1_work.specs.declared.worker.Worker.{Worker}
use Rattle.g1_work.specs.declared.worker.Worked.{Worked}

-- the runs so far, and what may still be run
pub record IsUnderway {S O : Type 0} (runs : S → ℕ → S → O → Type 0) (ready : S → ℕ → Type 0) (dealer : DealerView) (w : Worker S) (seat : SeatView) (s : S) (xs : List (ℕ × O)) : Type 0 where
  pub seat_of : IsSeatOf dealer seat
  pub shares : seat.shares ≡ w.seat.shares
  pub draws : seat.draws ≡ chunks_of xs
  pub rises : RisesBelow (min seat.floor dealer.chunks) (chunks_of xs)
  pub ran : Ran runs w.state xs s
  pub may_run : (chunk : ℕ) → seat.floor ≤ chunk → chunk < dealer.chunks → ready s chunk

pub RisesBelow-snoc : (xs : List ℕ) (f n : ℕ) → RisesBelow f xs → f ≤ n → RisesBelow (n + 1) (xs ++ n ∷ [])
RisesBelow-snoc [] f n r le = omega arith
RisesBelow-snoc (x ∷ []) f n r le = (omega arith, omega arith)
RisesBelow-snoc (x ∷ y ∷ ys) f n r le = (r.0, RisesBelow-snoc (y ∷ ys) f n r.1 le)

pub RisesBelow-more : (xs : List ℕ) (f n : ℕ) → RisesBelow f xs → f ≤ n → RisesBelow n xs
RisesBelow-more [] f n r le = tt
RisesBelow-more (x ∷ []) f n r le = omega arith
RisesBelow-more (x ∷ y ∷ ys) f n r le = (r.0, RisesBelow-more (y ∷ ys) f n r.1 le)

module _ {S O : Type 0} (runs : S → ℕ → S → O → Type 0) where
  pub Ran-snoc : (s : S) (xs : List (ℕ × O)) (m : S) (c : ℕ) (t : S) (o : O) → Ran runs s xs m → runs m c t o → Ran runs s (xs ++ (c, o) ∷ []) t
  Ran-snoc s [] m c t o r h = (t, subst (λ (z : S). runs z c t o) (sym r) h, refl)
  Ran-snoc s (x ∷ xs) m c t o r h = (r.0, r.1, Ran-snoc r.0 xs m c t o r.2 h)

  module _ (ready : S → ℕ → Type 0) (dealer : DealerView) (w : Worker S) where
    pub starts : (xs : List (ℕ × O)) → xs ≡ [] → IsFresh ready dealer w → IsUnderway runs ready dealer w w.seat w.state xs
    starts xs e f = subst (λ (l : List (ℕ × O)). IsUnderway runs ready dealer w w.seat w.state l) (sym e)
        record { seat_of = f.seat; shares = refl; draws = f.none; rises = tt; ran = refl; may_run = (λ c _ lt. f.may_run c lt) }

    pub goes_on : (seat : SeatView) (s : S) (xs ys : List (ℕ × O)) (n : ℕ) (next : SeatView) (t : S) (o : O) → IsUnderway runs ready dealer w seat s xs → n < dealer.chunks → seat.floor ≤ n
        → next ≡ record seat { draws = seat.draws ++ n ∷ []; floor = n + 1; steps = seat.steps + 1 } → runs s n t o →
        ((other : ℕ) → other ≢ n → ready s other → ready t other) → ys ≡ xs ++ (n, o) ∷ [] → IsUnderway runs ready dealer w next t ys
    goes_on seat s xs ys n next t o u lt le is ran keeps more =
        let all : chunks_of (xs ++ (n, o) ∷ []) ≡ chunks_of xs ++ n ∷ [] = map-append (λ (x : ℕ × O). x.0) xs ((n, o) ∷ []) in
        subst (λ (z : SeatView × List (ℕ × O)). IsUnderway runs ready dealer w z.0 t z.1) (λ i. (sym is i, sym more i))
        record {
          seat_of = u.seat_of;
          shares = u.shares;
          draws = ap (λ (l : List ℕ). l ++ n ∷ []) u.draws ∙ sym all;
          rises = (let end : min (n + 1) dealer.chunks ≡ n + 1 = omega arith in let low : min seat.floor dealer.chunks ≤ n = omega arith in
              subst (λ (z : ℕ × List ℕ). RisesBelow z.0 z.1) (λ i. (sym end i, sym all i)) (RisesBelow-snoc (chunks_of xs) (min seat.floor dealer.chunks) n u.rises low));
          ran = Ran-snoc w.state xs s n t o u.ran ran;
          may_run = (λ c past below. keeps c (λ e. omega arith) (u.may_run c (omega arith) below));
        }

    pub ends : (seat : SeatView) (s : S) (v : Worked S O) (next : SeatView) → IsUnderway runs ready dealer w seat s v.outs.items →
        next ≡ record seat { floor = dealer.chunks; steps = next.steps; had_none = true } → v.seat ≡ next → v.state ≡ s → IsDone runs dealer w v
    ends seat s v next u is here same =
        let at : v.seat ≡ record seat { floor = dealer.chunks; steps = next.steps; had_none = true } = here ∙ is in record {
          seat = (ap (λ (z : SeatView). z.dealer) at ∙ u.seat_of.0, ap (λ (z : SeatView). z.chunks) at ∙ u.seat_of.1);
          shares = ap (λ (z : SeatView). z.shares) at ∙ u.shares;
          draws = ap (λ (z : SeatView). z.draws) at ∙ u.draws;
          floor = ap (λ (z : SeatView). z.floor) at;
          rises = RisesBelow-more (chunks_of v.outs.items) (min seat.floor dealer.chunks) dealer.chunks u.rises (omega arith);
          ran = subst (λ (z : S). Ran runs w.state v.outs.items z) (sym same) u.ran;
        }
