-- Workers made from a list of states, from its end.
use Rattle.std.proofs.Common.{◌≡◌, ◌+◌, ◌-◌, ◌<◌, List, [], ◌∷◌, ◌++◌, map, length, sym, refl, ap, ◌∙◌, subst, arith, length-append, append_assoc, All, reverse}
use Rattle.std.specs.List.{sum_by}
use Rattle.std.proofs.lemmas.List.{map-append, reverse-append, append-nil}
use Rattle.std.proofs.lemmas.List.Sums.{sum_by_push}
use Rattle.std.proofs.lemmas.List.Elements.{All-push, All-nil}
use Rattle.g1_deal.specs.Dealer.{DealerView, SeatView, IsSeatOf, first_seat}
use Rattle.g1_work.specs.Worker.{IsHired}
use Rattle.g1_work.specs.declared.worker.Worker.{Worker}

module _ {S : Type 0} where
  -- workers so far for the states that are not in the rest
  pub record IsHiring (dealer : DealerView) (all rest : List S) (seat : SeatView) (ws : List (Worker S)) : Type 0 where
    pub of_states : map (λ w. w.state) ws ++ reverse rest ≡ reverse all
    pub seat_of : IsSeatOf dealer seat
    pub none : seat.draws ≡ []
    pub kept : seat.shares + length ws ≡ 64
    pub shares : sum_by (λ w. w.seat.shares) ws ≡ length ws
    pub count : length ws + length rest ≡ length all
    pub seats : All (λ w. IsSeatOf dealer w.seat × (w.seat.draws ≡ [])) ws

  pub starts : (dealer : DealerView) (all : List S) (seat : SeatView) (ws : List (Worker S)) → ws ≡ [] → seat ≡ first_seat dealer → IsHiring dealer all all seat ws
  starts dealer all seat ws e first = subst (λ (t : SeatView × List (Worker S)). IsHiring dealer all all t.0 t.1) (λ i. (sym first i, sym e i))
      record { of_states = refl; seat_of = (refl, refl); none = refl; kept = omega arith; shares = refl; count = omega arith; seats = All-nil (λ w. IsSeatOf dealer w.seat × (w.seat.draws ≡ [])) }

  moved : (all rest next : List S) (ws : List (Worker S)) (w : Worker S) → map (λ w. w.state) ws ++ reverse rest ≡ reverse all →
      rest ≡ next ++ w.state ∷ [] → map (λ w. w.state) (ws ++ w ∷ []) ++ reverse next ≡ reverse all
  moved all rest next ws w e is =
      let turned : reverse rest ≡ w.state ∷ reverse next = ap (λ (l : List S). reverse l) is ∙ reverse-append next (w.state ∷ []) in
      ap (λ (l : List S). l ++ reverse next) (map-append (λ (v : Worker S). v.state) ws (w ∷ [])) ∙ (append_assoc (map (λ (v : Worker S). v.state) ws) (w.state ∷ []) (reverse next)
      ∙ (ap (λ (l : List S). map (λ (v : Worker S). v.state) ws ++ l) (sym turned) ∙ e))

  pub goes_on : (dealer : DealerView) (all rest next : List S) (seat left : SeatView) (ws vs : List (Worker S)) (w : Worker S) →
      IsHiring dealer all rest seat ws → rest ≡ next ++ w.state ∷ [] → 1 < seat.shares
      → left ≡ record seat { shares = seat.shares - 1 } → IsSeatOf dealer w.seat → w.seat.shares ≡ 1 → w.seat.draws ≡ [] → vs ≡ ws ++ w ∷ [] → IsHiring dealer all next left vs
  goes_on dealer all rest next seat left ws vs w h is two l of one nothing more = subst (λ (z : SeatView × List (Worker S)). IsHiring dealer all next z.0 z.1) (λ i. (sym l i, sym more i)) record {
    of_states = moved all rest next ws w h.of_states is;
    seat_of = h.seat_of;
    none = h.none;
    kept = (let n = length-append ws (w ∷ []) in let k = h.kept in omega arith);
    shares = (let n = length-append ws (w ∷ []) in let s = sum_by_push (λ (v : Worker S). v.seat.shares) ws w in let k = h.shares in omega arith);
    count = (let n = length-append ws (w ∷ []) in let m = ap (λ (x : List S). length x) is ∙ length-append next (w.state ∷ []) in let k = h.count in omega arith);
    seats = All-push (λ (v : Worker S). IsSeatOf dealer v.seat × (v.seat.draws ≡ [])) ws w h.seats (of, nothing);
  }

  pub ends : (dealer : DealerView) (all rest : List S) (seat : SeatView) (ws vs : List (Worker S)) (w : Worker S) → IsHiring dealer all rest seat ws →
      rest ≡ w.state ∷ [] → w.seat ≡ seat → vs ≡ ws ++ w ∷ [] → IsHired dealer all vs
  ends dealer all rest seat ws vs w h is same more = subst (λ (l : List (Worker S)). IsHired dealer all l) (sym more) record {
    of_states = sym (append-nil (map (λ (v : Worker S). v.state) (ws ++ w ∷ []))) ∙ moved all rest [] ws w h.of_states is;
    shares = (let s = sum_by_push (λ (v : Worker S). v.seat.shares) ws w in let k = h.kept in let k' = h.shares in let e = ap (λ (z : SeatView). z.shares) same in omega arith);
    seats = All-push (λ (v : Worker S). IsSeatOf dealer v.seat × (v.seat.draws ≡ [])) ws w h.seats (subst (λ (z : SeatView). IsSeatOf dealer z × (z.draws ≡ [])) (sym same) (h.seat_of, h.none));
  }
