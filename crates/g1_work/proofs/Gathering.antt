-- Workers put together, from the last to the first.
use Rattle.std.proofs.Common.{◌≡◌, ℕ, ◌+◌, ◌≤◌, max, List, [], ◌∷◌, ◌++◌, map, length, get_or, sym, refl, ap, ◌∙◌, subst, arith, length-append, append_assoc, inr, Result, Ok, Err, IfOk}
use Rattle.std.proofs.Common.{Contains, reverse}
use Rattle.std.specs.List.{flat_map}
use Rattle.std.proofs.lemmas.List.{map-append, reverse-append, append-nil}
use Rattle.std.proofs.lemmas.Grind.{flat_map-append}
use Rattle.std.proofs.lemmas.List.Sums.{sum_by_push}
use Rattle.std.proofs.lemmas.List.Elements.{All-push, All-contains}
use Rattle.g1_deal.specs.Dealer.{DealerView, SeatView, IsSeatOf}
use Rattle.g1_work.specs.Worker.{AreOf, IsFaultAmong, IsGatheredFrom, IsGatheredWith, AreGathered, IsGathered}
use Rattle.g1_work.specs.declared.worker.Worked.{Worked}
use Rattle.g1_work.specs.declared.worker.Gathered.{Gathered}
use Rattle.g1_words.specs.declared.fault.Fault.{Fault}

module _ {X : Type 0} where
  here_or : (xs ys : List X) (x : X) → get_or (xs ++ x ∷ ys) (length xs) x ≡ x
  here_or [] ys x = refl
  here_or (z ∷ zs) ys x = here_or zs ys x

  pub contains_mid : (xs ys : List X) (x : X) → Contains (xs ++ x ∷ ys) x
  contains_mid xs ys x = (length xs, (let l = length-append xs (x ∷ ys) in omega arith), here_or xs ys x)

module _ {S O : Type 0} where
  -- these are gathered, and the rest is still to come
  pub record IsPartway (dealer : DealerView) (all rest : List (Result (Worked S O) Fault)) (g : Gathered S O) : Type 0 where
    pub workers : List (Worked S O)
    pub parts : all ≡ rest ++ reverse (map Ok workers)
    pub gathered : AreGathered dealer workers g

  seat_in : (dealer : DealerView) (all xs ys : List (Result (Worked S O) Fault)) (d : Worked S O) → all ≡ xs ++ Ok d ∷ ys → AreOf dealer all → IsSeatOf dealer d.seat
  seat_in dealer all xs ys d e of = All-contains (λ (r : Result (Worked S O) Fault). IfOk r (λ w. IsSeatOf dealer w.seat)) all (Ok d) of
      (subst (λ (l : List (Result (Worked S O) Fault)). Contains l (Ok d)) (sym e) (contains_mid xs ys (Ok d)))

  pub begins : (dealer : DealerView) (all rest : List (Result (Worked S O) Fault)) (d : Worked S O) (g : Gathered S O) → all ≡ rest ++ Ok d ∷ [] →
      AreOf dealer all → IsGatheredFrom d g → IsPartway dealer all rest g
  begins dealer all rest d g e of f = record {
    workers = d ∷ [];
    parts = e;
    gathered = record {
      states = f.states;
      parts = f.parts;
      seat_of = subst (λ (z : SeatView). IsSeatOf dealer z) (sym f.seat) (seat_in dealer all rest [] d e of);
      shares = ap (λ (z : SeatView). z.shares) f.seat ∙ omega arith;
      draws = ap (λ (z : SeatView). z.draws) f.seat ∙ sym (append-nil d.seat.draws);
      floor = (λ k u lt. let floor = ap (λ (z : SeatView). z.floor) f.seat in let none : k ≡ 0 = omega arith in
          subst (λ (j : ℕ). (get_or (d ∷ []) j u).seat.floor ≤ g.seat.floor) (sym none) (omega arith));
    };
  }

  parts_on : (all rest next : List (Result (Worked S O) Fault)) (ws : List (Worked S O)) (r : Result (Worked S O) Fault) →
      all ≡ rest ++ reverse (map Ok ws) → rest ≡ next ++ r ∷ [] → all ≡ next ++ r ∷ reverse (map Ok ws)
  parts_on all rest next ws r e is = e ∙ (ap (λ (l : List (Result (Worked S O) Fault)). l ++ reverse (map Ok ws)) is ∙ append_assoc next (r ∷ []) (reverse (map Ok ws)))

  pub seat_next : (dealer : DealerView) (all rest next : List (Result (Worked S O) Fault)) (f : Gathered S O) (d : Worked S O) →
      IsPartway dealer all rest f → rest ≡ next ++ Ok d ∷ [] → AreOf dealer all → IsSeatOf dealer d.seat
  seat_next dealer all rest next f d p is of = seat_in dealer all next (reverse (map Ok p.workers)) d (parts_on all rest next p.workers (Ok d) p.parts is) of

  pub fault_next : (dealer : DealerView) (all rest next : List (Result (Worked S O) Fault)) (f : Gathered S O) (e : Fault) →
      IsPartway dealer all rest f → rest ≡ next ++ Err e ∷ [] → IsFaultAmong all e
  fault_next dealer all rest next f e p is = inr (subst (λ (l : List (Result (Worked S O) Fault)). Contains l (Err e))
      (sym (parts_on all rest next p.workers (Err e) p.parts is)) (contains_mid next (reverse (map Ok p.workers)) (Err e)))

  pub goes_on : (dealer : DealerView) (all rest next : List (Result (Worked S O) Fault)) (f g : Gathered S O) (d : Worked S O) →
      IsPartway dealer all rest f → rest ≡ next ++ Ok d ∷ [] → IsGatheredWith dealer f d g → IsPartway dealer all next g
  goes_on dealer all rest next f g d p is with_one = let ws = p.workers in let a = p.gathered in record {
    workers = ws ++ d ∷ [];
    parts = parts_on all rest next ws (Ok d) p.parts is ∙ ap (λ (l : List (Result (Worked S O) Fault)). next ++ l)
        (sym (ap (λ (l : List (Result (Worked S O) Fault)). reverse l) (map-append (λ (w : Worked S O). Ok w) ws (d ∷ [])) ∙ reverse-append (map Ok ws) (Ok d ∷ [])));
    gathered = record {
      states = with_one.states ∙ (ap (λ (l : List S). l ++ d.state ∷ []) a.states ∙ sym (map-append (λ (w : Worked S O). w.state) ws (d ∷ [])));
      parts = with_one.parts ∙ (ap (λ l. l ++ d.outs ∷ []) a.parts ∙ sym (map-append (λ (w : Worked S O). w.outs) ws (d ∷ [])));
      seat_of = with_one.seat_of;
      shares = with_one.shares ∙ (ap (λ (n : ℕ). n + d.seat.shares) a.shares ∙ sym (sum_by_push (λ (w : Worked S O). w.seat.shares) ws d));
      draws = with_one.draws ∙ (ap (λ (l : List ℕ). l ++ d.seat.draws) a.draws
          ∙ sym (flat_map-append (λ (w : Worked S O). w.seat.draws) ws (d ∷ []) ∙ ap (λ (l : List ℕ). flat_map (λ (w : Worked S O). w.seat.draws) ws ++ l) (append-nil d.seat.draws)));
      floor = (let top : g.seat.floor ≡ max f.seat.floor d.seat.floor = with_one.floor in
          All-push (λ (w : Worked S O). w.seat.floor ≤ g.seat.floor) ws d (λ k u lt. let h = a.floor k u lt in omega arith) (omega arith));
    };
  }

  pub ends : (dealer : DealerView) (all rest : List (Result (Worked S O) Fault)) (g : Gathered S O) → IsPartway dealer all rest g → rest ≡ [] → IsGathered dealer all g
  ends dealer all rest g p none = (p.workers, p.parts ∙ ap (λ (l : List (Result (Worked S O) Fault)). l ++ reverse (map Ok p.workers)) none, p.gathered)
