-- All workers' parts are the whole.
use Rattle.std.proofs.Common.{◌≡◌, ℕ, zero, suc, ◌<◌, ◌≤◌, List, [], ◌∷◌, ◌++◌, map, length, get_or, sym, refl, ap, ◌∙◌, subst, arith, Result, Ok, Err, IfOk, IfErr, ⊎_elim, inl, All}
use Rattle.std.proofs.Common.{reverse, IsPermutation}
use Rattle.std.proofs.Common.{Global}
use Rattle.std.specs.declared.collections.VecDeque.{VecDeque}
use Rattle.std.specs.List.{flat_map, sum_by, enumerate_from}
use Rattle.std.proofs.lemmas.List.{map-append, reverse-append, reverse-reverse, length-map}
use Rattle.std.proofs.lemmas.List.Concat.{flat_map-cons}
use Rattle.std.proofs.lemmas.List.Sums.{sum_by-cons}
use Rattle.std.proofs.lemmas.List.Elements.{All-nil, All-cons}
use Rattle.std.proofs.lemmas.List.Sorted.{sum_by-IsPermutation, IsPermutation-reverse, All-permutation}
use Rattle.std.proofs.lemmas.Result.{IfOk-weaker}
use Rattle.g1_deal.specs.Dealer.{DealerView, IsSeatOf, IsEachBelow}
use Rattle.g1_work.specs.Each.{RisesBelow, chunks_of, joined, EachRan, IsEachRun, IsFaultOf}
use Rattle.g1_work.specs.Worker.{IsDone, AreOf, IsFaultAmong, IsHired, AreBack, IsGathered}
use Rattle.g1_work.specs.declared.worker.Worker.{Worker}
use Rattle.g1_work.specs.declared.worker.Worked.{Worked}
use Rattle.g1_work.specs.declared.worker.Gathered.{Gathered}
use Rattle.g1_words.specs.declared.fault.Fault.{Fault}

-- what the chunks of one worker gave
abbrev Part : Type 0 → Type 0
Part O = VecDeque (ℕ × O) Global

module _ {X Y : Type 0} (Q : X → Y → Type 0) where
  abbrev Zipped : List X → List Y → Type 0
  Zipped [] [] = Unit {0}
  Zipped [] (y ∷ ys) = ⊥
  Zipped (x ∷ xs) [] = ⊥
  Zipped (x ∷ xs) (y ∷ ys) = Q x y × Zipped xs ys

  zipped_from : (xs : List X) (ys : List Y) → length ys ≡ length xs → ((i : ℕ) (x : X) (y : Y) → i < length xs → Q (get_or xs i x) (get_or ys i y)) → Zipped xs ys
  zipped_from [] [] e h = tt
  zipped_from [] (y ∷ ys) e h = absurd (omega arith)
  zipped_from (x ∷ xs) [] e h = absurd (omega arith)
  zipped_from (x ∷ xs) (y ∷ ys) e h = (h 0 x y (omega arith), zipped_from xs ys (omega arith) (λ i a b lt. h (suc i) a b (omega arith)))

  zipped_snoc : (xs : List X) (ys : List Y) (x : X) (y : Y) → Zipped xs ys → Q x y → Zipped (xs ++ x ∷ []) (ys ++ y ∷ [])
  zipped_snoc [] [] x y z q = (q, tt)
  zipped_snoc [] (b ∷ bs) x y z q = absurd z
  zipped_snoc (a ∷ as_) [] x y z q = absurd z
  zipped_snoc (a ∷ as_) (b ∷ bs) x y z q = (z.0, zipped_snoc as_ bs x y z.1 q)

  zipped_reverse : (xs : List X) (ys : List Y) → Zipped xs ys → Zipped (reverse xs) (reverse ys)
  zipped_reverse [] [] z = tt
  zipped_reverse [] (b ∷ bs) z = absurd z
  zipped_reverse (a ∷ as_) [] z = absurd z
  zipped_reverse (a ∷ as_) (b ∷ bs) z = let e = reverse-append (a ∷ []) as_ in let f = reverse-append (b ∷ []) bs in
      subst (λ (t : List X × List Y). Zipped t.0 t.1) (λ i. (sym e i, sym f i)) (zipped_snoc (reverse as_) (reverse bs) a b (zipped_reverse as_ bs z.1) z.0)

rev_map : {X Y : Type 0} (f : X → Y) (xs : List X) → map f (reverse xs) ≡ reverse (map f xs)
rev_map f [] = refl
rev_map f (x ∷ xs) = ap (λ l. map f l) (reverse-append (x ∷ []) xs) ∙ (map-append f (reverse xs) (x ∷ []) ∙ (ap (λ l. l ++ f x ∷ []) (rev_map f xs) ∙ sym (reverse-append (f x ∷ []) (map f xs))))

at_map : {X Y : Type 0} (f : X → Y) (xs : List X) (k : ℕ) (d : X) → k < length xs → get_or (map f xs) k (f d) ≡ f (get_or xs k d)
at_map f [] k d lt = absurd (omega arith)
at_map f (x ∷ xs) zero d lt = refl
at_map f (x ∷ xs) (suc k) d lt = at_map f xs k d (omega arith)

-- what holds of each state holds of each worker's
pub ready_each : {S : Type 0} (P : S → Type 0) (states : List S) (ws : List (Worker S)) → map (λ w. w.state) ws ≡ reverse states → All P states →
    (k : ℕ) (d : Worker S) → k < length ws → P (get_or ws k d).state
ready_each {S} P states ws e h k d lt = let a = All-permutation P states (reverse states) (IsPermutation-reverse states) h in let b = subst (λ (l : List S). All P l) (sym e) a in
    subst (λ (s : S). P s) (at_map (λ (w : Worker S). w.state) ws k d lt) (b k d.state (let n = length-map ws (λ (w : Worker S). w.state) in omega arith))

pub are_of : {S O : Type 0} (runs : S → ℕ → S → O → Type 0) (may_fail : ℕ → Fault →
    Type 0) (dealer : DealerView) (ws : List (Worker S)) (rs : List (Result (Worked S O) Fault)) → AreBack runs may_fail dealer ws rs → AreOf dealer rs
are_of runs may_fail dealer [] rs b k d lt = let n = b.len in absurd (omega arith)
are_of {S} {O} runs may_fail dealer (w ∷ ws) rs b k d lt = let n = b.len in
    IfOk-weaker (get_or rs k d) (λ (v : Worked S O). IsDone runs dealer (get_or (w ∷ ws) k w) v) (λ (v : Worked S O). IsSeatOf dealer v.seat) (λ v h. h.seat) (b.ok k d w (omega arith))

-- a fault among what came back is one of the task's
pub fault_of : {S O : Type 0} (runs : S → ℕ → S → O → Type 0) (may_fail : ℕ → Fault →
    Type 0) (dealer : DealerView) (ws : List (Worker S)) (rs : List (Result (Worked S O) Fault)) → AreBack runs may_fail dealer ws rs → (e : Fault) →
    IsFaultAmong rs e → IsFaultOf may_fail dealer.chunks e
fault_of {S} {O} runs may_fail dealer ws rs b e h = ⊎_elim (λ m. inl m)
    (λ t. let n = b.len in let lt = t.1 in subst (λ (r : Result (Worked S O) Fault). IfErr r (IsFaultOf may_fail dealer.chunks)) t.2 (b.err t.0 (Err e) (omega arith))) h

joined_is : {X Y : Type 0} (f : X → List Y) (xs : List X) → joined (map f xs) ≡ flat_map f xs
joined_is f [] = refl
joined_is f (x ∷ xs) = ap (λ l. f x ++ l) (joined_is f xs) ∙ sym (flat_map-cons f x xs)

length_chunks : {O : Type 0} (xs : List (ℕ × O)) → length (chunks_of xs) ≡ length xs
length_chunks xs = length-map xs (λ q. q.0)

module _ {S O : Type 0} (runs : S → ℕ → S → O → Type 0) (dealer : DealerView) where
  abbrev AllDone : List (Worker S) → List (Worked S O) → Type 0
  AllDone ws ds = Zipped (λ w d. IsDone runs dealer w d) ws ds

  done_from : (ws : List (Worker S)) (ds : List (Worked S O)) → Zipped (λ w (r : Result (Worked S O) Fault). IfOk r (IsDone runs dealer w)) ws (map Ok ds) → AllDone ws ds
  done_from [] [] z = tt
  done_from [] (d ∷ ds) z = absurd z
  done_from (w ∷ ws) [] z = absurd z
  done_from (w ∷ ws) (d ∷ ds) z = (z.0, done_from ws ds z.1)

  each_ran : (ws : List (Worker S)) (ds : List (Worked S O)) → AllDone ws ds → EachRan runs dealer.chunks (map (λ w. w.state) ws) (map (λ d. d.outs.items) ds) (map (λ d. d.state) ds)
  each_ran [] [] z = tt
  each_ran [] (d ∷ ds) z = absurd z
  each_ran (w ∷ ws) [] z = absurd z
  each_ran (w ∷ ws) (d ∷ ds) z = (z.0.ran, z.0.rises, each_ran ws ds z.1)

  shares_same : (ws : List (Worker S)) (ds : List (Worked S O)) → AllDone ws ds → sum_by (λ d. d.seat.shares) ds ≡ sum_by (λ w. w.seat.shares) ws
  shares_same [] [] z = refl
  shares_same [] (d ∷ ds) z = absurd z
  shares_same (w ∷ ws) [] z = absurd z
  shares_same (w ∷ ws) (d ∷ ds) z = let r = shares_same ws ds z.1 in let a = sum_by-cons (λ (d : Worked S O). d.seat.shares) d ds in let b = sum_by-cons (λ (w : Worker S). w.seat.shares) w ws in
      let e = z.0.shares in omega arith

  draws_are : (ws : List (Worker S)) (ds : List (Worked S O)) → AllDone ws ds → flat_map (λ d. d.seat.draws) ds ≡ chunks_of (flat_map (λ d. d.outs.items) ds)
  draws_are [] [] z = refl
  draws_are [] (d ∷ ds) z = absurd z
  draws_are (w ∷ ws) [] z = absurd z
  draws_are (w ∷ ws) (d ∷ ds) z = let outs : Worked S O → List (ℕ × O) = λ d. d.outs.items in
      flat_map-cons (λ (d : Worked S O). d.seat.draws) d ds ∙ (ap (λ (l : List ℕ). l ++ flat_map (λ (d : Worked S O). d.seat.draws) ds) z.0.draws
      ∙ (ap (λ (l : List ℕ). chunks_of d.outs.items ++ l) (draws_are ws ds z.1)
      ∙ (sym (map-append (λ (q : ℕ × O). q.0) d.outs.items (flat_map outs ds)) ∙ ap (λ (l : List (ℕ × O)). chunks_of l) (sym (flat_map-cons outs d ds)))))

  reaches : (ws : List (Worker S)) (ds : List (Worked S O)) (floor : ℕ) → AllDone ws ds → sum_by (λ d. d.seat.shares) ds ≡ 64 → All (λ d. d.seat.floor ≤ floor) ds → dealer.chunks ≤ floor
  reaches ws [] floor z e h = absurd (omega arith)
  reaches [] (d ∷ ds) floor z e h = absurd z
  reaches (w ∷ ws) (d ∷ ds) floor z e h = let a : d.seat.floor ≤ floor = h 0 d (omega arith) in let b = z.0.floor in omega arith

  abbrev Rises : Part O → Type 0
  Rises p = RisesBelow dealer.chunks (chunks_of p.items)

  rise_each : (ws : List (Worker S)) (ds : List (Worked S O)) → AllDone ws ds → All Rises (map (λ d. d.outs) ds)
  rise_each [] [] z = All-nil Rises
  rise_each [] (d ∷ ds) z = absurd z
  rise_each (w ∷ ws) [] z = absurd z
  rise_each (w ∷ ws) (d ∷ ds) z = All-cons Rises d.outs (map (λ (d : Worked S O). d.outs) ds) z.0.rises (rise_each ws ds z.1)

  same_count : (ws : List (Worker S)) (ds : List (Worked S O)) → AllDone ws ds → length ds ≡ length ws
  same_count [] [] z = refl
  same_count [] (d ∷ ds) z = absurd z
  same_count (w ∷ ws) [] z = absurd z
  same_count (w ∷ ws) (d ∷ ds) z = ap (λ (n : ℕ). suc n) (same_count ws ds z.1)

  flat_map_map : (ds : List (Worked S O)) → flat_map (λ p. p.items) (map (λ (d : Worked S O). d.outs) ds) ≡ flat_map (λ (d : Worked S O). d.outs.items) ds
  flat_map_map [] = refl
  flat_map_map (d ∷ ds) = flat_map-cons (λ p. p.items) d.outs (map (λ (d : Worked S O). d.outs) ds)
      ∙ (ap (λ l. d.outs.items ++ l) (flat_map_map ds) ∙ sym (flat_map-cons (λ (d : Worked S O). d.outs.items) d ds))

  module _ (may_fail : ℕ → Fault → Type 0) (states : List S) (ws : List (Worker S)) (rs : List (Result (Worked S O) Fault)) (g : Gathered S O)
      (hired : IsHired dealer states ws) (back : AreBack runs may_fail dealer ws rs) (got : IsGathered dealer rs g) where
    all_done : AllDone (reverse ws) got.0
    all_done = let z = zipped_reverse (λ w (r : Result (Worked S O) Fault). IfOk r (IsDone runs dealer w)) ws rs
        (zipped_from (λ w (r : Result (Worked S O) Fault). IfOk r (IsDone runs dealer w)) ws rs back.len (λ i x y lt. back.ok i y x lt)) in
        let e : reverse rs ≡ map Ok got.0 = ap (λ (l : List (Result (Worked S O) Fault)). reverse l) got.1 ∙ reverse-reverse (map Ok got.0) in
        done_from (reverse ws) got.0 (subst (λ (l : List (Result (Worked S O) Fault)). Zipped (λ w (r : Result (Worked S O) Fault). IfOk r (IsDone runs dealer w)) (reverse ws) l) e z)

    all_shares : sum_by (λ d. d.seat.shares) got.0 ≡ 64
    all_shares = shares_same (reverse ws) got.0 all_done ∙ (sum_by-IsPermutation (λ (w : Worker S). w.seat.shares) ws (reverse ws) (IsPermutation-reverse ws) ∙ hired.shares)

    -- the seat has all shares
    pub has_all : g.seat.shares ≡ 64
    has_all = got.2.shares ∙ all_shares

    outs_are : flat_map (λ p. p.items) g.parts.items ≡ flat_map (λ (d : Worked S O). d.outs.items) got.0
    outs_are = ap (λ l. flat_map (λ p. p.items) l) got.2.parts ∙ flat_map_map got.0

    drawn_are : g.seat.draws ≡ chunks_of (flat_map (λ p. p.items) g.parts.items)
    drawn_are = got.2.draws ∙ (draws_are (reverse ws) got.0 all_done ∙ ap (λ (l : List (ℕ × O)). chunks_of l) (sym outs_are))

    -- the seat of all shares has drawn each chunk once
    pub each_below : (m : ℕ) → m ≤ dealer.chunks → g.seat.floor ≤ m → IsEachBelow m g.seat.draws → IsEachBelow dealer.chunks (chunks_of (flat_map (λ p. p.items) g.parts.items))
    each_below m few known draws =
        let r = reaches (reverse ws) got.0 g.seat.floor all_done all_shares got.2.floor in
        let all : m ≡ dealer.chunks = omega arith in
        subst (λ (t : ℕ × List ℕ). IsEachBelow t.0 t.1) (λ i. (all i, drawn_are i)) draws

    pub all_rise : All (λ p. RisesBelow dealer.chunks (chunks_of p.items)) g.parts.items
    all_rise = subst (λ l. All (λ p. RisesBelow dealer.chunks (chunks_of p.items)) l) (sym got.2.parts) (rise_each (reverse ws) got.0 all_done)

    pub few_parts : length states ≤ 64 → length g.parts.items ≤ 64
    few_parts few =
        let a = ap (λ l. length l) got.2.parts ∙ length-map got.0 (λ (d : Worked S O). d.outs) in
        let b = same_count (reverse ws) got.0 all_done in
        let c = length-map (reverse ws) (λ (w : Worker S). w.state) in
        let e = ap (λ (l : List S). length l) (rev_map (λ (w : Worker S). w.state) ws ∙ (ap (λ (l : List S). reverse l) hired.of_states ∙ reverse-reverse states)) in omega (arith, few, a, b, c, e)

    pub each_run : (os : List O) → IsPermutation (flat_map (λ p. p.items) g.parts.items) (enumerate_from 0 os) × (length os ≡ dealer.chunks) → IsEachRun runs dealer.chunks states g.states.items os
    each_run os placed =
        let ds = got.0 in
        let before : map (λ (w : Worker S). w.state) (reverse ws) ≡ states = rev_map (λ (w : Worker S). w.state) ws
        ∙ (ap (λ (l : List S). reverse l) hired.of_states ∙ reverse-reverse states) in record {
          parts = map (λ (d : Worked S O). d.outs.items) ds;
          workers = subst (λ (t : List S × List S). EachRan runs dealer.chunks t.0 (map (λ (d : Worked S O). d.outs.items) ds) t.1)
              (λ i. (before i, sym got.2.states i)) (each_ran (reverse ws) ds all_done);
          once = subst (λ (l : List (ℕ × O)). IsPermutation l (enumerate_from 0 os)) (outs_are ∙ sym (joined_is (λ (d : Worked S O). d.outs.items) ds)) placed.0;
          count = placed.1;
        }
