-- A worker before and after its chunks.
use Rattle.std.specs.Prelude.{IfOk, Ok, Err, Result, Contains, All, sum_by, max, reverse, IfErr, slice_index_or, ◌++◌, ◌≡◌, ℕ, ◌+◌, ◌<◌, ◌≤◌, ◌⊎◌, List, [], ◌∷◌, map, length}
use Rattle.std.specs.List.{flat_map}
use Rattle.g1_deal.specs.Dealer.{DealerView, IsSeatOf}
use Rattle.g1_work.specs.Team.{most_workers}
use Rattle.g1_work.specs.Each.{RisesBelow, Ran, chunks_of, IsFaultOf}
use Rattle.g1_work.specs.declared.worker.Worker.{Worker}
use Rattle.g1_work.specs.declared.worker.Worked.{Worked}
use Rattle.g1_work.specs.declared.worker.Gathered.{Gathered}
use Rattle.g1_words.specs.declared.fault.Fault.{Fault}
use Rattle.g1_words.specs.declared.fault.Fault.TheVariants.{Memory}

-- the worker's seat is of this dealer and drew nothing, and its state is ready for each chunk that may come
pub record IsFresh {S : Type 0} (ready : S → ℕ → Type 0) (dealer : DealerView) (w : Worker S) : Type 0 where
  pub seat : IsSeatOf dealer w.seat
  pub none : w.seat.draws ≡ []
  pub may_run : (chunk : ℕ) → chunk < dealer.chunks → ready w.state chunk

-- the worker ran the task on the chunks that its seat drew, which rise, and there is no more to draw
pub record IsDone {S O : Type 0} (runs : S → ℕ → S → O → Type 0) (dealer : DealerView) (w : Worker S) (d : Worked S O) : Type 0 where
  pub seat : IsSeatOf dealer d.seat
  pub shares : d.seat.shares ≡ w.seat.shares
  pub draws : d.seat.draws ≡ chunks_of d.outs.items
  pub floor : d.seat.floor ≡ dealer.chunks
  pub rises : RisesBelow dealer.chunks (chunks_of d.outs.items)
  pub ran : Ran runs w.state d.outs.items d.state

module _ {S O : Type 0} where
  -- each worker that came back has a seat of this dealer
  abbrev pub AreOf : DealerView → List (Result (Worked S O) Fault) → Type 0
  AreOf dealer rs = All (λ r. IfOk r (λ d. IsSeatOf dealer d.seat)) rs

  -- want of memory, or the fault of one of these
  abbrev pub IsFaultAmong : List (Result (Worked S O) Fault) → Fault → Type 0
  IsFaultAmong rs e = (e ≡ Memory) ⊎ Contains rs (Err e)

  -- what the first worker brought
  pub record IsGatheredFrom (d : Worked S O) (g : Gathered S O) : Type 0 where
    pub seat : g.seat ≡ d.seat
    pub states : g.states.items ≡ d.state ∷ []
    pub parts : g.parts.items ≡ d.outs ∷ []

  -- what one more worker brought
  pub record IsGatheredWith (dealer : DealerView) (f : Gathered S O) (d : Worked S O) (g : Gathered S O) : Type 0 where
    pub seat_of : IsSeatOf dealer g.seat
    pub shares : g.seat.shares ≡ f.seat.shares + d.seat.shares
    pub draws : g.seat.draws ≡ f.seat.draws ++ d.seat.draws
    pub floor : g.seat.floor ≡ max f.seat.floor d.seat.floor
    pub states : g.states.items ≡ f.states.items ++ d.state ∷ []
    pub parts : g.parts.items ≡ f.parts.items ++ d.outs ∷ []

  -- what these workers brought, in this order
  pub record AreGathered (dealer : DealerView) (workers : List (Worked S O)) (g : Gathered S O) : Type 0 where
    pub states : g.states.items ≡ map (λ d. d.state) workers
    pub parts : g.parts.items ≡ map (λ d. d.outs) workers
    pub seat_of : IsSeatOf dealer g.seat
    pub shares : g.seat.shares ≡ sum_by (λ d. d.seat.shares) workers
    pub draws : g.seat.draws ≡ flat_map (λ d. d.seat.draws) workers
    pub floor : All (λ d. d.seat.floor ≤ g.seat.floor) workers

  -- all workers came back, the last one first
  abbrev pub IsGathered : DealerView → List (Result (Worked S O) Fault) → Gathered S O → Type 0
  IsGathered dealer rs g = (workers : List (Worked S O)) × (rs ≡ reverse (map Ok workers)) × AreGathered dealer workers g

-- a worker for each state, in turned order, with fresh seats that hold all shares
pub record IsHired {S : Type 0} (dealer : DealerView) (states : List S) (ws : List (Worker S)) : Type 0 where
  pub of_states : map (λ w. w.state) ws ≡ reverse states
  pub shares : sum_by (λ w. w.seat.shares) ws ≡ most_workers
  pub seats : All (λ w. IsSeatOf dealer w.seat × (w.seat.draws ≡ [])) ws

-- each result is that of the worker at the same place
pub record AreBack {S O : Type 0} (runs : S → ℕ → S → O → Type 0) (may_fail : ℕ → Fault → Type 0) (dealer : DealerView) (ws : List (Worker S)) (rs : List (Result (Worked S O) Fault)) : Type 0 where
  pub len : length rs ≡ length ws
  pub ok : (i : ℕ) (d : Result (Worked S O) Fault) (e : Worker S) → i < length ws → IfOk (slice_index_or rs i d) (IsDone runs dealer (slice_index_or ws i e))
  pub err : (i : ℕ) (d : Result (Worked S O) Fault) → i < length ws → IfErr (slice_index_or rs i d) (IsFaultOf may_fail dealer.chunks)
