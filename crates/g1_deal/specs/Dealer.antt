-- What contracts see of a dealer and of a seat.
use Rattle.std.specs.Prelude.{◌≡◌, ℕ, ◌≤◌, Bool, false, List, [], count_by, nat_lt, ◌==◌, if◌then◌else◌}
use base.Stored.{Coded, coded×, coded_ℕ, coded_bool, coded_list, coded_via}
use Rattle.atomic_table.specs.Seated.{TableId, table_id_coded}

-- the shares that all seats of a dealer have together
abbrev pub all_shares : ℕ
all_shares = 64

-- how often x stands in the list
abbrev pub times : ℕ → List ℕ → ℕ
times x xs = count_by (λ y. y == x) xs

-- 1 where x is below n, else 0
abbrev pub once_below : ℕ → ℕ → ℕ
once_below x n = if nat_lt x n then 1 else 0

-- the list has each number below n once, and no other
abbrev pub IsEachBelow : ℕ → List ℕ → Type 0
IsEachBelow n xs = (x : ℕ) → times x xs ≡ once_below x n

-- the list has no number twice, and none that is not below n
abbrev pub IsOnceBelow : ℕ → List ℕ → Type 0
IsOnceBelow n xs = (x : ℕ) → times x xs ≤ once_below x n

-- a dealer: which one it is, and how many chunks it deals
pub record DealerView : Type 0 where
  pub id : TableId
  pub chunks : ℕ

abbrev pub dealer_view_coded : Coded DealerView
dealer_view_coded = coded_via (coded× table_id_coded coded_ℕ) (λ (s : DealerView). (s.id, s.chunks)) (λ x y e i. record { id = (e i).0; chunks = (e i).1 })

-- a seat: of which dealer it is, its shares, the numbers that it drew, the greatest count of drawn chunks that it knows, how many of its takes made a step, and whether it has had None
pub record SeatView : Type 0 where
  pub dealer : TableId
  pub chunks : ℕ
  pub shares : ℕ
  pub draws : List ℕ
  pub floor : ℕ
  pub steps : ℕ
  pub had_none : Bool

abbrev pub seat_view_coded : Coded SeatView
seat_view_coded = coded_via (coded× table_id_coded (coded× coded_ℕ (coded× coded_ℕ (coded× (coded_list coded_ℕ) (coded× coded_ℕ (coded× coded_ℕ coded_bool))))))
    (λ (s : SeatView). (s.dealer, (s.chunks, (s.shares, (s.draws, (s.floor, (s.steps, s.had_none)))))))
    (λ x y e i. record { dealer = (e i).0; chunks = (e i).1.0; shares = (e i).1.1.0; draws = (e i).1.1.1.0; floor = (e i).1.1.1.1.0; steps = (e i).1.1.1.1.1.0; had_none = (e i).1.1.1.1.1.1 })

-- the seat that a new dealer comes with
abbrev pub first_seat : DealerView → SeatView
first_seat d = record { dealer = d.id; chunks = d.chunks; shares = all_shares; draws = []; floor = 0; steps = 0; had_none = false }

-- the seat is one of this dealer's
abbrev pub IsSeatOf : DealerView → SeatView → Type 0
IsSeatOf d s = (s.dealer ≡ d.id) × (s.chunks ≡ d.chunks)
