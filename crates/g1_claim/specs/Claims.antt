-- What contracts see of a table and of a seat, and what offers come to.
use Rattle.std.specs.Prelude.{◌≡◌, ℕ, ◌+◌, ◌≤◌, Bool, cond, ◌&&◌, eqb, min, List, [], ◌∷◌, ◌⊎◌}
use Rattle.atomic_table.specs.Seated.{TableId}
use Rattle.g1_claim.specs.declared.rule.Offer.{Offer}
use Rattle.g1_claim.specs.declared.rule.Sight.{Sight}
use Rattle.g1_claim.specs.declared.rule.Hand.{Hand}

-- a table: which one it is, and how many places it has
pub record TableView : Type 0 where
  pub id : TableId
  pub places : ℕ

-- a seat: of which table it is, what it holds: its shares, the offers that it made, what it saw by `least`, and what it knows of the words; and the
-- beginning that it has seen of the table's history: the place and the rank of each offer, by whatever seat, in the order of their steps
pub record SeatView : Type 0 where
  pub table : TableId
  pub hand : Hand
  pub seen : List (ℕ × ℕ)

-- the seat is one of this table's
abbrev pub IsSeatOf : TableView → SeatView → Type 0
IsSeatOf t s = s.table ≡ t.id

-- the shares that all seats of a table have together
abbrev pub all_shares : ℕ
all_shares = 64

-- the word of a place where nobody has offered: 2^64 - 1
abbrev pub empty : ℕ
empty = 18446744073709551615

-- a rank offered at a place, and whether it lowered the word
abbrev pub offer : ℕ → ℕ → Bool → Offer
offer p r b = record { place = p; rank = r; won = b }

-- a value that was offered or seen at a place
abbrev pub sight : ℕ → ℕ → Sight
sight p a = record { place = p; value = a }

-- the least rank offered at the place, or empty
abbrev pub least_rank : ℕ → List Offer → ℕ
least_rank p [] = empty
least_rank p (o ∷ os) = min (cond (eqb o.place p) o.rank empty) (least_rank p os)

-- the least value offered or seen at the place, or empty
abbrev pub least_value : ℕ → List Sight → ℕ
least_value p [] = empty
least_value p (s ∷ ss) = min (cond (eqb s.place p) s.value empty) (least_value p ss)

-- 1 where it is true, else 0
abbrev pub one_if : Bool → ℕ
one_if b = cond b 1 0

-- how many offers were made at the place
abbrev pub times_offered : ℕ → List Offer → ℕ
times_offered p [] = 0
times_offered p (o ∷ os) = one_if (eqb o.place p) + times_offered p os

-- how many offers of the rank at the place answered true
abbrev pub times_won : ℕ → ℕ → List Offer → ℕ
times_won p r [] = 0
times_won p r (o ∷ os) = one_if (eqb o.place p && (eqb o.rank r && o.won)) + times_won p r os

-- the word of the place, where all offers are in the list: nobody has offered and it is empty, or it is the least rank offered, and an offer of that rank answered true
abbrev pub IsWordOf : ℕ → ℕ → List Offer → Type 0
IsWordOf p w os = (w ≡ least_rank p os) × (((w ≡ empty) × (times_offered p os ≡ 0)) ⊎ (times_won p w os ≡ 1))

-- at no place two offers of one rank answered true
abbrev pub IsWonOnce : List Offer → Type 0
IsWonOnce os = (p r : ℕ) → times_won p r os ≤ 1

-- where all offers are in the list: at each place nobody has offered, or an offer of the least rank answered true
abbrev pub IsSettled : List Offer → Type 0
IsSettled os = (p : ℕ) → (times_offered p os ≡ 0) ⊎ (times_won p (least_rank p os) os ≡ 1)

-- where all offers are in the list: each sight is empty, or a rank with which an offer there answered true
abbrev pub AreWon : List Sight → List Offer → Type 0
AreWon [] os = Unit {0}
AreWon (s ∷ ss) os = ((s.value ≡ empty) ⊎ (times_won s.place s.value os ≡ 1)) × AreWon ss os
