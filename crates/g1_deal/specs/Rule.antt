-- The rule of the cursor, and what each step on it tells.
use Rattle.std.specs.Prelude.{◌≡◌, ◌≢◌, ℕ, ◌+◌, ◌-◌, ◌<◌, ◌≤◌, min, max, Bool, true, false, List, [], ◌∷◌, ◌++◌, set, length, slice_index, ◌^◌, ◌||◌}
use mathlib.Core.Option.{some}
use lib.ListN.{get_elem?}
use Rattle.atomic_table.specs.Table.{State, Me, Step}
use Rattle.g1_deal.specs.declared.rule.Hand.{Hand}
use Rattle.g1_deal.specs.Dealer.{SeatView, all_shares, times, once_below, IsEachBelow, IsOnceBelow}

-- f of each hand, added up
abbrev pub hands_total : (Hand → ℕ) → List Hand → ℕ
hands_total f [] = 0
hands_total f (v ∷ vs) = f v + hands_total f vs

-- how often the hands have drawn the number, all together
abbrev pub times_drawn : ℕ → List Hand → ℕ
times_drawn x vs = hands_total (λ v. times x v.draws) vs

-- how many numbers the hands have drawn, all together
abbrev pub count_drawn : List Hand → ℕ
count_drawn vs = hands_total (λ v. length v.draws) vs

-- a hand with these parts
abbrev pub hand : ℕ → ℕ → List ℕ → ℕ → ℕ → Bool → Hand
hand chunks shares draws floor steps had_none = record { chunks = chunks; shares = shares; draws = draws; floor = floor; steps = steps; had_none = had_none }

-- the hand of a new dealer's seat
abbrev pub first_hand : ℕ → Hand
first_hand chunks = hand chunks all_shares [] 0 0 false

-- the hand that drew n
abbrev pub after_draw : Hand → ℕ → Hand
after_draw v n = hand v.chunks v.shares (v.draws ++ n ∷ []) (n + 1) (v.steps + 1) v.had_none

-- the hand that found the end
abbrev pub after_none : Hand → Hand
after_none v = hand v.chunks v.shares v.draws v.chunks (v.steps + 1) true

-- the hand that knows that n chunks are drawn
abbrev pub after_look : Hand → ℕ → Hand
after_look v n = hand v.chunks v.shares v.draws n v.steps v.had_none

-- what is left of a hand that gave a share away
abbrev pub left_hand : Hand → Hand
left_hand v = hand v.chunks (v.shares - 1) v.draws v.floor v.steps v.had_none

-- the hand that takes the share
abbrev pub right_hand : Hand → Hand
right_hand v = hand v.chunks 1 [] v.floor 0 v.had_none

-- two hands in one
abbrev pub both_hands : Hand → Hand → Hand
both_hands v w = hand v.chunks (v.shares + w.shares) (v.draws ++ w.draws) (max v.floor w.floor) (v.steps + w.steps) (v.had_none || w.had_none)

-- what a hand leaves behind that was joined to another
abbrev pub spent_hand : Hand
spent_hand = hand 0 0 [] 0 0 false

-- Some interleaving leads to this cursor of a dealer of so many chunks, and to these hands of all seats that ever were. At first the cursor is 0,
-- and one seat has all shares. Each step is made by a seat k that isn't gone, whose hand is v: it draws the number at the cursor, or has None if the
-- cursor is past the last chunk; it sees how many chunks are drawn; it hands a share to a new seat; or it takes what another seat that isn't gone
-- has, which is gone then.
pub data Leads (chunks : ℕ) : ℕ → List Hand → Type 0 where
  begin : chunks < 2 ^ 32 → Leads chunks 0 (first_hand chunks ∷ [])
  draw : (cursor : ℕ) (hands : List Hand) (k : ℕ) (v : Hand) → Leads chunks cursor hands → get_elem? hands k ≡ some v → 0 < v.shares → v.had_none ≡ false → cursor < chunks →
      Leads chunks (cursor + 1) (set hands k (after_draw v cursor))
  past : (cursor : ℕ) (hands : List Hand) (k : ℕ) (v : Hand) → Leads chunks cursor hands → get_elem? hands k ≡ some v → 0 < v.shares → v.had_none ≡ false → chunks ≤ cursor →
      Leads chunks (cursor + 1) (set hands k (after_none v))
  see : (cursor : ℕ) (hands : List Hand) (k : ℕ) (v : Hand) → Leads chunks cursor hands → get_elem? hands k ≡ some v → 0 < v.shares →
      Leads chunks cursor (set hands k (after_look v (min cursor chunks)))
  split : (cursor : ℕ) (hands : List Hand) (k : ℕ) (v : Hand) → Leads chunks cursor hands → get_elem? hands k ≡ some v → 1 < v.shares →
      Leads chunks cursor (set hands k (left_hand v) ++ right_hand v ∷ [])
  join : (cursor : ℕ) (hands : List Hand) (k other : ℕ) (v u : Hand) → Leads chunks cursor hands → get_elem? hands k ≡ some v → 0 < v.shares →
      other ≢ k → get_elem? hands other ≡ some u → 0 < u.shares →
      Leads chunks cursor (set (set hands k (both_hands v u)) other spent_hand)

-- the rule: the cursor is the table's one word, and some interleaving of its seats' steps leads to it and to their hands
abbrev pub Dealt : ℕ → State (Unit {0}) Hand → Type 0
Dealt chunks s = (length s.words ≡ 1) × Leads chunks (slice_index s.words 0) s.views

-- the hand of a seat
abbrev pub hand_of : SeatView → Hand
hand_of s = hand s.chunks s.shares s.draws s.floor s.steps s.had_none

-- at a moment that some interleaving leads to, with this hand among those of all seats, these have drawn the numbers below n, each once, and no others
pub record DrawnBy (v : Hand) (n : ℕ) : Type 0 where
  pub cursor : ℕ
  pub hands : List Hand
  pub leads : Leads v.chunks cursor hands
  pub seat : ℕ
  pub mine : get_elem? hands seat ≡ some v
  pub count : count_drawn hands ≡ n
  pub each : (x : ℕ) → times_drawn x hands ≡ once_below x n

-- a seat: its hand, and no slots
abbrev pub Sat : Type 0
Sat = Me (Unit {0}) Hand

-- what each step tells of its hand: it has no number twice, its steps are few, and with all shares it has all draws and all steps
abbrev pub IsKnown : Hand → Type 0
IsKnown v = IsOnceBelow v.chunks v.draws × (v.steps ≤ v.chunks + all_shares)
    × (v.shares ≡ all_shares → IsEachBelow (min v.steps v.chunks) v.draws × (length v.draws ≡ min v.steps v.chunks) × (v.floor ≤ min v.steps v.chunks))

-- a draw that found n: a number above all that the hand knew, the next one that no seat had drawn, or the end
abbrev pub drew : Step (Unit {0}) → Sat → ℕ → Sat → Type 0
drew st m n m' = (n < m.0.chunks → (m.0.floor ≤ n) × (m'.0 ≡ after_draw m.0 n)) × (m.0.chunks ≤ n → m'.0 ≡ after_none m.0) × (m'.1 ≡ m.1) × IsKnown m'.0 × DrawnBy m.0 (min n m.0.chunks)

-- a load that found n: it is not below what the hand knew, and the steps of a hand with all shares; so many chunks all seats had drawn
abbrev pub saw : Step (Unit {0}) → Sat → ℕ → Sat → Type 0
saw st m n m' = (m.0.floor ≤ min n m.0.chunks) × (m'.0 ≡ after_look m.0 (min n m.0.chunks)) × (m'.1 ≡ m.1) × (m'.0.shares ≡ all_shares → n ≡ m'.0.steps) × IsKnown m'.0 × DrawnBy m.0 (min n m.0.chunks)

-- a load that changes nothing
abbrev pub looked : Step (Unit {0}) → Sat → ℕ → Sat → Type 0
looked st m n m' = (m'.0 ≡ m.0) × (m'.1 ≡ m.1) × (m'.0.shares ≤ all_shares) × IsKnown m'.0
