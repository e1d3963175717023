-- What a seat shows of the cursor.
use Rattle.std.proofs.Common.{◌≡◌, ℕ, ◌+◌, ◌≤◌, min, length, sym, ◌∙◌, subst, arith}
use Rattle.g1_deal.specs.Dealer.{SeatView, IsEachBelow, IsOnceBelow}

-- what is known of each seat, as it is of its hand
abbrev pub IsKnownSeat : SeatView → Type 0
IsKnownSeat s = IsOnceBelow s.chunks s.draws × (s.steps ≤ s.chunks + 64)
    × (s.shares ≡ 64 → IsEachBelow (min s.steps s.chunks) s.draws × (length s.draws ≡ min s.steps s.chunks) × (s.floor ≤ min s.steps s.chunks))

-- a seat of all shares whose steps are the cursor
pub closed : (s : SeatView) (chunks cursor : ℕ) → IsKnownSeat s → s.shares ≡ 64 → s.chunks ≡ chunks → cursor ≡ s.steps
    → (cursor ≤ chunks + 64) × IsEachBelow (min cursor chunks) s.draws × (length s.draws ≡ min cursor chunks) × (s.floor ≤ min cursor chunks)
closed s chunks cursor k all is at =
    let same : min s.steps s.chunks ≡ min cursor chunks = λ i. min (sym at i) (is i) in let bound = k.1 in
    (omega arith, subst (λ (n : ℕ). IsEachBelow n s.draws) same (k.2 all).0, (k.2 all).1 ∙ same, subst (λ (n : ℕ). s.floor ≤ n) same (k.2 all).2)
