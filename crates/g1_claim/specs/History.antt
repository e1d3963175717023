-- The one history of a table: the offers of all seats, in the order of their steps.
use Rattle.std.specs.Prelude.{◌≡◌, ℕ, ◌+◌, ◌≤◌, Bool, cond, ◌&&◌, eqb, ltb, min, List, [], ◌∷◌, ◌++◌, map}
use Rattle.g1_claim.specs.declared.rule.Offer.{Offer}
use Rattle.g1_claim.specs.Claims.{empty, one_if}

-- each offer is its place and its rank
abbrev pub History : Type 0
History = List (ℕ × ℕ)

-- the history begins with what was seen of it
abbrev pub Begins : History → History → Type 0
Begins log seen = (rest : History) × (log ≡ seen ++ rest)

-- the least rank offered at the place, or empty
abbrev pub least_in : ℕ → History → ℕ
least_in p [] = empty
least_in p (b ∷ log) = min (cond (eqb b.0 p) b.1 empty) (least_in p log)

-- how often the rank was offered at the place
abbrev pub times_in : ℕ → ℕ → History → ℕ
times_in p r [] = 0
times_in p r (b ∷ log) = one_if (eqb b.0 p && eqb b.1 r) + times_in p r log

-- offers by their places and ranks
abbrev pub bids : List Offer → History
bids os = map (λ o. (o.place, o.rank)) os

-- an offer of the rank at the place: what is seen then is what was seen, other seats' offers and this one, and the answer is whether its rank is below all those at the place
abbrev pub IsOffer : History → ℕ → ℕ → Bool → History → Type 0
IsOffer before p r answer after = (between : History) × (after ≡ (before ++ between) ++ (p, r) ∷ []) × (answer ≡ ltb r (least_in p (before ++ between)))

-- the offers stand in what was seen, each as often as it was made
abbrev pub AreSeen : List Offer → History → Type 0
AreSeen os seen = (p r : ℕ) → times_in p r (bids os) ≤ times_in p r seen

-- the offers are those of the history, and no others
abbrev pub AreAll : List Offer → History → Type 0
AreAll os log = (p r : ℕ) → times_in p r (bids os) ≡ times_in p r log
