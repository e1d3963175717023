-- The rule of the claim words, and what each step on one tells.
use Rattle.std.specs.Prelude.{◌≡◌, ◌≢◌, ℕ, ◌+◌, ◌-◌, ◌<◌, ◌≤◌, ◌^◌, Bool, ltb, min, List, [], ◌∷◌, ◌++◌, map, set, replicate, length, slice_index, ◌⊎◌}
use mathlib.Core.Option.{some}
use lib.ListN.{get_elem?}
use Rattle.atomic_table.specs.Table.{State, Me, Step}
use Rattle.g1_claim.specs.declared.rule.Offer.{Offer}
use Rattle.g1_claim.specs.declared.rule.Sight.{Sight}
use Rattle.g1_claim.specs.declared.rule.Hand.{Hand}
use Rattle.g1_claim.specs.declared.witness.Witness.{Witness}
use Rattle.g1_claim.specs.History.{History, Begins, least_in, IsOffer, AreSeen}
use Rattle.g1_claim.specs.Claims.{all_shares, empty, offer, sight, least_rank, times_offered, times_won, IsWonOnce, IsSettled, AreWon}

-- a hand with these parts
abbrev pub hand : ℕ → List Offer → List Sight → List Sight → Hand
hand n os ss ks = record { shares = n; offers = os; sights = ss; known = ks }

-- the hand of a new table's seat
abbrev pub first_hand : Hand
first_hand = hand all_shares [] [] []

-- f of each hand, added up
abbrev pub hands_total : (Hand → ℕ) → List Hand → ℕ
hands_total f [] = 0
hands_total f (v ∷ vs) = f v + hands_total f vs

-- the least f of a hand, or empty
abbrev pub lowest : (Hand → ℕ) → List Hand → ℕ
lowest f [] = empty
lowest f (v ∷ vs) = min (f v) (lowest f vs)

-- how many offers the hands made at the place
abbrev pub offers_at : ℕ → List Hand → ℕ
offers_at p vs = hands_total (λ v. times_offered p v.offers) vs

-- how many of the hands' offers of the rank at the place answered true
abbrev pub wins_of : ℕ → ℕ → List Hand → ℕ
wins_of p r vs = hands_total (λ v. times_won p r v.offers) vs

-- the least rank that any hand offered at the place, or empty
abbrev pub least_offered : ℕ → List Hand → ℕ
least_offered p vs = lowest (λ v. least_rank p v.offers) vs

-- no hand has offered at the place and the word is empty, or the word is the least rank that any hand offered there, and an offer of that rank answered true
abbrev pub IsWord : ℕ → ℕ → List Hand → Type 0
IsWord p w vs = (w ≡ least_offered p vs) × (((w ≡ empty) × (offers_at p vs ≡ 0)) ⊎ (wins_of p w vs ≡ 1))

-- the hand after an offer
abbrev pub after_offer : Hand → ℕ → ℕ → Bool → Hand
after_offer v p r b = hand v.shares (v.offers ++ offer p r b ∷ []) v.sights (v.known ++ sight p r ∷ [])

-- the hand after a sight
abbrev pub after_sight : Hand → ℕ → ℕ → Hand
after_sight v p a = hand v.shares v.offers (v.sights ++ sight p a ∷ []) (v.known ++ sight p a ∷ [])

-- what is left of a hand that gave a share away
abbrev pub left_hand : Hand → Hand
left_hand v = hand (v.shares - 1) v.offers v.sights v.known

-- the hand that takes the share
abbrev pub right_hand : Hand → Hand
right_hand v = hand 1 [] [] v.known

-- two hands in one
abbrev pub both_hands : Hand → Hand → Hand
both_hands v w = hand (v.shares + w.shares) (v.offers ++ w.offers) (v.sights ++ w.sights) (v.known ++ w.known)

-- what a hand leaves behind that was joined to another
abbrev pub spent_hand : Hand
spent_hand = hand 0 [] [] []

-- Some interleaving leads to these words of a table of n places, to these hands of all seats that ever were, and to this history of their offers.
-- At first each word is empty, and one seat has all shares. Each step is made by a seat k that isn't gone, whose hand is v: it offers the rank r at
-- the place p, which lowers the word to r if it was above; it sees the word at p; it hands a share to a new seat; or it takes what another seat that
-- isn't gone has, which is gone then.
pub data Leads (n : ℕ) : List ℕ → List Hand → History → Type 0 where
  begin : Leads n (replicate n empty) (first_hand ∷ []) []
  place_offer : (words : List ℕ) (hands : List Hand) (log : History) (k p r : ℕ) (v : Hand) → Leads n words hands log → get_elem? hands k ≡ some v → 0 < v.shares → p < n → r < 2 ^ 32 →
      Leads n (set words p (min (slice_index words p) r)) (set hands k (after_offer v p r (ltb r (slice_index words p)))) (log ++ (p, r) ∷ [])
  see : (words : List ℕ) (hands : List Hand) (log : History) (k p : ℕ) (v : Hand) → Leads n words hands log → get_elem? hands k ≡ some v → 0 < v.shares → p < n →
      Leads n words (set hands k (after_sight v p (slice_index words p))) log
  split : (words : List ℕ) (hands : List Hand) (log : History) (k : ℕ) (v : Hand) → Leads n words hands log → get_elem? hands k ≡ some v → 1 < v.shares →
      Leads n words (set hands k (left_hand v) ++ right_hand v ∷ []) log
  join : (words : List ℕ) (hands : List Hand) (log : History) (k other : ℕ) (v u : Hand) → Leads n words hands log → get_elem? hands k ≡ some v → 0 < v.shares →
      other ≢ k → get_elem? hands other ≡ some u → 0 < u.shares →
      Leads n words (set (set hands k (both_hands v u)) other spent_hand) log

-- a witness with these parts
abbrev pub witness : Hand → History → History → Witness
witness v seen told = record { hand = v; seen = seen; told = told }

-- the witness of a new table's seat
abbrev pub first_witness : Witness
first_witness = witness first_hand [] []

-- what is left of one that gave a share away
abbrev pub left_witness : Witness → Witness
left_witness w = witness (left_hand w.hand) w.seen w.told

-- the one that takes the share: it has seen what the old one has
abbrev pub right_witness : Witness → Witness
right_witness w = witness (right_hand w.hand) w.seen []

-- two in one, which is told what the other one has seen
abbrev pub both_witnesses : Witness → Witness → Witness
both_witnesses w u = witness (both_hands w.hand u.hand) w.seen u.seen

-- what one leaves behind that was joined to another
abbrev pub spent_witness : Witness
spent_witness = witness spent_hand [] []

-- the hands of all
abbrev pub hands_of : List Witness → List Hand
hands_of ws = map (λ w. w.hand) ws

-- each has seen, and was told, a beginning of the history
abbrev pub AreWitnesses : History → List Witness → Type 0
AreWitnesses log ws = (k : ℕ) (w : Witness) → get_elem? ws k ≡ some w → Begins log w.seen × Begins log w.told

-- the table's words, and the witnesses of all seats that ever were, dropped ones too
abbrev pub Shelf : Type 0
Shelf = State (Unit {0}) Witness

-- a seat: its witness, and no slots
abbrev pub Sat : Type 0
Sat = Me (Unit {0}) Witness

-- the rule of a table of so many words: some interleaving of its seats' steps leads to its words and to their hands, and each seat has seen a beginning of its history
abbrev pub Claimed : ℕ → Shelf → Type 0
Claimed n s = (length s.words ≡ n) × ((log : History) × Leads n s.words (hands_of s.views) log × AreWitnesses log s.views)

-- words and hands that some interleaving leads to, this hand among them
abbrev pub Moment : Hand → List ℕ → List Hand → Type 0
Moment v words views = ((log : History) × Leads (length words) words views log) × ((k : ℕ) × (get_elem? views k ≡ some v))

-- the step found the word n at the place
abbrev pub Found : Hand → ℕ → ℕ → Type 0
Found v p n = (words : List ℕ) × (views : List Hand) × Moment v words views × (p < length words) × (slice_index words p ≡ n)

-- n is the least rank that all seats have offered at the place so far, or empty, at a moment that some interleaving leads to, with this hand among all and with this history
abbrev pub LeastBy : Hand → ℕ → ℕ → History → Type 0
LeastBy v p n log = (words : List ℕ) × (views : List Hand) × Leads (length words) words views log × ((k : ℕ) × (get_elem? views k ≡ some v)) × (p < length words) × (n ≡ least_offered p views)

-- an offer of r at the place that found n: it stands last in what is seen then, and all before it was offered so far
abbrev pub Lowers : Hand → ℕ → ℕ → ℕ → History → Type 0
Lowers v p r n seen = (log : History) × LeastBy v p n log × (seen ≡ log ++ (p, r) ∷ [])

-- an offer of r at the place, by some seat, had answered true
abbrev pub Won : Hand → ℕ → ℕ → Type 0
Won v p r = (words : List ℕ) × (views : List Hand) × Moment v words views × (wins_of p r views ≡ 1)

-- some seat had offered r or less at the place, and that offer had answered true
abbrev pub Beaten : Hand → ℕ → ℕ → Type 0
Beaten v p r = (n : ℕ) × (n ≤ r) × Won v p n

-- what each step tells of its hand: at no place two of its offers of one rank answered true, and with all shares it has an offer
-- of the least rank of each place that answered true, and one for each value that it saw
abbrev pub IsKnown : Hand → Type 0
IsKnown v = (v.shares ≤ all_shares) × IsWonOnce v.offers × (v.shares ≡ all_shares → IsSettled v.offers) × (v.shares ≡ all_shares → AreWon v.sights v.offers)

-- an offer that found the word `found`
abbrev pub lowered : Step (Unit {0}) → Sat → ℕ → Sat → Type 0
lowered st m found m' = ((m'.0.hand ≡ after_offer m.0.hand st.word st.first (ltb st.first found)) × (m'.1 ≡ m.1)) × Found m.0.hand st.word found × IsKnown m'.0.hand
    × IsOffer m.0.seen st.word st.first (ltb st.first found) m'.0.seen × AreSeen m'.0.hand.offers m'.0.seen × Lowers m.0.hand st.word st.first found m'.0.seen

-- a load that found the word `found`
abbrev pub saw : Step (Unit {0}) → Sat → ℕ → Sat → Type 0
saw st m found m' = ((m'.0.hand ≡ after_sight m.0.hand st.word found) × (m'.1 ≡ m.1)) × Found m.0.hand st.word found × IsKnown m'.0.hand
    × (Begins m'.0.seen m.0.seen × (found ≡ least_in st.word m'.0.seen)) × AreSeen m'.0.hand.offers m'.0.seen × LeastBy m.0.hand st.word found m'.0.seen

-- a load that changes no hand, and sees the history
abbrev pub looked : Step (Unit {0}) → Sat → ℕ → Sat → Type 0
looked st m found m' = ((m'.0.hand ≡ m.0.hand) × (m'.1 ≡ m.1)) × IsKnown m'.0.hand × (Begins m'.0.seen m.0.seen × Begins m'.0.seen m.0.told) × AreSeen m'.0.hand.offers m'.0.seen
