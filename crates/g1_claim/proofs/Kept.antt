-- What holds of the words and of all hands between any two steps.
use Rattle.std.proofs.Common.{◌≡◌, ℕ, ◌<◌, ◌≤◌, ◌⊎◌, List, [], ◌∷◌, length}
use Rattle.std.specs.Prelude.{slice_index}
use mathlib.Core.Option.{some}
use lib.ListN.{get_elem?}
use Rattle.g1_claim.specs.declared.rule.Sight.{Sight}
use Rattle.g1_claim.specs.declared.rule.Hand.{Hand}
use Rattle.g1_claim.specs.Claims.{all_shares, empty, least_value}
use Rattle.g1_claim.specs.Rule.{hands_total, offers_at, wins_of, IsWord}

-- each sight is empty or a rank with which some hand's offer there answered true
abbrev pub AreBacked : List Sight → List Hand → Type 0
AreBacked [] vs = Unit {0}
AreBacked (s ∷ ss) vs = ((s.value ≡ empty) ⊎ (wins_of s.place s.value vs ≡ 1)) × AreBacked ss vs

-- a hand that has no share has offered and seen nothing
abbrev pub IsIdle : Hand → Type 0
IsIdle v = (v.offers ≡ []) × (v.sights ≡ [])

-- between any two steps, over the hands of all seats that ever were, dropped ones too: together they have all shares;
-- each word is the least rank offered at its place, or empty, and nobody offered at other places; at no place two offers of
-- one rank answered true; no word is above what a hand knows of it; a hand without shares has offered and seen nothing;
-- what a hand saw is empty or an offer that answered true
pub record Claiming (words : List ℕ) (views : List Hand) : Type 0 where
  pub shares : hands_total (λ v. v.shares) views ≡ all_shares
  pub idle : (k : ℕ) (v : Hand) → get_elem? views k ≡ some v → v.shares ≡ 0 → IsIdle v
  pub words_least : (p : ℕ) → p < length words → IsWord p (slice_index words p) views
  pub outside : (p : ℕ) → length words ≤ p → offers_at p views ≡ 0
  pub once : (p r : ℕ) → wins_of p r views ≤ 1
  pub floors : (k : ℕ) (v : Hand) → get_elem? views k ≡ some v → (p : ℕ) → p < length words → slice_index words p ≤ least_value p v.known
  pub backed : (k : ℕ) (v : Hand) → get_elem? views k ≡ some v → AreBacked v.sights views
