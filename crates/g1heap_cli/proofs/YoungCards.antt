-- The cards of regions, one after the other.
use Rattle.std.proofs.Common.{◌≡◌, ℕ, suc, ◌+◌, ◌-◌, ◌≤◌, List, [], ◌∷◌, ◌++◌, ◌∙◌, ap, arith, append_assoc}
use Rattle.std.specs.List.{range_with_len}
use Rattle.g1_words.proofs.Lists.{range_push}

-- one card more
pub card_more : (old cards : List ℕ) (first card : ℕ) → first ≤ card → cards ≡ old ++ range_with_len first (card - first)
    → cards ++ card ∷ [] ≡ old ++ range_with_len first (card + 1 - first)
card_more old cards first card h is =
    let at : card ≡ first + (card - first) = omega (arith, h) in
    let more : suc (card - first) ≡ card + 1 - first = omega (arith, h) in
    ap (λ l. l ++ card ∷ []) is ∙ append_assoc old (range_with_len first (card - first)) (card ∷ [])
    ∙ ap (λ l. old ++ l) (ap (λ m. range_with_len first (card - first) ++ m ∷ []) at ∙ range_push first (card - first) ∙ ap (range_with_len first) more)
