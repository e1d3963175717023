-- The line of the totals, piece by piece.
use Rattle.std.proofs.Common.{◌≡◌, ℕ, List, ◌++◌, ◌∙◌, ap, append_assoc}
use Rattle.std.specs.Prelude.{codes, decimal}
use Rattle.g1_text.specs.Lines.{line_text, further}
use Rattle.g1_explain.specs.Totals.{totals_line}
use Rattle.g1_words.proofs.Lists.{in_front}

pub totals_end : (old a b c : List ℕ) (set humongous objects bytes : ℕ) (counts : List (List ℕ)) → a ≡ old ++ (codes "pause regions " ++ (decimal set ++ (codes " humongous " ++ decimal humongous)))
    → b ≡ a ++ (codes " objects " ++ (decimal objects ++ (codes " bytes " ++ decimal bytes))) → c ≡ b ++ further counts → c ≡ old ++ line_text (totals_line set humongous objects bytes counts)
totals_end old a b c set humongous objects bytes counts p q r =
    let x : List ℕ = decimal set ++ (codes " humongous " ++ decimal humongous) in
    let y : List ℕ = decimal objects ++ (codes " bytes " ++ decimal bytes) in
    let rest : List ℕ = codes " objects " ++ (y ++ further counts) in
    r ∙ ap (λ l. l ++ further counts) (q ∙ ap (λ l. l ++ (codes " objects " ++ y)) p)
    ∙ append_assoc (old ++ (codes "pause regions " ++ x)) (codes " objects " ++ y) (further counts) ∙ append_assoc old (codes "pause regions " ++ x) rest
    ∙ ap (λ l. old ++ (codes "pause regions " ++ l)) (in_front (decimal set) (codes " humongous ") (decimal humongous) rest)
    ∙ ap (λ l. old ++ (codes "pause regions " ++ (decimal set ++ (codes " humongous " ++ (decimal humongous ++ (codes " objects " ++ l)))))) (in_front (decimal objects) (codes " bytes ") (decimal bytes) (further counts))
