use Rattle.std.proofs.Common.{◌≡◌, ℕ, List, [], ◌∷◌, refl, lit<, lit≤, arith}
use Rattle.g1_choose.proofs.OneChoice.{one_order, one_set}
use Rattle.g1_examples.specs.Examples.{three_regions}
use Rattle.g1_examples.specs.Choices.{unit_prices, three_remembered, three_lives}
use Rattle.g1_examples.proofs.Bought.{in_order, buys}
use Rattle.g1_examples.proofs.choosing.refused_choices.Goals as goal

pub returns-clause-skipping : goal.returns-clause-skipping
returns-clause-skipping c = λ b.
    let e : ◌≡◌ {A = List ℕ} (0 ∷ []) (0 ∷ 2 ∷ []) = one_set unit_prices three_regions three_remembered three_lives 0 35 (0 ∷ []) (0 ∷ 2 ∷ [])
    (buys 35 1 (0 ∷ []) (lit≤ tt) (λ _. lit≤ tt) (λ _. lit< tt) refl) b in cc

pub returns-clause-missed : goal.returns-clause-missed
returns-clause-missed c = λ b.
    let e : ◌≡◌ {A = List ℕ} [] (0 ∷ []) = one_set unit_prices three_regions three_remembered three_lives 0 25 [] (0 ∷ [])
    (buys 25 0 [] (lit≤ tt) (λ some. absurd (omega arith)) (λ _. lit< tt) refl) b in cc

pub returns-clause-left_out : goal.returns-clause-left_out
returns-clause-left_out c = λ b.
    let e : ◌≡◌ {A = List ℕ} (0 ∷ []) [] = one_set unit_prices three_regions three_remembered three_lives 0 26 (0 ∷ []) [] (buys 26 1 (0 ∷ []) (lit≤ tt) (λ _. lit≤ tt) (λ _. lit< tt) refl) b in cc

pub returns-clause-higher_first : goal.returns-clause-higher_first
returns-clause-higher_first c = λ o.
    let e : ◌≡◌ {A = List ℕ} (0 ∷ 1 ∷ 2 ∷ []) (1 ∷ 0 ∷ 2 ∷ []) = one_order unit_prices three_regions three_remembered three_lives (0 ∷ 1 ∷ 2 ∷ []) (1 ∷ 0 ∷ 2 ∷ []) in_order o in cc
