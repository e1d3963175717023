use Rattle.std.proofs.Common.{[], ◌∷◌, refl, lit<, lit≤, arith}
use Rattle.g1_choose.specs.Choice.{comes_before}
use Rattle.g1_examples.specs.Choices.{byte_prices, two_full_regions}
use Rattle.g1_examples.proofs.Bought.{in_order, buys, two_swapped}
use Rattle.g1_examples.proofs.Sorted.{sorted_by_test}
use Rattle.g1_examples.proofs.choosing.choices.Goals as goal

pub returns-clause-candidates : goal.returns-clause-candidates
returns-clause-candidates c = refl

pub returns-clause-order : goal.returns-clause-order
returns-clause-order c = in_order

pub returns-clause-not_the_pause : goal.returns-clause-not_the_pause
returns-clause-not_the_pause c = buys 9 0 [] (lit≤ tt) (λ some. absurd (omega arith)) (λ _. lit< tt) refl

pub returns-clause-one_short : goal.returns-clause-one_short
returns-clause-one_short c = buys 25 0 [] (lit≤ tt) (λ some. absurd (omega arith)) (λ _. lit< tt) refl

pub returns-clause-exactly_one : goal.returns-clause-exactly_one
returns-clause-exactly_one c = buys 26 1 (0 ∷ []) (lit≤ tt) (λ _. lit≤ tt) (λ _. lit< tt) refl

pub returns-clause-none_skipped : goal.returns-clause-none_skipped
returns-clause-none_skipped c = buys 35 1 (0 ∷ []) (lit≤ tt) (λ _. lit≤ tt) (λ _. lit< tt) refl

pub returns-clause-exactly_two : goal.returns-clause-exactly_two
returns-clause-exactly_two c = buys 42 2 (0 ∷ 1 ∷ []) (lit≤ tt) (λ _. lit≤ tt) (λ _. lit< tt) refl

pub returns-clause-two : goal.returns-clause-two
returns-clause-two c = buys 50 2 (0 ∷ 1 ∷ []) (lit≤ tt) (λ _. lit≤ tt) (λ _. lit< tt) refl

pub returns-clause-all : goal.returns-clause-all
returns-clause-all c = buys 51 3 (0 ∷ 1 ∷ 2 ∷ []) (lit≤ tt) (λ _. lit≤ tt) (λ more. absurd (omega arith)) refl

pub returns-clause-wide_products : goal.returns-clause-wide_products
returns-clause-wide_products c = record {
  all = λ r. (two_swapped 1 0 r, two_swapped 0 1 r);
  sorted = sorted_by_test (comes_before byte_prices two_full_regions ([] ∷ [] ∷ []) (262144 ∷ 262136 ∷ [])) (1 ∷ 0 ∷ []) refl;
}
