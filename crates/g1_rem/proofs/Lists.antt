-- Tests and filters of lists.
use Rattle.std.proofs.Common.{◌≡◌, ℕ, Bool, true, List, [], filter, Contains}
use Rattle.std.proofs.lemmas.Bool.{false_from_ne_true}
use Rattle.g1_words.proofs.Lists.{none_passes}

-- a filter that nothing passes
pub filter_none : (p : ℕ → Bool) (xs : List ℕ) → ((x : ℕ) → Contains xs x → p x ≡ true → ⊥) → filter p xs ≡ []
filter_none p xs never = none_passes p xs (λ x i. false_from_ne_true (p x) (never x i))
