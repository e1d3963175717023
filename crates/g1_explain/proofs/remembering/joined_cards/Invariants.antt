use Rattle.std.proofs.Common.{◌≡◌, not, filter, take}
use Rattle.std.specs.List.Sorted.{IsStrictlyIncreasing}
use Rattle.g1_words.specs.Lists.{has}
use Rattle.g1_explain.proofs.remembering.joined_cards.Given as goal

abbrev pub invariant-loop-card : goal.invariant-loop-card
invariant-loop-card l = IsStrictlyIncreasing l.before → l.joined.items ≡ filter (λ c. not (has l.before c)) (take l.card-index l.after)
