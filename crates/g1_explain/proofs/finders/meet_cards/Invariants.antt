use Rattle.std.proofs.Common.{◌≡◌, flat_map, take}
use Rattle.g1_words.specs.Heap.{word}
use Rattle.g1_rem.specs.Slots.{slots_on}
use Rattle.g1_explain.specs.declared.finder.Finder.TheVariants.{Card}
use Rattle.g1_explain.specs.Finders.{lead}
use Rattle.g1_explain.specs.Searched.{met}
use Rattle.g1_explain.proofs.finders.meet_cards.Given as goal

abbrev pub invariant-loop-card : goal.invariant-loop-card
invariant-loop-card l =
    l.finders.items ≡ met l.found l.initial.finders.items (flat_map (λ c. flat_map (λ p. lead (Card c p) (word l.walkable.heap p)) (slots_on l.walkable.heap c)) (take l.card-index l.cards))
