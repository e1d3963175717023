use Rattle.std.proofs.Common.{◌≡◌, flat_map, take}
use Rattle.g1_words.specs.Heap.{word}
use Rattle.g1_explain.specs.declared.finder.Finder.TheVariants.{Card}
use Rattle.g1_explain.specs.Finders.{lead}
use Rattle.g1_explain.specs.Searched.{met}
use Rattle.g1_explain.proofs.finders.meet_card.Given as goal

abbrev pub invariant-loop-slot : goal.invariant-loop-slot
invariant-loop-slot l = l.finders.items ≡ met l.found l.initial.finders.items (flat_map (λ p. lead (Card l.card p) (word l.heap p)) (take l.slot-index l.slots))
