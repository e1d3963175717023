use Rattle.std.proofs.Common.{◌≡◌, [], flat_map, take}
use Rattle.g1_words.specs.Heap.{word}
use Rattle.g1_explain.specs.declared.finder.Finder.TheVariants.{Card}
use Rattle.g1_explain.specs.Finders.{lead}
use Rattle.g1_explain.specs.Keepers.{leads_at}
use Rattle.g1_explain.proofs.humongous.slot_to.Given as goal

abbrev pub invariant-loop-slot : goal.invariant-loop-slot
invariant-loop-slot l = flat_map (λ p. leads_at l.heap (lead (Card l.card p) (word l.heap p)) l.region) (take l.slot-index l.slots) ≡ []
