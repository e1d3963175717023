use Rattle.std.proofs.Common.{◌≡◌, map}
use Rattle.g1_copy.specs.Links.{cards_by_region}
use Rattle.g1_copy.proofs.LinkingParts.{slots_to}
use Rattle.g1_copy.proofs.copied_cards.cards_by_threads.Given as goal

abbrev pub invariant-loop-part : goal.invariant-loop-part
invariant-loop-part g l = map (λ s. s.items) l.lists.items ≡ cards_by_region l.fn.copied.heap (slots_to l.fn.copied.heap l.fn.copied.plan l.size l.part-index)
