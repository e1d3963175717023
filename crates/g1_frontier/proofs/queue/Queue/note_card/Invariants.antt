use Rattle.std.proofs.Common.{◌≡◌, ◌++◌, take, flat_map}
use Rattle.g1_words.specs.Heap.{word}
use Rattle.g1_frontier.specs.Scope.{names_in}
use Rattle.g1_frontier.specs.Queue.{leads_of, HasNoted}
use Rattle.g1_frontier.proofs.queue.Queue.note_card.Given as goal

abbrev pub invariant-loop-slot : goal.invariant-loop-slot
invariant-loop-slot l = record {
  noted : HasNoted l.scope (flat_map (λ p. names_in l.scope (word l.scope.heap.now p)) (take l.slot-index l.slot-items)) l.initial.self l.self;
  listed : l.leads.items ≡ l.initial.leads.items ++ flat_map (λ p. leads_of l.scope p (word l.scope.heap.now p)) (take l.slot-index l.slot-items);
}
