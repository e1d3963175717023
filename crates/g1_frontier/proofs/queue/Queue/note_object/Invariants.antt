use Rattle.std.proofs.Common.{◌+◌, flat_map}
use Rattle.std.specs.List.{range_with_len}
use Rattle.g1_words.specs.Heap.{word}
use Rattle.g1_frontier.specs.Scope.{names_in}
use Rattle.g1_frontier.specs.Queue.{HasNoted}
use Rattle.g1_frontier.proofs.queue.Queue.note_object.Given as goal

abbrev pub invariant-loop-word : goal.invariant-loop-word
invariant-loop-word l = HasNoted l.scope (flat_map (λ p. names_in l.scope (word l.scope.heap.now p))
    (range_with_len (l.object.at + 1) l.word-index)) l.initial.self l.self
