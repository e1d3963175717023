use Rattle.std.proofs.Common.{take, flat_map}
use Rattle.g1_frontier.specs.Scope.{names_in}
use Rattle.g1_frontier.specs.Queue.{HasNoted}
use Rattle.g1_frontier.proofs.queue.Queue.note_words.Given as goal

abbrev pub invariant-loop-word : goal.invariant-loop-word
invariant-loop-word l = HasNoted l.scope (flat_map (names_in l.scope) (take l.word-index l.words)) l.initial.self l.self
