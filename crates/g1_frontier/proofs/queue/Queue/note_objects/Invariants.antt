use Rattle.std.proofs.Common.{take, flat_map}
use Rattle.g1_frontier.specs.Queue.{object_names, HasNoted}
use Rattle.g1_frontier.proofs.queue.Queue.note_objects.Given as goal

abbrev pub invariant-loop-object : goal.invariant-loop-object
invariant-loop-object l = HasNoted l.scope (flat_map (object_names l.scope) (take l.object-index l.batch)) l.initial.self l.self
