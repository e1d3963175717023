use Rattle.std.proofs.Common.{flat_map, subst}
use Rattle.g1_words.specs.declared.object.Object.{Object}
use Rattle.std.proofs.lemmas.List.{take_all}
use Rattle.g1_frontier.specs.Queue.{object_names, HasNoted}
use Rattle.g1_frontier.proofs.Queues.{noted_more}
use Rattle.g1_frontier.proofs.queue.Queue.note_objects.Goals as goal

pub loop-object-preserved : goal.loop-object-preserved
loop-object-preserved c =
    let s = c.args.scope.now in
    let none : Object = record { at = 0; size = 0; refs = 0 } in
    noted_more s c.requires.scope (object_names s) c.args.batch.now c.loop-object.object-index none c.args.self.now
    c.loop-object.self c.note_object.new.self c.loop-object-test.true c.loop-object.invariant c.in_ok-note_object.ensures

pub note_object-requires-clause-scope : goal.note_object-requires-clause-scope
note_object-requires-clause-scope c = c.requires.scope

pub note_object-requires-clause-queue : goal.note_object-requires-clause-queue
note_object-requires-clause-queue c = c.loop-object.invariant.queue

pub returns : goal.returns
returns c =
    let s = c.args.scope.now in
    subst (λ l. HasNoted s (flat_map (object_names s) l) c.args.self.now c.loop-object.self) (take_all c.loop-object.object-index c.args.batch.now c.loop-object-test.false) c.loop-object.invariant

pub note_object-requires-clause-object : goal.note_object-requires-clause-object
note_object-requires-clause-object c = c.requires.batch c.loop-object.object-index (record { at = 0; size = 0; refs = 0 }) c.loop-object-test.true
