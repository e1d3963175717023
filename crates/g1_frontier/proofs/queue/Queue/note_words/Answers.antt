use Rattle.std.proofs.Common.{flat_map, subst}
use Rattle.std.proofs.lemmas.List.{take_all}
use Rattle.g1_frontier.specs.Queue.{HasNoted}
use Rattle.g1_frontier.specs.Scope.{names_in}
use Rattle.g1_frontier.proofs.Queues.{noted_more}
use Rattle.g1_frontier.proofs.queue.Queue.note_words.Goals as goal

pub note-requires-clause-reference : goal.note-requires-clause-reference
note-requires-clause-reference c = c.requires.words c.loop-word.word-index 0 c.loop-word-test.true

pub loop-word-preserved : goal.loop-word-preserved
loop-word-preserved c =
    let s = c.args.scope.now in
    noted_more s c.requires.scope (names_in s) c.args.words.now c.loop-word.word-index 0
    c.args.self.now c.loop-word.self c.note.new.self c.loop-word-test.true c.loop-word.invariant c.in_ok-note.ensures

pub note-requires-clause-scope : goal.note-requires-clause-scope
note-requires-clause-scope c = c.requires.scope

pub note-requires-clause-queue : goal.note-requires-clause-queue
note-requires-clause-queue c = c.loop-word.invariant.queue

pub returns : goal.returns
returns c =
    let s = c.args.scope.now in
    subst (λ l. HasNoted s (flat_map (names_in s) l) c.args.self.now c.loop-word.self) (take_all c.loop-word.word-index c.args.words.now c.loop-word-test.false) c.loop-word.invariant
