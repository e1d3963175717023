use Rattle.std.proofs.Common.{arith, ℕ, suc, List, [], ◌≡◌, ◌<◌, ◌+◌, ap, sym, subst, ◌∙◌, flat_map, Contains}
use Rattle.std.specs.List.{range_with_len}
use Rattle.std.proofs.lemmas.List.{flat_map_more}
use Rattle.g1_words.specs.Heap.{word, slots}
use Rattle.g1_words.specs.Valid.{IsReference}
use Rattle.g1_words.proofs.Computed.{Contains-range}
use Rattle.g1_words.proofs.Lists.{range_push}
use Rattle.g1_frontier.specs.Scope.{names_in}
use Rattle.g1_frontier.specs.Queue.{HasNoted}
use Rattle.g1_frontier.proofs.Names.{slot_reference}
use Rattle.g1_frontier.proofs.Queues.{noted_none, noted_append}
use Rattle.g1_frontier.proofs.queue.Queue.note_object.Goals as goal

pub loop-word-init : goal.loop-word-init
loop-word-init c = noted_none c.args.scope.now c.requires.scope c.args.self.now c.requires.queue

pub note-requires-clause-reference : goal.note-requires-clause-reference
note-requires-clause-reference c =
    let h = c.args.scope.now.heap.now in
    let o = c.args.object.now in
    let i : ℕ = c.loop-word.word-index in
    let below : i < o.refs = subst (λ n. i < n) c.slots-word-items.ensures.count c.loop-word-test.true in
    let p : ℕ = o.at + 1 + i in
    let there : Contains (slots o) p = Contains-range (o.at + 1) o.refs p (omega arith) (omega (arith, below)) in
    subst (λ x. IsReference h x) (sym (c.slots-word-items.ensures.each i below))
    (slot_reference h c.requires.scope.valid o p c.requires.object there)

pub loop-word-preserved : goal.loop-word-preserved
loop-word-preserved c =
    let s = c.args.scope.now in
    let first : ℕ = c.args.object.now.at + 1 in
    let i : ℕ = c.loop-word.word-index in
    let below : i < c.args.object.now.refs = subst (λ n. i < n) c.slots-word-items.ensures.count c.loop-word-test.true in
    let p : ℕ = first + i in
    let f : ℕ → List ℕ = λ p. names_in s (word s.heap.now p) in
    let one : HasNoted s (f p) c.loop-word.self c.note.new.self = subst
    (λ x. HasNoted s (names_in s x) c.loop-word.self c.note.new.self) (c.slots-word-items.ensures.each i below) c.in_ok-note.ensures in
    let next : suc i ≡ i + 1 = omega arith in
    subst (λ l. HasNoted s l c.args.self.now c.note.new.self)
    (flat_map_more f [] (range_with_len first i) p ∙ ap (flat_map f) (range_push first i ∙ ap (range_with_len first) next))
    (noted_append s c.requires.scope (flat_map f (range_with_len first i)) (f p) c.args.self.now c.loop-word.self c.note.new.self c.loop-word.invariant one)

pub note-requires-clause-scope : goal.note-requires-clause-scope
note-requires-clause-scope c = c.requires.scope

pub note-requires-clause-queue : goal.note-requires-clause-queue
note-requires-clause-queue c = c.loop-word.invariant.queue

pub returns : goal.returns
returns c =
    let s = c.args.scope.now in
    let o = c.args.object.now in
    let end : c.loop-word.word-index ≡ o.refs = omega (arith, c.loop-word.auto.word-index-end, c.loop-word-test.false, c.slots-word-items.ensures.count) in
    subst (λ n. HasNoted s (flat_map (λ p. names_in s (word s.heap.now p)) (range_with_len (o.at + 1) n)) c.args.self.now c.loop-word.self) end c.loop-word.invariant
