use Rattle.std.proofs.Common.{◌∙◌, ◌++◌, ap, sym, subst, ℕ, flat_map, get_or, append-nil, Contains}
use Rattle.std.proofs.lemmas.List.{take_all}
use Rattle.std.proofs.lemmas.List.Elements.{Contains-get_or}
use Rattle.g1_words.specs.Heap.{word}
use Rattle.g1_words.specs.Valid.{IsReference}
use Rattle.g1_frontier.specs.Scope.{names_in}
use Rattle.g1_frontier.specs.Queue.{leads_of, HasNoted}
use Rattle.g1_frontier.proofs.Names.{card_reference}
use Rattle.g1_frontier.proofs.Queues.{listed_more, noted_more, noted_none}
use Rattle.g1_frontier.proofs.queue.Queue.note_card.Goals as goal

pub loop-slot-init : goal.loop-slot-init
loop-slot-init c = record {
  noted = noted_none c.args.scope.now c.requires.scope c.args.self.now c.requires.queue;
  listed = sym (append-nil c.args.leads.now.items);
}

pub note_slot-requires-clause-scope : goal.note_slot-requires-clause-scope
note_slot-requires-clause-scope c = c.requires.scope

pub note_slot-requires-clause-queue : goal.note_slot-requires-clause-queue
note_slot-requires-clause-queue c = c.loop-slot.invariant.noted.queue

pub note_slot-requires-clause-reference : goal.note_slot-requires-clause-reference
note_slot-requires-clause-reference c =
    let s = c.args.scope.now in
    let xs = c.as_slice-slot-items.result.now in
    let p : ℕ = get_or xs c.loop-slot.slot-index 0 in
    let listed = c.as_slice-slot-items.ensures ∙ c.in_ok-slots.ensures in
    subst (λ x. IsReference s.heap.now x) (sym (c.at.ensures ∙ ap (λ l. get_or l p 0) c.words-words.ensures.same))
    (card_reference s.heap.now c.requires.scope.valid c.args.card p (subst (λ l. Contains l p) listed (Contains-get_or xs c.loop-slot.slot-index 0 c.loop-slot-test.true)))

pub loop-slot-preserved : goal.loop-slot-preserved
loop-slot-preserved c =
    let s = c.args.scope.now in
    let xs = c.as_slice-slot-items.result.now in
    let i : ℕ = c.loop-slot.slot-index in
    let p : ℕ = get_or xs i 0 in
    let there = c.at.ensures ∙ ap (λ l. get_or l p 0) c.words-words.ensures.same in
    record {
      noted =
          noted_more s c.requires.scope (λ p. names_in s (word s.heap.now p)) xs i 0 c.args.self.now c.loop-slot.self c.note_slot.new.self c.loop-slot-test.true c.loop-slot.invariant.noted
          (subst (λ x. HasNoted s (names_in s x) c.loop-slot.self c.note_slot.new.self) there c.in_ok-note_slot.ensures.noted);
      listed =
          listed_more (λ p. leads_of s p (word s.heap.now p)) xs i 0 c.args.leads.now.items c.loop-slot.leads.items c.note_slot.new.leads.items c.loop-slot-test.true c.loop-slot.invariant.listed
          (c.in_ok-note_slot.ensures.listed ∙ ap (λ x. c.loop-slot.leads.items ++ leads_of s p x) there);
    }

pub returns-clause-noted : goal.returns-clause-noted
returns-clause-noted c =
    let s = c.args.scope.now in
    let xs = c.as_slice-slot-items.result.now in
    subst (λ l. HasNoted s (flat_map (λ p. names_in s (word s.heap.now p)) l) c.args.self.now c.loop-slot.self)
    (take_all c.loop-slot.slot-index xs c.loop-slot-test.false ∙ c.as_slice-slot-items.ensures ∙ c.in_ok-slots.ensures) c.loop-slot.invariant.noted

pub returns-clause-listed : goal.returns-clause-listed
returns-clause-listed c =
    let s = c.args.scope.now in
    let xs = c.as_slice-slot-items.result.now in
    c.loop-slot.invariant.listed ∙ ap (λ l. c.args.leads.now.items ++ flat_map (λ p. leads_of s p (word s.heap.now p)) l)
    (take_all c.loop-slot.slot-index xs c.loop-slot-test.false ∙ c.as_slice-slot-items.ensures ∙ c.in_ok-slots.ensures)
