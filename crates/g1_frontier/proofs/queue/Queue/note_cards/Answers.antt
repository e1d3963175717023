use Rattle.std.proofs.Common.{◌∙◌, ◌++◌, ap, sym, flat_map, subst, append-nil}
use Rattle.std.proofs.lemmas.List.{take_all}
use Rattle.g1_frontier.specs.Queue.{card_leads, card_names, HasNoted}
use Rattle.g1_frontier.proofs.Queues.{listed_more, noted_more, noted_none}
use Rattle.g1_frontier.proofs.queue.Queue.note_cards.Goals as goal

pub loop-card-init : goal.loop-card-init
loop-card-init c = record {
  noted = noted_none c.args.scope.now c.requires.scope c.args.self.now c.requires.queue;
  listed = sym (append-nil c.args.leads.now.items);
}

pub loop-card-preserved : goal.loop-card-preserved
loop-card-preserved c =
    let s = c.args.scope.now in
    record {
      noted =
          noted_more s c.requires.scope (card_names s) c.args.cards.now c.loop-card.card-index 0 c.args.self.now
          c.loop-card.self c.note_card.new.self c.loop-card-test.true c.loop-card.invariant.noted c.in_ok-note_card.ensures.noted;
      listed =
          listed_more (card_leads s) c.args.cards.now c.loop-card.card-index 0 c.args.leads.now.items
          c.loop-card.leads.items c.note_card.new.leads.items c.loop-card-test.true c.loop-card.invariant.listed c.in_ok-note_card.ensures.listed;
    }

pub note_card-requires-clause-scope : goal.note_card-requires-clause-scope
note_card-requires-clause-scope c = c.requires.scope

pub note_card-requires-clause-queue : goal.note_card-requires-clause-queue
note_card-requires-clause-queue c = c.loop-card.invariant.noted.queue

pub returns-clause-noted : goal.returns-clause-noted
returns-clause-noted c =
    let s = c.args.scope.now in
    subst (λ l. HasNoted s (flat_map (card_names s) l) c.args.self.now c.loop-card.self) (take_all c.loop-card.card-index c.args.cards.now c.loop-card-test.false) c.loop-card.invariant.noted

pub returns-clause-listed : goal.returns-clause-listed
returns-clause-listed c =
    c.loop-card.invariant.listed
    ∙ ap (λ l. c.args.leads.now.items ++ flat_map (card_leads c.args.scope.now) l) (take_all c.loop-card.card-index c.args.cards.now c.loop-card-test.false)

pub note_card-requires-clause-card : goal.note_card-requires-clause-card
note_card-requires-clause-card c = c.requires.cards c.loop-card.card-index 0 c.loop-card-test.true
