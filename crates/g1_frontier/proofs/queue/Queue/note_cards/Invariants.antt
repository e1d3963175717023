use Rattle.std.proofs.Common.{◌≡◌, ◌++◌, take, flat_map}
use Rattle.g1_frontier.specs.Queue.{card_leads, card_names, HasNoted}
use Rattle.g1_frontier.proofs.queue.Queue.note_cards.Given as goal

abbrev pub invariant-loop-card : goal.invariant-loop-card
invariant-loop-card l = record {
  noted : HasNoted l.scope (flat_map (card_names l.scope) (take l.card-index l.cards)) l.initial.self l.self;
  listed : l.leads.items ≡ l.initial.leads.items ++ flat_map (card_leads l.scope) (take l.card-index l.cards);
}
