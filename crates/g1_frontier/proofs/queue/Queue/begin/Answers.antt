use Rattle.std.proofs.Common.{◌∙◌, ◌++◌, ap, sym, subst, All, ℕ, List, flat_map, replicate, false}
use Rattle.g1_words.specs.Valid.{IsReference}
use Rattle.g1_frontier.specs.declared.queue.Queue.{Queue}
use Rattle.g1_frontier.specs.Scope.{names_in}
use Rattle.g1_frontier.specs.Queue.{card_leads, HasNoted}
use Rattle.g1_frontier.proofs.Queues.{all_leads, empty_queue, begun}
use Rattle.g1_frontier.proofs.queue.Queue.begin.Goals as goal

pub note_words-requires-clause-queue : goal.note_words-requires-clause-queue
note_words-requires-clause-queue c =
    let a : Queue = record { found = c.new.result; marks = c.in_ok-none.field-0 } in
    empty_queue c.args.scope.now c.requires.scope a c.new.ensures.items (c.in_ok-none.ensures ∙ ap (λ n. replicate n false) c.places.ensures)

pub returns-clause-queue : goal.returns-clause-queue
returns-clause-queue c =
    let s = c.args.scope.now in
    let a : Queue = record { found = c.new.result; marks = c.in_ok-none.field-0 } in
    let roots : HasNoted s (flat_map (names_in s) s.heap.now.roots) a c.note_words.new.self =
    subst (λ (l : List ℕ). HasNoted s (flat_map (names_in s) l) a c.note_words.new.self) c.roots.ensures c.in_ok-note_words.ensures in
    begun s c.requires.scope c.args.cards.now c.requires.cards c.requires.outside c.requires.lead_in
    a c.note_words.new.self c.note_cards.new.self c.new.ensures.items roots c.in_ok-note_cards.ensures.noted

pub returns-clause-leads : goal.returns-clause-leads
returns-clause-leads c =
    let s = c.args.scope.now in
    c.in_ok-note_cards.ensures.listed ∙ ap (λ l. l ++ flat_map (card_leads s) c.args.cards.now) c.requires.none
    ∙ all_leads s c.requires.scope c.args.cards.now c.requires.cards c.requires.outside c.requires.lead_in

pub note_words-requires-clause-words : goal.note_words-requires-clause-words
note_words-requires-clause-words c =
    let h = c.args.scope.now.heap.now in
    subst (All (IsReference h)) (sym c.roots.ensures) (λ i d lt. c.requires.scope.valid.roots i d lt)
