use Rattle.std.proofs.Common.{◌≡◌, ◌<◌, ◌-◌, ◌/◌, ◌∙◌, true, false, length, slice_index, slice_index_or, arith, sym, ap}
use Rattle.std.proofs.lemmas.List.{get_or_default}
use Rattle.g1_words.specs.Heap.{Heap, card_of}
use Rattle.g1_rem.proofs.Leading.{pass_same, push, entry_fault}
use Rattle.g1_rem.proofs.entries.Entering.take_entry.Goals as goal
use Rattle.g1_rem.proofs.entries.Entering.take_entry.Goals.{After-card_of-card, else-count-gt0-via-then-count-gt0+else-index-card, else-count-gt0-via-else-count-gt0}

-- the card that is asked is the slot's
the_card : (c : After-card_of-card) → c.card_of-card.result ≡ card_of c.args.self.now.image.now.heap c.args.slot
the_card c = c.card_of-card.ensures ∙ ap (λ g. c.args.slot / g.k) c.geometry-geometry.ensures.same ∙ ap (λ (h : Heap). c.args.slot / h.geometry.k) c.heap.ensures.same

pub returns-then-index-card-clause-ahead : goal.returns-then-index-card-clause-ahead
returns-then-index-card-clause-ahead c = λ rest l.
    let b = (goal.at.returns-then-index-card-clause-ahead c).After-card_of-card in
    let some : 0 < length c.args.cards.now.items = omega (arith, c.if-count-gt0.true, c.len-count.ensures) in
    let place : length c.args.cards.now.items - 1 ≡ c.len-count.result - 1 = omega (arith, c.len-count.ensures) in
    let read = get_or_default c.args.cards.now.items (c.len-count.result - 1) c.index.result.now 0 (omega (arith, some, c.len-count.ensures)) in
    let last : slice_index c.args.cards.now.items (length c.args.cards.now.items - 1) ≡ c.card_of-card.result =
    ap (slice_index c.args.cards.now.items) place ∙ sym read ∙ sym c.index.ensures ∙ c.if-index-card.true in
    pass_same c.args.self.now.image.now c.heap.ensures.valid c.args.self.now.region c.args.slot rest c.args.cards.now.items l c.card_of-card.result (the_card b) some last

pub returns-then-not-has-clause-fault : goal.returns-then-not-has-clause-fault
returns-then-not-has-clause-fault c = λ rest l.
    let b = (goal.at.returns-then-not-has-clause-fault c).After-card_of-card in
    entry_fault c.args.self.now.image.now c.heap.ensures.valid c.args.self.now.region c.args.slot rest c.args.cards.now.items l c.requires.entry
    c.card_of-card.result c.args.self.now.known.now (the_card b) c.requires.known cc

pub returns-clause-ahead : goal.returns-clause-ahead
returns-clause-ahead c = λ rest l.
    let b = (goal.at.returns-clause-ahead c).After-card_of-card in
    let marked : slice_index_or c.args.self.now.known.now c.card_of-card.result false ≡ true = cc in
    push c.args.self.now.image.now c.heap.ensures.valid c.args.self.now.region c.args.slot rest c.args.cards.now.items l c.requires.entry
    c.card_of-card.result c.args.self.now.known.now c.push.new.self.items (the_card b)
    (elim c.else-count-gt0.branch [
      | else-count-gt0-via-then-count-gt0+else-index-card w ↦ (λ some same.
          let place : c.len-count.result - 1 ≡ length c.args.cards.now.items - 1 = omega (arith, c.len-count.ensures) in
          let read = get_or_default c.args.cards.now.items (c.len-count.result - 1) w.index.result.now 0 (omega (arith, some, c.len-count.ensures)) in
          w.if-index-card.false (w.index.ensures ∙ read ∙ ap (slice_index c.args.cards.now.items) place ∙ same))
      | else-count-gt0-via-else-count-gt0 w ↦ (λ some same. absurd (omega (arith, some, w.if-count-gt0.false, c.len-count.ensures)))
    ])
    c.requires.known marked c.in_ok-push.ensures.items
