use Rattle.std.proofs.Common.{◌≡◌, ◌<◌, ◌-◌, ◌∙◌, length, slice_index, arith, sym, ap}
use Rattle.std.proofs.lemmas.List.{get_or_default}
use Rattle.g1_rem.proofs.Entering.{once_there, once_pushed}
use Rattle.g1_rem.proofs.card_lists.push_once.Goals as goal
use Rattle.g1_rem.proofs.card_lists.push_once.Goals.{else-count-gt0-via-then-count-gt0+else-index-card, else-count-gt0-via-else-count-gt0}

pub returns-then-index-card-clause-ok : goal.returns-then-index-card-clause-ok
returns-then-index-card-clause-ok c = λ before b below e.
    let xs = c.args.cards.now.items in
    let some : 0 < length c.args.cards.now.items = omega (arith, c.if-count-gt0.true, c.len-count.ensures) in
    let place : length c.args.cards.now.items - 1 ≡ c.len-count.result - 1 = omega (arith, c.len-count.ensures) in
    let read = get_or_default xs (c.len-count.result - 1) c.index.result.now 0 (omega (arith, some, c.len-count.ensures)) in
    once_there before xs c.args.card b below e some (ap (slice_index xs) place ∙ sym read ∙ sym c.index.ensures ∙ c.if-index-card.true)

pub returns-clause-ok : goal.returns-clause-ok
returns-clause-ok c = λ before b below e.
    let xs = c.args.cards.now.items in
    c.in_ok-push.ensures.items ∙ once_pushed before xs c.args.card b e (elim c.else-count-gt0.branch [
      | else-count-gt0-via-then-count-gt0+else-index-card w ↦ (λ some last.
          let place : c.len-count.result - 1 ≡ length c.args.cards.now.items - 1 = omega (arith, c.len-count.ensures) in
          let read = get_or_default xs (c.len-count.result - 1) w.index.result.now 0 (omega (arith, some, c.len-count.ensures)) in
          w.if-index-card.false (w.index.ensures ∙ read ∙ ap (slice_index xs) place ∙ last))
      | else-count-gt0-via-else-count-gt0 w ↦ (λ some last. absurd (omega (arith, some, w.if-count-gt0.false, c.len-count.ensures)))
    ])
