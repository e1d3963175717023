use Rattle.std.proofs.Common.{◌++◌, ◌∷◌, [], cond, filter, get_or, take, append-nil, ap, sym, ◌∙◌, arith}
use Rattle.std.proofs.lemmas.List.{take_all}
use Rattle.std.proofs.lemmas.List.Elements.{filter_more}
use Rattle.g1_copy.specs.Remembered.{stays}
use Rattle.g1_copy.proofs.remembering.kept_cards.Goals as goal
use Rattle.g1_copy.proofs.remembering.kept_cards.Goals.{then-stays+in_ok-push, else-stays}

pub loop-card-preserved : goal.loop-card-preserved
loop-card-preserved c =
    let keep = stays c.args.heap.now c.args.fates.now in
    let cards = c.args.cards.now in
    let i = c.loop-card.card-index in
    let before = filter keep (take i cards) in
    let more = sym (filter_more keep cards i 0 c.loop-card-test.true) in
    elim c.if-stays.branch [
      | then-stays+in_ok-push w ↦
          ap (λ v. v.items) w.kept-is ∙ w.in_ok-push.ensures.items ∙ ap (λ l. l ++ get_or cards i 0 ∷ []) c.loop-card.invariant
          ∙ ap (λ b. before ++ cond b (get_or cards i 0 ∷ []) []) (sym w.if-stays.true ∙ c.stays.ensures) ∙ more
      | else-stays w ↦
          ap (λ v. v.items) w.kept-is ∙ c.loop-card.invariant ∙ sym (append-nil before)
          ∙ ap (λ b. before ++ cond b (get_or cards i 0 ∷ []) []) (sym w.if-stays.false ∙ c.stays.ensures) ∙ more
    ]

pub returns : goal.returns
returns c = c.loop-card.invariant ∙ ap (filter (stays c.args.heap.now c.args.fates.now)) (take_all c.loop-card.card-index c.args.cards.now c.loop-card-test.false)

pub loop-card-smaller : goal.loop-card-smaller
loop-card-smaller c = omega (arith, c.loop-card-test.true)
